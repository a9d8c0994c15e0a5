-- What holds of the output of each attribute holds of that of a list.
use Rattle.std.proofs.Common.{◌≡◌, ℕ, zero, suc, ◌+◌, Bool, true, false, ◌&&◌, List, [], ◌++◌, Option, Some, None, Bor, refl, sym, subst}
use Rattle.std.specs.Prelude.{nat_lt}
use Rattle.link_base.specs.declared.wire.buffer.NlaBuffer.{NlaBuffer}
use Rattle.link_base.specs.declared.wire.fault.Cause.{Cause}
use Rattle.link_base.specs.declared.wire.fault.DecodeFault.{DecodeFault}
use Rattle.link_base.specs.declared.wire.fault.DecodeFault.TheVariants as faults
use Rattle.link_base.specs.declared.views.content.Content.{Content}
use Rattle.link_base.specs.declared.views.content.Content.TheVariants as contents
use Rattle.link_base.specs.Frame.{kind_of}
use Rattle.link_base.specs.Buffer.{kind_field_of, payload_of}
use Rattle.link_base.specs.Borrowed.{HasContent}
use Rattle.netlink_packet_route.specs.declared.family.Family.{Family}
use Rattle.netlink_packet_route.specs.declared.opening.Context.{Context}
use Rattle.netlink_packet_route.specs.Family.{table_of}
use Rattle.link_messages.specs.Finding.{Stretch}
use Rattle.link_messages.specs.Held.{may_hold, answers_if, header_before, list_in, context_in}
use Rattle.link_messages.specs.Shown.{Display, Shower, rows_in, nest_at, shows_unless, ShowsSingle, ShowsInner, ShowsInners, ShowsKnown, ShowsDecoded, ShowsItem, Decodes, Fails, end_of, ShowsItems, shows_none, Shows}
use Rattle.link_messages.specs.Walk.{Item}
use Rattle.link_messages.proofs.Listing.{all_any, each_hold}

held_may : (b c : Bool) (opens : Option Family → Type 0) (set : Family) → answers_if (b && c) opens (Some set) → c ≡ true
held_may true true opens set h = refl
held_may true false opens set h = absurd cc
held_may false c opens set h = absurd cc

-- P holds of what is shown of attributes of a set, or of its nested lists of a type, if n levels of lists are opened
module _ {Y : Type 0} (d : Display Y) (P : Option ℕ → ℕ → List Y → Type 0) (none : (k : Option ℕ) (n : ℕ) → P k n []) (both : (k : Option ℕ) (n : ℕ) (s t : List Y) → P k n s → P k n t → P k n (s ++ t))
    (error : (n level : ℕ) (family : Family) (at : ℕ) (fault : DecodeFault) → P None n (d.error level family at fault))
    (leaf : (n : ℕ) (context : Context) (level : ℕ) (family : Family) (k : Option ℕ) (b : NlaBuffer) (content : Content) (out : List Y) → HasContent (rows_in family k) b content
    → d.leaf context level family k b content out → P k n out)
    (opened : (n level at : ℕ) (family : Family) (k : Option ℕ) (set : Family) (b : NlaBuffer) (content : Content) (inner : List Y) (whole : Bool) (out : List Y) (well : Bool) → may_hold k content ≡ true
    → P None n inner → d.around level (nest_at family k (Some set) at b content) inner whole out well → P k (suc n) out)
    (nested : (n level at : ℕ) (family : Family) (k : ℕ) (b : NlaBuffer) (list : Bor (List ℕ)) (flagged : Bool) (inner : List Y) (whole : Bool) (out : List Y) (well : Bool)
    → P (Some k) n inner → d.around level (nest_at family None None at b (contents.List list flagged)) inner whole out well → P None n out) where
  -- lists that are shown so are opened at a level less
  abbrev HoldBelow : ℕ → Shower Y → Type 0
  HoldBelow n shows = (context : Context) (level : ℕ) (family : Family) (list : Stretch) (out : List Y) (well : Bool) → shows context level family list out well → (m : ℕ) × (n ≡ suc m) × P None m out

  module _ (n : ℕ) (shows : Shower Y) (below : HoldBelow n shows) where
    single_holds : (context : Context) (level at : ℕ) (family : Family) (k : Option ℕ) (b : NlaBuffer) (content : Content) (out : List Y) (well : Bool) → HasContent (rows_in family k) b content
        → ShowsSingle d n shows context level at family k b content out well → P k n out
    single_holds context level at family k b content out well has (None, answer, (shown, e)) = leaf n context level family k b content out has shown
    single_holds context level at family k b content out well has (Some set, answer, (inner, whole, shown, around)) =
        let held = below (context_in (header_before content (payload_of b)) context) (level + 1) set (list_in content (at + 4, payload_of b)) inner whole shown in
        subst (λ z. P k z out) (sym held.1) (opened held.0 level at family k set b content inner whole out well (held_may (nat_lt 0 n) (may_hold k content) _ set answer) held.2 around)

    inners_hold : (context : Context) (level base : ℕ) (family : Family) (k : ℕ) (list : List ℕ) (out : List Y) (well : Bool) → ShowsInners d n shows context level base family k list out well → P (Some k) n out
    inners_hold context level base family k list out well (inner, is, items, walk, each) =
        each_hold (λ x. Unit {0}) (ShowsInner d n shows inner level base family k) (λ out well. P (Some k) n out) (none (Some k) n) (λ s t v w. both (Some k) n s t)
        (λ x out well t (content, has, shown). single_holds inner level (base + x.0) family (Some k) x.1 content out well has shown) items out well (all_any items) each

    known_holds : (context : Context) (level at : ℕ) (family : Family) (b : NlaBuffer) (content : Content) (out : List Y) (well : Bool) → HasContent (table_of family) b content
        → ShowsKnown d n shows context level at family b content out well → P None n out
    known_holds context level at family b (contents.List list flagged) out well has (inner, whole, shown, around) =
        let k = kind_of (kind_field_of b) in
        nested n level at family k b list flagged inner whole out well (inners_hold context (level + 1) (at + 4) family k list.now inner whole shown) around
    known_holds context level at family b content out well has shown = single_holds context level at family None b content out well has shown

    unless_holds : (left_out : Bool) (context : Context) (level at : ℕ) (family : Family) (b : NlaBuffer) (out : List Y) (well : Bool)
        → shows_unless left_out (ShowsDecoded d n shows context level at family b) out well → P None n out
    unless_holds true context level at family b out well (is, e) = subst (P None n) (sym is) (none None n)
    unless_holds false context level at family b out well (content, has, shown) = known_holds context level at family b content out well has shown

    item_holds : (context : Context) (level base : ℕ) (family : Family) (x : Item) (out : List Y) (well : Bool) → ShowsItem d n shows context level base family x out well → P None n out
    item_holds context level base family x out well (Decodes shown) = unless_holds _ context level (base + x.0) family x.1 out well shown
    item_holds context level base family x out well (Fails fault gives is e) = subst (P None n) (sym is) (error n level family (base + x.0) fault)

    end_holds : (level : ℕ) (family : Family) (base : ℕ) (fault : Option (ℕ × Cause)) → P None n (end_of d level family base fault)
    end_holds level family base None = none None n
    end_holds level family base (Some fault) = error n level family (base + fault.0) (faults.Frame fault.1)

    items_hold : (context : Context) (level : ℕ) (family : Family) (list : Stretch) (out : List Y) (well : Bool) → ShowsItems d n shows context level family list out well → P None n out
    items_hold context level family list out well s =
        let front = each_hold (λ x. Unit {0}) (ShowsItem d n shows context level list.0 family) (λ out well. P None n out) (none None n) (λ s t v w. both None n s t)
        (λ x out well t shown. item_holds context level list.0 family x out well shown) s.items s.front s.well (all_any s.items) s.each in
        subst (P None n) (sym s.joined) (both None n s.front (end_of d level family list.0 s.fault) front (end_holds level family list.0 s.fault))

  pub shows_hold : (n : ℕ) (context : Context) (level : ℕ) (family : Family) (list : Stretch) (out : List Y) (well : Bool) → Shows d n context level family list out well → P None n out
  shows_hold zero context level family list out well s = items_hold zero (shows_none d) (λ c l f r o w none. absurd none) context level family list out well s
  shows_hold (suc n) context level family list out well s =
      items_hold (suc n) (Shows d n) (λ c l f r o w shown. (n, refl, shows_hold n c l f r o w shown)) context level family list out well s
