-- The sets that read the lists in entries of elements.
use Rattle.std.proofs.Common.{◌≡◌, inl, inr, ℕ, ◌+◌, ◌-◌, ◌<◌, ◌≤◌, ◌==◌, ◌&&◌, Bool, true, false, cond, List, [], ◌∷◌, length, map, min, Option, Some, None, Ok, Err, nat_le, bit_or, Bor, refl, sym, subst, ap, ◌∙◌, arith}
use Rattle.std.specs.Option.{option_map, option_copied}
use Rattle.std.specs.List.{AllZip, AllByRecursion, filter, last_or}
use Rattle.std.specs.Int.Bits.{or_zero_r}
use Rattle.std.proofs.lemmas.Bool.{eq-eqb, le-leb, lt-leb}
use Rattle.std.proofs.lemmas.List.{length-drop}
use Rattle.std.proofs.Math.Bool.{and-false}
use Rattle.link_base.specs.declared.views.content.Content.{Content}
use Rattle.link_base.specs.declared.views.content.Content.TheVariants as contents
use Rattle.link_base.specs.declared.rows.form.Form.TheVariants as forms
use Rattle.link_base.specs.declared.rows.form.Look.TheVariants as looks
use Rattle.link_base.specs.Frame.{kind_of, pad}
use Rattle.link_base.specs.Buffer.{kind_field_of, payload_of}
use Rattle.link_base.specs.Borrowed.{Borrows, HasContent, elements_at, form_of}
use Rattle.link_base.specs.Class.{Limits}
use Rattle.link_base.specs.Table.{Gives, Shape, One, Nested, class_at, form_at}
use Rattle.link_base.proofs.TableLaws.{lawful}
use Rattle.netlink_packet_route.specs.declared.family.Family.{Family}
use Rattle.netlink_packet_route.specs.declared.family.Family.TheVariants.{Link}
use Rattle.netlink_packet_route.specs.declared.opening.Context.{Context}
use Rattle.netlink_packet_route.specs.Family.{table_of}
use Rattle.netlink_packet_route.specs.Opening.{info_holding, holding_at, IsOpened}
use Rattle.link_messages.specs.Walk.{Item, Walks, Walk}
use Rattle.link_messages.specs.BeforeFault.{Seen, seen_of}
use Rattle.link_messages.specs.Held.{Answers, IsContextIn}
use Rattle.link_messages.proofs.Walking.{walk_unique, last-view, split_short}
use Rattle.link_entries.specs.declared.entry.Entry.{Entry}
use Rattle.link_entries.specs.Entry.{blank}
use Rattle.link_entries.specs.Content.{filled}
use Rattle.link_entries.specs.Flat.{IsElement, Elements, IsGroup, Flat}
use Rattle.nlroute_ffi.specs.Opens.{is_around, around, type_of, OpensIn, OpensOf, OpensElement, OpensAt, Opens, OpensInside, ElementOpens, ElementsOpen, TailOpens}
use Rattle.nlroute_ffi.proofs.OpenedValues.{kind_twice, joined, entry_answers}

-- ---- all of a list

all_weaker : {A : Type 0} (P Q : A → Type 0) (xs : List A) → ((x : A) → P x → Q x) → AllByRecursion P xs → AllByRecursion Q xs
all_weaker P Q [] f h = tt
all_weaker P Q (x ∷ xs) f h = (f x h.0, all_weaker P Q xs f h.1)

all_both : {A : Type 0} (P Q R : A → Type 0) (xs : List A) → ((x : A) → P x → Q x → R x) → AllByRecursion P xs → AllByRecursion Q xs → AllByRecursion R xs
all_both P Q R [] f h k = tt
all_both P Q R (x ∷ xs) f h k = (f x h.0 k.0, all_both P Q R xs f h.1 k.1)

zip_with : {A B : Type 0} (P : A → Type 0) (R S : A → B → Type 0) (xs : List A) (ys : List B) → ((x : A) (y : B) → P x → R x y → S x y) → AllByRecursion P xs → AllZip R xs ys → AllZip S xs ys
zip_with P R S [] [] f h k = tt
zip_with P R S (x ∷ xs) (y ∷ ys) f h k = (f x y h.0 k.0, zip_with P R S xs ys f h.1 k.1)
zip_with P R S [] (y ∷ ys) f h k = absurd k
zip_with P R S (x ∷ xs) [] f h k = absurd k

-- ---- where attributes are

-- none of these starts before an offset, and each header ends in the list
starts : (n : ℕ) (s : List ℕ) (items : List Item) (t : List ℕ) → Walks n s items t → AllByRecursion (λ x. n - length s ≤ x.0) items
starts n s [] t w = tt
starts n s (x ∷ items) t w =
    let u = w.1.0 in
    let short = split_short s x.1 u w.1.1 in
    (omega (arith, w.0), all_weaker (λ y. n - length u ≤ y.0) (λ y. n - length s ≤ y.0) items (λ y h. omega (arith, h, short.1)) (starts n u items t w.1.2))

headers : (n : ℕ) (s : List ℕ) (items : List Item) (t : List ℕ) → length s ≤ n → Walks n s items t → AllByRecursion (λ x. x.0 + 4 ≤ n) items
headers n s [] t le w = tt
headers n s (x ∷ items) t le w =
    let short = split_short s x.1 w.1.0 w.1.1 in (omega (arith, w.0, short.0, le), headers n w.1.0 items t (omega (arith, short.1, le)) w.1.2)

around_before : (kind offset : ℕ) (x : Item) → offset < x.0 + 4 → is_around kind offset x ≡ false
around_before kind offset x h =
    let a = kind_of (kind_field_of x.1) == kind in
    ap (λ t. a && (t && nat_le offset (x.0 + 4 + length (payload_of x.1)))) (lt-leb (x.0 + 4) offset h) ∙ and-false a

around_after : (kind offset : ℕ) (x : Item) → x.0 + 4 + length (payload_of x.1) < offset → is_around kind offset x ≡ false
around_after kind offset x h =
    let a = kind_of (kind_field_of x.1) == kind in
    let b = nat_le (x.0 + 4) offset in
    ap (λ t. a && (b && t)) (lt-leb offset (x.0 + 4 + length (payload_of x.1)) h) ∙ ap (λ t. a && t) (and-false b) ∙ and-false a

around_itself : (offset : ℕ) (x : Item) → x.0 + 4 ≤ offset → offset ≤ x.0 + 4 + length (payload_of x.1) → is_around (kind_of (kind_field_of x.1)) offset x ≡ true
around_itself offset x low high =
    let k = kind_of (kind_field_of x.1) in
    ap (λ t. t && (nat_le (x.0 + 4) offset && nat_le offset (x.0 + 4 + length (payload_of x.1)))) (eq-eqb k k refl)
    ∙ ap (λ t. t && nat_le offset (x.0 + 4 + length (payload_of x.1))) (le-leb (x.0 + 4) offset low) ∙ le-leb offset (x.0 + 4 + length (payload_of x.1)) high

none_around : (kind offset : ℕ) (items : List Item) → AllByRecursion (λ x. offset < x.0 + 4) items → filter (is_around kind offset) items ≡ []
none_around kind offset [] h = refl
none_around kind offset (x ∷ items) h =
    let rest = filter (is_around kind offset) items in ap (λ t. cond t (x ∷ rest) rest) (around_before kind offset x h.0) ∙ none_around kind offset items h.1

-- it is the attribute around each offset in its payload
abbrev IsFoundIn : List Item → Item → Type 0
IsFoundIn items x = (offset : ℕ) → x.0 + 4 ≤ offset → offset ≤ x.0 + 4 + length (payload_of x.1) → around (kind_of (kind_field_of x.1)) offset items ≡ Some x

each_found : (n : ℕ) (s : List ℕ) (items : List Item) (t : List ℕ) → length s ≤ n → Walks n s items t → AllByRecursion (IsFoundIn items) items
each_found n s [] t le w = tt
each_found n s (x ∷ items) t le w =
    let u = w.1.0 in
    let end = x.0 + 4 + length (payload_of x.1) in
    let short = split_short s x.1 u w.1.1 in
    let far : 4 + length (payload_of x.1) + length u ≤ length s =
    omega (arith, short.0, ap length w.1.1.1, length-drop (min (pad (4 + length (payload_of x.1))) (length s)) s) in
    let later : AllByRecursion (λ y. end ≤ y.0) items =
    all_weaker (λ y. n - length u ≤ y.0) (λ y. end ≤ y.0) items (λ y h. omega (arith, h, w.0, far, le)) (starts n u items t w.1.2) in
    let here : IsFoundIn (x ∷ items) x = λ offset low high.
    let k = kind_of (kind_field_of x.1) in
    let rest = filter (is_around k offset) items in
    ap (λ t. last_or None (cond t (x ∷ rest) rest)) (around_itself offset x low high)
    ∙ ap (λ ys. last_or None (x ∷ ys)) (none_around k offset items (all_weaker (λ y. end ≤ y.0) (λ y. offset < y.0 + 4) items (λ y h. omega (arith, h, high)) later)) in (
      here,
      all_both (λ y. end ≤ y.0) (IsFoundIn items) (IsFoundIn (x ∷ items)) items
          (λ y after found offset low high.
          let k = kind_of (kind_field_of y.1) in
          let rest = filter (is_around k offset) items in
          ap (λ t. last_or None (cond t (x ∷ rest) rest)) (around_after k offset x (omega (arith, after, low))) ∙ found offset low high)
          later (each_found n u items t (omega (arith, short.1, le)) w.1.2),
    )

-- ---- in another walk over the list

abbrev is_seen_around : ℕ → ℕ → Seen → Bool
is_seen_around kind offset x = (kind_of x.1 == kind) && (nat_le (x.0 + 4) offset && nat_le offset (x.0 + 4 + length x.2))

same_around : (kind offset : ℕ) (xs ys : List Item) → map seen_of xs ≡ map seen_of ys → option_map seen_of (around kind offset xs) ≡ option_map seen_of (around kind offset ys)
same_around kind offset xs ys e =
    last-view seen_of (is_seen_around kind offset) None xs ∙ ap (λ zs. last_or None (filter (is_seen_around kind offset) zs)) e ∙ sym (last-view seen_of (is_seen_around kind offset) None ys)

seen_some : (o : Option Item) (x : Item) → option_map seen_of o ≡ Some (seen_of x) → (y : Item) × (o ≡ Some y) × (seen_of y ≡ seen_of x)
seen_some None x h = absurd cc
seen_some (Some y) x h = (y, refl, cc)

-- ---- the set

-- the bytes of a nested list are its payload
list_payload : (o : Option Shape) (p : List ℕ) (list : Bor (List ℕ)) (flagged : Bool) → Borrows o p (contents.List list flagged) → list.now ≡ p
list_payload (Some (Nested flag rows)) p list flagged h = h
list_payload (Some (One Limits)) p list flagged h = absurd h
list_payload o p list flagged h = absurd h

-- a content that is a nested list
opens_nest : (context : Context) (family : Family) (e : Entry) (k : ℕ) (p nest : List ℕ) (content : Content) (flagged : Bool) (set : Option Family) → form_of content ≡ Some (forms.List flagged)
    → Borrows (class_at (table_of family) k) p content → p ≡ nest → OpensIn context family e content set → OpensInside context family e.kind nest (type_of e) set
opens_nest context family e k p nest (contents.List list flagged) also set form borrows same (inner, is, opens) =
    (inner, subst (λ bytes. IsContextIn context bytes inner) (list_payload (class_at (table_of family) k) p list flagged borrows ∙ same) is, opens)
opens_nest context family e k p nest content flagged set form borrows same opens = absurd cc

-- an attribute that looks like a nested list
opens_of : (context : Context) (family : Family) (e : Entry) (x y : Item) (nest : Bor (List ℕ)) (flagged : Bool) (set : Option Family) → HasContent (table_of family) x.1 (contents.List nest flagged) → seen_of y ≡ seen_of x
    → OpensOf context family e y.1 set → OpensInside context family e.kind nest.now (type_of e) set
opens_of context family e x y nest flagged set has same (inl (content, also, opens)) =
    let table = table_of family in
    let form : form_of content ≡ Some (forms.List flagged) = also.form ∙ ap (λ s. form_at table (kind_of s.1)) same ∙ sym has.form in
    let bytes : payload_of y.1 ≡ nest.now = ap (λ s. s.2) same ∙ sym (list_payload (class_at table (kind_of (kind_field_of x.1))) (payload_of x.1) nest flagged has.borrows) in
    opens_nest context family e (kind_of (kind_field_of y.1)) (payload_of y.1) nest.now content flagged set form also.borrows bytes opens
opens_of context family e x y nest flagged set has same (inr (fault, gives, none)) =
    let table = table_of family in
    let again : Gives table (kind_field_of x.1) (payload_of x.1) (Err fault) = subst (λ s. Gives table s.1 s.2 (Err fault)) same gives in
    absurd (has.decodes (λ v. let one : Ok v.0 ≡ Err fault = (lawful table).reading.one (kind_field_of x.1) (payload_of x.1) (Ok v.0) (Err fault) v.1 again in absurd cc))

-- an offset in a nested list
opens_inside : (context : Context) (family : Family) (list : List ℕ) (items : List Item) (x : Item) (nest : Bor (List ℕ)) (flagged : Bool) (e : Entry) (set : Option Family) → Walk list items None → IsFoundIn items x
    → HasContent (table_of family) x.1 (contents.List nest flagged) → e.kind ≡ kind_of (kind_field_of x.1) → x.0 + 4 ≤ e.offset → e.offset ≤ x.0 + 4 + length (payload_of x.1)
    → OpensAt 1 context family e list set → OpensInside context family e.kind nest.now (type_of e) set
opens_inside context family list items x nest flagged e set walk found has kind low high (others, fault, also, opens) =
    let here : around e.kind e.offset items ≡ Some x = subst (λ k. around k e.offset items ≡ Some x) (sym kind) (found e.offset low high) in
    let seen = same_around e.kind e.offset items others (walk_unique list items others None fault walk also).0 in
    let (y, is, same) = seen_some (around e.kind e.offset others) x (sym seen ∙ ap (option_map seen_of) here) in
    opens_of context family e x y nest flagged set has same (subst (λ o. OpensElement context family e o set) is opens)

-- ---- entries

-- the flag of an element does not matter
same_inner : (inner : Context) (family : Family) (k f : ℕ) → holding_at inner family (Some k) (bit_or (kind_of f) 0) ≡ holding_at inner family (Some k) f
same_inner inner Link k f =
    ap (λ t. cond (k == 18) (info_holding (option_copied inner.info_kind) (option_copied inner.port_kind) t) None) (ap kind_of (or_zero_r (kind_of f)) ∙ kind_twice f)
same_inner inner family k f = refl

typed : (context : Context) (family : Family) (k : ℕ) (nest : List ℕ) (f : ℕ) (set : Option Family) → OpensInside context family k nest (bit_or (kind_of f) 0) set → OpensInside context family k nest f set
typed context family k nest f set (inner, is, opens) = (inner, is, subst (λ h. IsOpened h set) (same_inner inner family k f) opens)

-- the entry of an element with this `nla_type` and this content
element_opens : (context : Context) (family : Family) (list : List ℕ) (items : List Item) (x : Item) (nest : Bor (List ℕ)) (flagged : Bool) (f : ℕ) (content : Content) (offset size : ℕ) (set : Option Family)
    → Walk list items None → IsFoundIn items x → HasContent (table_of family) x.1 (contents.List nest flagged) → x.0 + 4 ≤ offset → offset ≤ x.0 + 4 + length (payload_of x.1)
    → Answers 1 (Some (kind_of (kind_field_of x.1))) (OpensAt 1 context family (filled f content 0 (blank (kind_of (kind_field_of x.1)) (kind_of f) 1 offset size)) list) content set
    → Answers 1 (Some (kind_of (kind_field_of x.1))) (OpensInside context family (kind_of (kind_field_of x.1)) nest.now f) content set
element_opens context family list items x nest flagged f (contents.Other p) offset size set walk found has low high h =
    subst (λ t. OpensInside context family (kind_of (kind_field_of x.1)) nest.now t set) (joined f) (opens_inside context family list items x nest flagged (filled f (contents.Other p) 0 (blank (kind_of (kind_field_of x.1)) (kind_of f) 1 offset size)) set walk found has refl low high h)
element_opens context family list items x nest flagged f (contents.Bytes looks.Held p) offset size set walk found has low high h =
    typed context family (kind_of (kind_field_of x.1)) nest.now f set (opens_inside context family list items x nest flagged (filled f (contents.Bytes looks.Held p) 0 (blank (kind_of (kind_field_of x.1)) (kind_of f) 1 offset size)) set walk found has refl low high h)
element_opens context family list items x nest flagged f (contents.Bytes looks.Peer p) offset size set walk found has low high h = h
element_opens context family list items x nest flagged f (contents.Bytes looks.Address p) offset size set walk found has low high h = h
element_opens context family list items x nest flagged f (contents.Bytes looks.Text p) offset size set walk found has low high h = h
element_opens context family list items x nest flagged f content offset size set walk found has low high h = h

elements_open : (context : Context) (family : Family) (list : List ℕ) (items : List Item) (x : Item) (content : Content) (es : List Entry) → Walk list items None → IsFoundIn items x
    → HasContent (table_of family) x.1 content → Elements (table_of family) (kind_of (kind_field_of x.1)) (x.0 + 4) content es → ElementsOpen context family list (kind_of (kind_field_of x.1)) content es
elements_open context family list items x (contents.List nest flagged) es walk found has (inners, inner_walk, each) =
    let table = table_of family in
    let k = kind_of (kind_field_of x.1) in
    let n = length nest.now in
    let same : nest.now ≡ payload_of x.1 = list_payload (class_at table k) (payload_of x.1) nest flagged has.borrows in (
      inners,
      inner_walk,
      zip_with (λ y. y.0 + 4 ≤ n) (λ y e. IsElement (elements_at table k) k (x.0 + 4 + (y.0 + 4)) y.1 e) (ElementOpens context family list k nest.now) inners es
          (λ y e within is. (
            is.0,
            is.1,
            λ set h.
                let f = kind_field_of y.1 in
                let offset = x.0 + 4 + (y.0 + 4) in
                let size = length (payload_of y.1) in
                element_opens context family list items x nest flagged f is.0 offset size set walk found has (omega arith) (omega (arith, within, ap length same))
                (entry_answers context family f is.0 0 (blank k (kind_of f) 1 offset size) list set (Some k) refl (subst (λ e. Opens context family e list set) is.2 h)),
          ))
          (headers n nest.now inners inner_walk.rest (omega arith) inner_walk.walks) each,
    )
elements_open context family list items x content es walk found has are = tt

tail_opens : (context : Context) (family : Family) (list : List ℕ) (items : List Item) (x : Item) (es : List Entry) → Walk list items None → IsFoundIn items x → IsGroup (table_of family) x es → TailOpens context family list x es
tail_opens context family list items x [] walk found (content, has, (elements, are, is)) = absurd cc
tail_opens context family list items x (e ∷ es) walk found (content, has, (elements, are, is)) =
    let same : elements ≡ es = cc in
    (content, has, elements_open context family list items x content es walk found has (subst (Elements (table_of family) (kind_of (kind_field_of x.1)) (x.0 + 4) content) same are))

pub tails_open : (context : Context) (family : Family) (list : List ℕ) (es : List Entry) → (flat : Flat (table_of family) list es) → AllZip (TailOpens context family list) flat.items flat.groups
tails_open context family list es flat =
    zip_with (IsFoundIn flat.items) (IsGroup (table_of family)) (TailOpens context family list) flat.items flat.groups (λ x es found group. tail_opens context family list flat.items x es flat.walk found group)
    (each_found (length list) list flat.items flat.walk.rest (omega arith) flat.walk.walks) flat.each
