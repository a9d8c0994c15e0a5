-- What is written of a list whose attributes hold lists, from what was written of its parts.
use Rattle.std.proofs.Common.{◌≡◌, ◌≢◌, ℕ, zero, suc, ◌+◌, ◌-◌, ◌<◌, ◌≤◌, ◌^◌, Bool, true, false, ◌&&◌, List, [], ◌∷◌, ◌++◌, length, take, drop, min, Option, Some, None, Bor, refl, sym, ap, subst, ◌∙◌, arith, append_assoc, inl, inr}
use Rattle.std.specs.Prelude.{nat_lt, if◌then◌else◌}
use Rattle.std.proofs.lemmas.Bool.{ltb-false, not-true}
use Rattle.std.proofs.lemmas.List.{append-nil, length-append, take-append-drop, length-take-le}
use Rattle.link_base.specs.declared.wire.buffer.NlaBuffer.{NlaBuffer}
use Rattle.link_base.specs.declared.views.content.Content.{Content}
use Rattle.link_base.specs.declared.views.content.Content.TheVariants as contents
use Rattle.link_base.specs.declared.rows.form.Look.TheVariants as looks
use Rattle.link_base.specs.declared.wire.fault.Cause.{Cause}
use Rattle.link_base.specs.declared.wire.fault.DecodeFault.{DecodeFault}
use Rattle.link_base.specs.declared.wire.fault.DecodeFault.TheVariants as faults
use Rattle.link_base.specs.Frame.{kind_of, pad}
use Rattle.link_base.specs.Number.{bytes_of}
use Rattle.link_base.specs.Buffer.{SplitsFirst, kind_field_of, payload_of}
use Rattle.link_base.specs.Class.{Limits}
use Rattle.link_base.specs.Table.{Shape, One, Nested}
use Rattle.link_base.specs.Borrowed.{Borrows, HasContent}
use Rattle.link_base.specs.Viewed.{FaultsFirst}
use Rattle.netlink_packet_route.specs.declared.family.Family.{Family}
use Rattle.netlink_packet_route.specs.declared.opening.Context.{Context}
use Rattle.netlink_packet_route.specs.Family.{table_of}
use Rattle.netlink_packet_route.specs.Opening.{holding_at, IsOpened}
use Rattle.link_messages.specs.Finding.{Stretch}
use Rattle.link_messages.specs.Held.{Answers, is_headed, list_in, context_in}
use Rattle.link_messages.specs.Shown.{Added, Display, Nest, Shower, rows_in, nest_at, shows_unless, is_well, ShowsHeld, ShowsSingle, ShowsInner, ShowsInners, ShowsDecoded, ShowsItem, Decodes, Fails, end_of, Shows, shows_in}
use Rattle.link_messages.specs.Walk.{Item, Walks, IsEnd, Walk}
use Rattle.link_messages.specs.Within.{IsWithin, within_self}
use Rattle.link_messages.proofs.Walking.{end_splits}
use Rattle.link_messages.proofs.Listing.{and_true, and_false, ShownTo, LeadTo, lead_on, shown_more}

-- ---- parts of a list

-- the attributes of a list up to a rest of it are before that
before_rest : (n : ℕ) (s : List ℕ) (items : List Item) (t : List ℕ) → Walks n s items t → (before : List ℕ) × (s ≡ before ++ t)
before_rest n s [] t h = ([], h)
before_rest n s (x ∷ items) t (place, (u, split, walks)) =
    let step = min (pad (4 + length (payload_of x.1))) (length s) in
    let (before, is) = before_rest n u items t walks in
    let cut : s ≡ take step s ++ (before ++ t) = sym (take-append-drop step s) ∙ ap (λ z. take step s ++ z) (sym split.1 ∙ is) in
    (take step s ++ before, cut ∙ sym (append_assoc (take step s) before t))

-- the payload of an attribute behind those
pub payload_within : (list : Stretch) (items : List Item) (rest next : List ℕ) (b : NlaBuffer) (at : ℕ) → LeadTo list.1 rest items → SplitsFirst rest b next → at ≡ list.0 + (length list.1 - length rest)
    → IsWithin list (at + 4, payload_of b)
payload_within list items rest next b at walks split place =
    let (before, is) = before_rest (length list.1) list.1 items rest walks in
    let head = bytes_of 2 (4 + length (payload_of b)) ++ bytes_of 2 (kind_field_of b) in
    let p = payload_of b in
    let r = split.0.rest in
    let size : length head ≡ 4 = refl in
    let shape : before ++ ((bytes_of 2 (4 + length p) ++ (bytes_of 2 (kind_field_of b) ++ (p ++ []))) ++ r) ≡ (before ++ head) ++ (p ++ r) = simp (append_assoc, append-nil) in
    record {
      before = before ++ head;
      after = r;
      bytes = is ∙ ap (λ z. before ++ z) split.0.string ∙ shape;
      at = omega (arith, place, size, ap length is, length-append before rest, length-append before head);
    }

pub within_room : (whole part : Stretch) → IsWithin whole part → whole.0 + length whole.1 < 2 ^ 64 → part.0 + length part.1 < 2 ^ 64
within_room whole part h room = omega (arith, h.at, ap length h.bytes, length-append h.before (part.1 ++ h.after), length-append part.1 h.after, room)

-- the list in a payload
headed_long : (content : Content) (p : List ℕ) → is_headed content p ≡ true → 16 ≤ length p
headed_long (contents.Bytes looks.Peer q) p h = omega (arith, ltb-false (length p) 16 (not-true (nat_lt (length p) 16) h))
headed_long content p h = absurd cc

split_within : (b : Bool) (payload : Stretch) → (b ≡ true → 16 ≤ length payload.1) → IsWithin payload (if b then (payload.0 + 16, drop 16 payload.1) else payload)
split_within false payload long = within_self payload
split_within true payload long = record {
  before = take 16 payload.1;
  after = [];
  bytes = sym (take-append-drop 16 payload.1) ∙ ap (λ z. take 16 payload.1 ++ z) (sym (append-nil (drop 16 payload.1)));
  at = omega (arith, length-take-le 16 payload.1 (long refl));
}

pub held_reached : (reaches : Stretch → Type 0) → ((list inner : Stretch) → reaches list → IsWithin list inner → reaches inner) → (content : Content) (payload list : Stretch) → list ≡ list_in content payload
    → reaches payload → reaches list
held_reached reaches part content payload list is h =
    subst reaches (sym is) (part payload (list_in content payload) h (split_within (is_headed content payload.1) payload (headed_long content payload.1)))

-- ---- an attribute that is no nested list

module _ {Y : Type 0} (d : Display Y) where
  -- its list is opened
  pub opened_shown : (n : ℕ) (context below : Context) (level at : ℕ) (family : Family) (k : Option ℕ) (b : NlaBuffer) (content : Content) (set : Family) (f : ℕ) (h : Nest) (inner : List Y) (whole : Bool) (out : List Y) (well : Bool)
      → Answers n k (IsOpened (holding_at context family k f)) content (Some set) → 0 < n → f ≡ kind_field_of b → h ≡ nest_at family k (Some set) at b content → below ≡ context_in h.header context
      → Shows d (n - 1) below (level + 1) set h.list inner whole → d.around level h inner whole out well → ShowsSingle d n (shows_in d n) context level at family k b content out well
  opened_shown zero context below level at family k b content set f h inner whole out well answer some same is deep shown around = absurd (omega (arith, some))
  opened_shown (suc n) context below level at family k b content set f h inner whole out well answer some same is deep shown around =
      let less : suc n - 1 ≡ n = omega arith in
      let here = subst (λ x. Shows d n x (level + 1) set h.list inner whole) deep (subst (λ m. Shows d m below (level + 1) set h.list inner whole) less shown) in (
        Some set,
        subst (λ z. Answers (suc n) k (IsOpened (holding_at context family k z)) content (Some set)) same answer,
        subst (λ z. ShowsHeld d level z (Shows d n (context_in z.header context) (level + 1) set z.list) out well) is (inner, whole, here, around),
      )

  -- ---- an attribute of a set

  -- a nested list
  pub nested_shown : (n : ℕ) (shows : Shower Y) (context : Context) (level at : ℕ) (family : Family) (b : NlaBuffer) (list : Bor (List ℕ)) (flagged : Bool) (h : Nest) (in_family : Family) (k : ℕ) (bytes : List ℕ)
      (inner : List Y) (whole : Bool) (out : List Y) (well : Bool) → HasContent (table_of family) b (contents.List list flagged) → h ≡ nest_at family None None at b (contents.List list flagged)
      → in_family ≡ family → k ≡ kind_of (kind_field_of b) → bytes ≡ list.now → ShowsInners d n shows context (level + 1) (at + 4) in_family k bytes inner whole → d.around level h inner whole out well
      → ShowsDecoded d n shows context level at family b out well
  nested_shown n shows context level at family b list flagged h in_family k bytes inner whole out well has is f e l shown around =
      (contents.List list flagged, has, (inner, whole, rw (f, e, l) at shown, subst (λ z. d.around level z inner whole out well) is around))

  -- another attribute
  pub single_shown : (n : ℕ) (shows : Shower Y) (context : Context) (level at : ℕ) (family : Family) (b c : NlaBuffer) (in_family : Family) (content : Content) (out : List Y) (well : Bool)
      → HasContent (table_of family) b content → c ≡ b → in_family ≡ family → ((list : Bor (List ℕ)) (flagged : Bool) → content ≡ contents.List list flagged → ⊥)
      → ShowsSingle d n shows context level at in_family None c content out well → ShowsDecoded d n shows context level at family b out well
  single_shown n shows context level at family b c in_family (contents.List list flagged) out well has same f other shown = absurd (other list flagged refl)
  single_shown n shows context level at family b c in_family content out well has same f other shown = (content, has, rw (same, f) at shown)

-- the bytes of a nested list are its payload
pub list_payload : (o : Option Shape) (p : List ℕ) (list : Bor (List ℕ)) (flagged : Bool) → Borrows o p (contents.List list flagged) → list.now ≡ p
list_payload (Some (Nested flag rows)) p list flagged h = h
list_payload (Some (One Limits)) p list flagged h = absurd h
list_payload o p list flagged h = absurd h

-- ---- the elements of a nested list

module _ {W Y : Type 0} (adds : W → W → List Y → Type 0) (d : Display Y) (n : ℕ) (shows : Shower Y) (inner : Context) (level base : ℕ) (family : Family) (k : ℕ) (list : List ℕ) where
  -- what was written of the elements before `rest`
  abbrev pub InnersTo : List ℕ → W → W → Bool → Type 0
  InnersTo rest = ShownTo adds (ShowsInner d n shows inner level base family k) (LeadTo list rest)

  -- one more
  pub inner_more : ((old mid new : W) (s t : List Y) → adds old mid s → adds mid new t → adds old new (s ++ t)) → (rest next : List ℕ) (old mid new : W) (whole well : Bool) (b c : NlaBuffer) (at : ℕ) (content : Content)
      → InnersTo rest old mid whole → SplitsFirst rest b next → HasContent (rows_in family (Some k)) b content → at ≡ base + (length list - length rest) → c ≡ b
      → Added adds (ShowsSingle d n shows inner level at family (Some k) c content) mid new well → InnersTo next old new (whole && well)
  inner_more more rest next old mid new whole well b c at content h split has place same (out, shown, written) =
      shown_more (LeadTo list next) (length list - length rest, b) out old mid new whole well (more old mid new) (lead_on list rest next b split) h (content, has, rw (place, same) at shown) written

-- ---- the list of a set

module _ {W Y : Type 0} (adds : W → W → List Y → Type 0) (d : Display Y) (n : ℕ) (context : Context) (level : ℕ) (family : Family) (list : Stretch) where
  -- what was written of the attributes before `rest`; or of all, and of the error of a header
  pub data ItemsTo (rest : List ℕ) (old new : W) (whole : Bool) : Type 0 where
    Going : ShownTo adds (ShowsItem d n (shows_in d n) context level list.0 family) (LeadTo list.1 rest) old new whole → ItemsTo rest old new whole
    Broken : rest ≡ [] → Added adds (Shows d n context level family list) old new whole → ItemsTo rest old new whole

  -- the payload of the next
  pub next_within : (rest next : List ℕ) (old new : W) (whole : Bool) (b : NlaBuffer) (at : ℕ) → ItemsTo rest old new whole → SplitsFirst rest b next → at ≡ list.0 + (length list.1 - length rest)
      → IsWithin list (at + 4, payload_of b)
  next_within rest next old new whole b at (Broken e w) split place = absurd (end_splits 0 rest None b next e split)
  next_within rest next old new whole b at (Going h) split place = payload_within list h.items rest next b at h.leads split place

  module _ (more : (old mid new : W) (s t : List Y) → adds old mid s → adds mid new t → adds old new (s ++ t)) where
    -- the end of the list: that of its bytes, or the error of a header
    items_end : (rest : List ℕ) (old mid new : W) (whole : Bool) (fault : Option (ℕ × Cause)) → ShownTo adds (ShowsItem d n (shows_in d n) context level list.0 family) (LeadTo list.1 rest) old mid whole
        → IsEnd (length list.1) rest fault → adds mid new (end_of d level family list.0 fault) → Added adds (Shows d n context level family list) old new (whole && is_well fault)
    items_end rest old mid new whole fault h end written =
        let walk : Walk list.1 h.items fault = record { rest = rest; walks = h.leads; end = end } in
        let out = h.out ++ end_of d level family list.0 fault in
        (out, record { items = h.items; fault = fault; walk = walk; front = h.out; well = whole; each = h.each; joined = refl; all = refl }, more old mid new h.out (end_of d level family list.0 fault) h.written written)

    pub items_all : (rest : List ℕ) (old new : W) (whole : Bool) → adds new new [] → ItemsTo rest old new whole → rest ≡ [] → Added adds (Shows d n context level family list) old new whole
    items_all rest old new whole none (Broken e w) empty = w
    items_all rest old new whole none (Going h) empty = rw and_true at (items_end rest old new new whole None h empty none)

    -- a value more
    pub decoded_more : (rest next : List ℕ) (old mid new : W) (whole well : Bool) (b : NlaBuffer) (at : ℕ) → ItemsTo rest old mid whole → SplitsFirst rest b next → at ≡ list.0 + (length list.1 - length rest)
        → Added adds (shows_unless (d.omits context family (kind_of (kind_field_of b))) (ShowsDecoded d n (shows_in d n) context level at family b)) mid new well → ItemsTo next old new (whole && well)
    decoded_more rest next old mid new whole well b at (Broken e w) split place added = absurd (end_splits 0 rest None b next e split)
    decoded_more rest next old mid new whole well b at (Going h) split place (out, shown, written) =
        let here = subst (λ i. shows_unless (d.omits context family (kind_of (kind_field_of b))) (ShowsDecoded d n (shows_in d n) context level i family b) out well) place shown in
        Going (shown_more (LeadTo list.1 next) (length list.1 - length rest, b) out old mid new whole well (more old mid new) (lead_on list.1 rest next b split) h (Decodes here) written)

    -- an error more
    pub fault_more : (rest next : List ℕ) (old mid new : W) (whole : Bool) (at : ℕ) (fault : DecodeFault) → ItemsTo rest old mid whole → rest ≢ [] → at ≡ list.0 + (length list.1 - length rest)
        → FaultsFirst (table_of family) rest fault next → adds mid new (d.error level family at fault) → ItemsTo next old new false
    fault_more rest next old mid new whole at fault (Broken e w) some place first written = absurd (some e)
    fault_more rest next old mid new whole at fault (Going h) some place (inl (b, split, gives)) written =
        let failed = Fails fault gives (ap (λ i. d.error level family i fault) place) refl in
        subst (ItemsTo next old new) (and_false whole)
        (Going (shown_more (LeadTo list.1 next) (length list.1 - length rest, b) (d.error level family at fault) old mid new whole false (more old mid new) (lead_on list.1 rest next b split) h failed written))
    fault_more rest next old mid new whole at fault (Going h) some place (inr (c, bad, is, empty)) written =
        let reported = subst (λ i. adds mid new (d.error level family i (faults.Frame c))) place (subst (λ f. adds mid new (d.error level family at f)) is written) in
        Broken empty (rw and_false at (items_end rest old mid new whole (Some (length list.1 - length rest, c)) h (some, refl, bad) reported))
