-- What is read of the elements that entries encode to.
use Rattle.std.proofs.Common.{◌≡◌, ℕ, ◌+◌, ◌-◌, ◌*◌, ◌/◌, ◌%◌, ◌<◌, ◌≤◌, ◌==◌, true, false, cond, min, List, [], ◌∷◌, ◌++◌, length, take, drop, Ok, refl, sym, ap, ap₂, subst, ◌∙◌, arith, take_at, drop-drop}
use Rattle.std.specs.List.{AllZip, AllByRecursion, filter}
use Rattle.std.proofs.lemmas.Bool.{eq-eqb}
use Rattle.std.proofs.lemmas.List.{length-append, length-take, drop_at}
use Rattle.link_base.specs.declared.wire.buffer.NlaBuffer.{NlaBuffer}
use Rattle.link_base.specs.declared.rows.form.ArrayOf.{ArrayOf}
use Rattle.link_base.specs.declared.rows.form.ArrayOf.TheVariants.{I32}
use Rattle.link_base.specs.declared.rows.form.Order.TheVariants as orders
use Rattle.link_base.specs.Number.{number}
use Rattle.link_base.specs.Layout.{numbers_at}
use Rattle.link_base.specs.Forms.{width_in, size_in}
use Rattle.link_base.specs.Frame.{kind_of, frame_bytes, pad}
use Rattle.link_base.specs.Wire.{whole}
use Rattle.link_base.specs.Table.{Table}
use Rattle.link_base.specs.Buffer.{kind_field_of, payload_of as payload_after, frame_of, SplitsFirst}
use Rattle.link_base.specs.WellFormed.{is_table}
use Rattle.link_base.proofs.Cuts.{SameFront-frames, IsFrame-complete}
use Rattle.link_base.proofs.FrameBytes.{length-frame_bytes, length-complete}
use Rattle.link_base.proofs.Written.{IsComplete-whole}
use Rattle.link_messages.specs.Walk.{Item, Walks}
use Rattle.link_messages.proofs.Walking.{split_short}
use Rattle.link_entries.specs.declared.entry.Entry.{Entry}
use Rattle.link_entries.specs.Forms.{form_unsigned, form_ipv4, form_ipv6}
use Rattle.link_entries.specs.Entry.{blank, padded}
use Rattle.link_entries.specs.Flat.{indexed, held_number, number_entry, number_entries, address_entry, is_address, IsElement}
use Rattle.link_entries.proofs.OneContent.{entry_read}
use Rattle.link_entries.proofs.EntryFields.{AreBelow, keeps_filled}
use Rattle.link_entries.specs.declared.fields.Fields.{Fields}
use Rattle.link_entries.specs.declared.fields.Fields.TheVariants as fields
use Rattle.link_entries.specs.Fields.{array_number, ip_address, fields_at}
use Rattle.link_entries.specs.Payload.{payload_of, field_of}
use Rattle.link_entries.specs.Encoded.{elements_of}
use Rattle.link_entries.specs.Agreement.{IsEntry, SameContent, IsSame, element_fields, SameInner}
use Rattle.link_entries.proofs.RowForms.{is_list, with_kind, field_kind}
use Rattle.link_entries.proofs.Encodings.{frame_low}
use Rattle.link_entries.proofs.BackValues.{StandsAt}
use Rattle.link_entries.proofs.BackElements.{bytes_of_item}
use Rattle.link_entries.proofs.Located.{Located, located_in, Suffix, suffix_payload, suffix_rest}
use Rattle.link_entries.proofs.WrittenLists.{same_encodings, form_held, framed_ok}
use Rattle.link_entries.proofs.WrittenDecodes.{array_size, numbers_length}
use Rattle.link_entries.proofs.WrittenParts.{field_held, field_low, goes}
use Rattle.link_entries.proofs.AgreeClasses.{number_read, signed_read, address_is, address_read, same_content, same_of, single_read}

-- ---- the first attribute of some bytes

-- it is the one that was written there
pub record IsFirst (b : NlaBuffer) (u : List ℕ) (f : ℕ) (p t : List ℕ) : Type 0 where
  pub field : kind_field_of b ≡ f
  pub payload : payload_after b ≡ p
  pub rest : u ≡ t

pub first_is : (s : List ℕ) (b : NlaBuffer) (u : List ℕ) (f : ℕ) (p t : List ℕ) → f < 65536 → length p ≤ 65531 → s ≡ frame_bytes (whole f p) ++ t → SplitsFirst s b u → IsFirst b u f p t
first_is s b u f p t low short is h =
    let x = whole f p in
    let complete = IsComplete-whole f p low short in
    let same = SameFront-frames x (frame_of b) t h.0.rest (IsFrame-complete x complete) h.0.is (sym is ∙ h.0.string) in
    let len : length (frame_bytes x) ≡ pad (4 + length p) = length-complete x complete in
    let size : length s ≡ length (frame_bytes x) + length t = ap length is ∙ length-append (frame_bytes x) t in
    let here : min (pad (4 + length p)) (length s) ≡ length (frame_bytes x) = omega (arith, len, size) in
    let step : min (pad (4 + length (payload_after b))) (length s) ≡ length (frame_bytes x) = ap (λ q. min (pad (4 + length q)) (length s)) (sym same.payload) ∙ here in
    record {
      field = sym same.kind_field;
      payload = sym same.payload;
      rest = h.1 ∙ ap₂ (λ n q. drop n q) step is ∙ drop_at (frame_bytes x) t (length (frame_bytes x)) refl;
    }

-- no bytes have no attribute
pub no_first : (s : List ℕ) (b : NlaBuffer) (u : List ℕ) → s ≡ [] → SplitsFirst s b u → ⊥
no_first s b u none h = let short = (split_short s b u h).0 in absurd (omega (arith, short, ap length none))

pub not_empty : (f : ℕ) (p t s : List ℕ) → s ≡ frame_bytes (whole f p) ++ t → s ≡ [] → ⊥
not_empty f p t s is none = absurd (omega (arith, ap length is, ap length none, length-append (frame_bytes (whole f p)) t, length-frame_bytes (whole f p)))

-- ---- entries that were read

-- the entry of an element
pub record ElementAs (table : Table) (own : Fields) (k : ℕ) (octets list : List ℕ) (e r : Entry) : Type 0 where
  pub deep : e.depth ≡ 1
  pub kind : e.kind ≡ k
  pub same : IsSame (element_fields table own e) octets e list r
  pub inner : SameInner own e r

-- ---- numbers

array_read : (a : ArrayOf) (e : Entry) (octets p : List ℕ) → IsEntry e → payload_of (array_number a) e octets ≡ Ok p → held_number a (number p) ≡ e.number
array_read I32 e octets p held h = signed_read e octets p held h
array_read a e octets p held h = number_read e octets p held form_unsigned (width_in a) orders.Little h

same_number : (a : ArrayOf) (octets : List ℕ) (e : Entry) (list : List ℕ) (r : Entry) → r.number ≡ e.number → SameContent (array_number a) octets e list r
same_number I32 octets e list r h = h
same_number a octets e list r h = h

module _ (table : Table) (a : ArrayOf) (k at : ℕ) (octets list : List ℕ) where
  numbers_same : (i j o : ℕ) (es : List Entry) (s p : List ℕ) → AreBelow es → AllByRecursion IsEntry es → elements_of table (fields.Numbers a) k octets i es ≡ Ok s → drop o p ≡ s
      → AllZip (ElementAs table (fields.Numbers a) k octets list) es (indexed (number_entry k at a) j (numbers_at (size_in a) (length es) o p))
  numbers_same i j o [] s p deep held h place = tt
  numbers_same i j o (e ∷ es) s p deep held h place =
      let one = goes table (fields.Numbers a) k octets i e es s (ap (λ n. n == 0) deep.0) h in
      let read = array_read a e octets one.here held.0 one.content in
      let size = array_size a e octets one.here held.0.octets one.content in
      let front : take (size_in a) (drop o p) ≡ one.here = ap (take (size_in a)) (place ∙ one.is) ∙ take_at one.here one.others (size_in a) size in
      let back : drop (o + size_in a) p ≡ one.others = sym (drop-drop (size_in a) o p) ∙ ap (drop (size_in a)) (place ∙ one.is) ∙ drop_at one.here one.others (size_in a) size in
      let same : IsSame (array_number a) octets e list (number_entry k at a j (number (take (size_in a) (drop o p)))) = record {
        kind = sym one.kind;
        depth = sym one.deep;
        form = refl;
        given = form_held (array_number a) e octets one.here one.content;
        content = same_number a octets e list (number_entry k at a j (number (take (size_in a) (drop o p)))) (ap (λ q. held_number a (number q)) front ∙ read);
      } in (
        record {
          deep = one.deep;
          kind = one.kind;
          same = same;
          inner = tt;
        },
        numbers_same (i + 1) (j + 1) (o + size_in a) es one.others p deep.1 held.1 one.later back,
      )

count_of : (a : ArrayOf) (m n : ℕ) → n ≡ m * size_in a → m ≡ n / size_in a
count_of I32 m n h = omega (arith, h)
count_of a m n h = omega (arith, h)

pub array_same : (table : Table) (a : ArrayOf) (k at : ℕ) (octets list : List ℕ) (es : List Entry) (s : List ℕ) → AreBelow es → AllByRecursion IsEntry es → elements_of table (fields.Numbers a) k octets 0 es ≡ Ok s
    → AllZip (ElementAs table (fields.Numbers a) k octets list) es (number_entries k at a s)
array_same table a k at octets list es s deep held h =
    let count = count_of a (length es) (length s) (numbers_length IsEntry (λ e h. h.octets) table a k octets 0 es s deep held h) in
    subst (λ m. AllZip (ElementAs table (fields.Numbers a) k octets list) es (indexed (number_entry k at a) 0 (numbers_at (size_in a) m 0 s))) count
    (numbers_same table a k at octets list 0 0 0 es s s deep held h refl)

-- ---- addresses

module _ (table : Table) (n k at : ℕ) (octets list : List ℕ) (few : n ≤ 16) where
  pub addresses_same : (m i j : ℕ) (es : List Entry) (s : List ℕ) (items : List Item) (u : List ℕ) → AreBelow es → AllByRecursion IsEntry es → elements_of table (fields.Addresses n) k octets i es ≡ Ok s
      → Walks m s items u → u ≡ [] → AllZip (ElementAs table (fields.Addresses n) k octets list) es (indexed (λ i x. address_entry k i (at + (x.0 + 4)) (bytes_of_item x)) j (filter (is_address n) items))
  addresses_same m i j [] s [] u deep held h walks last = tt
  addresses_same m i j [] s (x ∷ items) u deep held h walks last = absurd (no_first s x.1 walks.1.0 (sym (same_encodings [] s h)) walks.1.1)
  addresses_same m i j (e ∷ es) s [] u deep held h walks last =
      let one = goes table (fields.Addresses n) k octets i e es s (ap (λ n. n == 0) deep.0) h in
      let (p, payload, text) = framed_ok i (payload_of (ip_address n) e octets) one.here one.content in
      absurd (not_empty i p one.others s (one.is ∙ ap (λ t. t ++ one.others) text) (walks ∙ last))
  addresses_same m i j (e ∷ es) s (x ∷ items) u deep held h walks last =
      let one = goes table (fields.Addresses n) k octets i e es s (ap (λ n. n == 0) deep.0) h in
      let (p, payload, text) = framed_ok i (payload_of (ip_address n) e octets) one.here one.content in
      let code = cond (n == 4) form_ipv4 form_ipv6 in
      let is = address_is e octets p held.0 code n payload in
      let size : length p ≡ n = omega (arith, ap length is, length-take n e.octets, held.0.octets, few) in
      let whole_text : s ≡ frame_bytes (whole (i % 65536) p) ++ one.others = one.is ∙ ap (λ t. t ++ one.others) (text ∙ sym (frame_low i p)) in
      let first = first_is s x.1 walks.1.0 (i % 65536) p one.others (omega arith) (omega (arith, size, few)) whole_text walks.1.1 in
      let long : length (bytes_of_item x) ≡ n = ap length first.payload ∙ size in
      let right : is_address n x ≡ true = eq-eqb (length (bytes_of_item x)) n long in
      let rest = addresses_same m (i + 1) (j + 1) es one.others items u deep.1 held.1 one.later (subst (λ t. Walks m t items u) first.rest walks.1.2) last in
      let same : IsSame (ip_address n) octets e list (address_entry k j (at + (x.0 + 4)) (bytes_of_item x)) = record {
        kind = sym one.kind;
        depth = sym one.deep;
        form = ap (λ m. cond (m == 4) form_ipv4 form_ipv6) long;
        given = form_held (ip_address n) e octets p payload;
        content = ap (λ q. take n (padded q)) first.payload ∙ address_read e octets p held.0 code n few payload;
      } in
      let this : ElementAs table (fields.Addresses n) k octets list e (address_entry k j (at + (x.0 + 4)) (bytes_of_item x)) = record {
        deep = one.deep;
        kind = one.kind;
        same = same;
        inner = tt;
      } in
      subst (λ b. AllZip (ElementAs table (fields.Addresses n) k octets list) (e ∷ es) (indexed (λ i x. address_entry k i (at + (x.0 + 4)) (bytes_of_item x)) j (cond b (x ∷ filter (is_address n) items) (filter (is_address n) items)))) (sym right)
      (this, rest)

-- ---- nested lists, in which there are no lists

module _ (table : Table) (formed : is_table table ≡ true) (single : (j : ℕ) → is_list (fields_at table j) ≡ false) (flag k : ℕ) (octets list : List ℕ) where
  abbrev own_of : Entry → Fields
  own_of e = fields_at table e.inner

  -- its `nla_type`
  element_field : (e : Entry) (q : List ℕ) → IsEntry e → payload_of (fields_at table e.inner) (with_kind e e.inner) octets ≡ Ok q
      → (field_of (fields_at table e.inner) e.inner e < 65536) × (kind_of (field_of (fields_at table e.inner) e.inner e) ≡ e.inner)
  element_field e q held h =
      let x : Entry = with_kind e e.inner in
      subst (λ f. (f < 65536) × (kind_of f ≡ e.inner)) (field_kind (own_of e) e.inner e e.inner)
      (field_low e.inner e.flags (field_of (own_of e) e.inner x) (field_held table formed x octets q h) held.flags)

  element_same : (offset : ℕ) (e r : Entry) (b : NlaBuffer) (q : List ℕ) → IsEntry e → e.depth ≡ 1 → e.kind ≡ k → payload_of (fields_at table e.inner) (with_kind e e.inner) octets ≡ Ok q
      → kind_field_of b ≡ field_of (fields_at table e.inner) e.inner e → payload_after b ≡ q → length q ≤ 65531 → Located list offset q → IsElement table k offset b r → ElementAs table (fields.List flag) k octets list e r
  element_same offset e r b q held deep same_kind payload field bytes short stands (content, has, is) =
      let own = own_of e in
      let x : Entry = with_kind e e.inner in
      let f = kind_field_of b in
      let kind : kind_of f ≡ e.inner = ap kind_of field ∙ (element_field e q held payload).1 in
      let keeps = keeps_filled f content 0 (blank k (kind_of f) 1 offset (length (payload_after b))) in
      let bare : Entry = blank k e.inner 1 offset (length q) in
      let at : StandsAt bare list q = record { size = refl; within = stands.within; short = short; is = stands.is } in
      let entry = is ∙ entry_read table b content has 0 (λ j m. blank k j 1 offset m) e.inner q kind bytes in
      let whole_entry : IsEntry x = record { flags = held.flags; second = held.second; number = held.number; octets = held.octets } in
      let read = single_read table formed x octets q whole_entry payload f 0 list bare at (field ∙ sym (field_kind own e.inner e e.inner)) kind (single e.inner) in
      record {
        deep = deep;
        kind = same_kind;
        same =
            same_of own octets list e r _ entry (ap (λ y. y.kind) is ∙ keeps.kind ∙ sym same_kind) (ap (λ y. y.depth) is ∙ keeps.depth ∙ sym deep) (form_held own x octets q payload)
            (read.0, same_content own e e.inner octets list _ read.1);
        inner = ap (λ y. y.inner) is ∙ keeps.inner ∙ kind;
      }

  pub nested_same : (at : ℕ) (p : List ℕ) → length p ≤ 65531 → Located list at p → (i : ℕ) (es : List Entry) (s : List ℕ) (items : List Item) (t : List ℕ) (rs : List Entry) → AreBelow es → AllByRecursion IsEntry es
      → elements_of table (fields.List flag) k octets i es ≡ Ok s → Walks (length p) s items t → t ≡ [] → Suffix p s → AllZip (λ x r. IsElement table k (at + (x.0 + 4)) x.1 r) items rs
      → AllZip (ElementAs table (fields.List flag) k octets list) es rs
  nested_same at p few here i [] s [] t [] deep held h walks last suffix each = tt
  nested_same at p few here i [] s (x ∷ items) t rs deep held h walks last suffix each = absurd (no_first s x.1 walks.1.0 (sym (same_encodings [] s h)) walks.1.1)
  nested_same at p few here i (e ∷ es) s [] t rs deep held h walks last suffix each =
      let one = goes table (fields.List flag) k octets i e es s (ap (λ n. n == 0) deep.0) h in
      let (q, payload, text) = framed_ok (field_of (own_of e) e.inner e) (payload_of (own_of e) (with_kind e e.inner) octets) one.here one.content in
      absurd (not_empty (field_of (own_of e) e.inner e) q one.others s (one.is ∙ ap (λ t. t ++ one.others) text) (walks ∙ last))
  nested_same at p few here i (e ∷ es) s (x ∷ items) t (r ∷ rs) deep held h walks last suffix each =
      let one = goes table (fields.List flag) k octets i e es s (ap (λ n. n == 0) deep.0) h in
      let (q, payload, text) = framed_ok (field_of (own_of e) e.inner e) (payload_of (own_of e) (with_kind e e.inner) octets) one.here one.content in
      let f = field_of (own_of e) e.inner e in
      let low = (element_field e q held.0 payload).0 in
      let small = suffix.low in
      let short : length q ≤ 65531 = omega (arith, few, small, ap length one.is, length-append one.here one.others, ap length text, length-frame_bytes (whole f q)) in
      let u = walks.1.0 in
      let split = walks.1.1 in
      let first = first_is s x.1 u f q one.others low short (one.is ∙ ap (λ t. t ++ one.others) text) split in
      let place : x.0 + 4 ≡ length p - length s + 4 = ap (λ n. n + 4) walks.0 in
      let inside : Located p (x.0 + 4) (payload_after x.1) = subst (λ n. Located p n (payload_after x.1)) (sym place) (suffix_payload p s x.1 u suffix split) in
      let stands : Located list (at + (x.0 + 4)) q = subst (λ b. Located list (at + (x.0 + 4)) b) first.payload (located_in list p (payload_after x.1) at (x.0 + 4) here inside) in
      let this = element_same (at + (x.0 + 4)) e r x.1 q held.0 one.deep one.kind payload first.field first.payload short stands each.0 in (
        this,
        nested_same at p few here (i + 1) es one.others items t rs deep.1 held.1 one.later (subst (λ y. Walks (length p) y items t) first.rest walks.1.2) last (subst (λ y. Suffix p y) first.rest (suffix_rest p s x.1 u suffix split)) each.1,
      )
  nested_same at p few here i es s items t rs deep held h walks last suffix each = absurd each
