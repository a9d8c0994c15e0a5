-- Elements that were read encode to what a rewriting writes.
use Rattle.std.proofs.Common.{◌≡◌, ℕ, zero, suc, ◌+◌, ◌*◌, ◌/◌, ◌%◌, ◌<◌, ◌≤◌, ◌==◌, ◌&&◌, true, false, cond, List, [], ◌∷◌, ◌++◌, length, drop, map, inl, inr, Ok, Err, refl, sym, ap, ap₂, subst, ◌∙◌, arith, drop-drop, ◌-◌, Option, Some, None, Result}
use Rattle.std.specs.List.{AllZip, AllByRecursion, filter}
use Rattle.std.proofs.lemmas.Bool.{cases_Bool, eqb-true, eq-eqb}
use Rattle.std.proofs.lemmas.List.{nil_from_length, length-drop, take-append-drop}
use Rattle.std.specs.Int.{w32}
use Rattle.std.proofs.lemmas.Int.{of_z-to_z}
use Rattle.link_base.specs.declared.rows.form.ArrayOf.{ArrayOf}
use Rattle.link_base.specs.declared.rows.form.ArrayOf.TheVariants.{I32}
use Rattle.link_base.specs.Forms.{width_in, size_in}
use Rattle.link_base.specs.Number.{IsBytes, bytes_of, bound}
use Rattle.link_base.specs.Layout.{numbers_at, numbers_of, octets_of}
use Rattle.link_base.specs.Frame.{Frame, Frames, frame_bytes, bytes_of_frames, kind_of}
use Rattle.link_base.specs.Wire.{whole, Reading, FrameGives, Wire}
use Rattle.link_base.specs.Table.{Table, addresses_from, of_length, PayloadGives, Rows, Leaf, AttrValue, class_at, LeafGives, leaf_by, GivesBy, Gives, written_kind, written_payload, written_list}
use Rattle.link_base.specs.Buffer.{kind_field_of, payload_of as payload_after}
use Rattle.link_base.proofs.ViewLemmas.{first_value, split_of, frames_none}
use Rattle.link_base.proofs.Readings.{same_ok}
use Rattle.link_messages.specs.Walk.{Item, Walks}
use Rattle.link_entries.specs.declared.entry.Entry.{Entry}
use Rattle.link_entries.specs.Forms.{form_unsigned, form_ipv4, form_ipv6}
use Rattle.link_entries.specs.Flat.{indexed, held_number, number_entry, number_entries, address_entry, is_address, IsElement}
use Rattle.link_entries.specs.declared.fields.Fields.{Fields}
use Rattle.link_entries.specs.declared.fields.Fields.TheVariants as fields
use Rattle.link_entries.specs.declared.misfit.Misfit.TheVariants.{BadElement}
use Rattle.link_entries.specs.Fields.{array_number, ip_address, fields_at}
use Rattle.link_entries.specs.Payload.{form_in, payload_of, field_of}
use Rattle.link_entries.specs.Encoded.{alone, before, framed, element_content, element_of, elements_of, begins_well}
use Rattle.link_entries.proofs.BackValues.{number_back, signed_back, at_back, at_below, address_back, StandsAt}
use Rattle.link_base.specs.declared.wire.buffer.NlaBuffer.{NlaBuffer}
use Rattle.link_base.specs.declared.wire.fault.DecodeFault.{DecodeFault}
use Rattle.link_base.specs.Class.{Class, class_value}
use Rattle.link_base.specs.Lift.{lift, lift_table}
use Rattle.link_base.specs.WellFormed.{is_table}
use Rattle.link_base.proofs.Lifted.{lift_option, class_at-lift, leaf_is}
use Rattle.link_base.proofs.Values.{bytes-take, bytes-drop}
use Rattle.link_entries.specs.Entry.{blank}
use Rattle.link_entries.proofs.EntryFields.{keeps_filled}
use Rattle.link_entries.proofs.RowForms.{is_list, with_kind}
use Rattle.link_entries.proofs.BackSingles.{single_back}
use Rattle.link_entries.proofs.Located.{Located, located_in, Suffix, suffix_payload, suffix_rest}

-- no elements where an attribute begins, or nothing
pub elements_end : (table : Table) (own : Fields) (k : ℕ) (octets : List ℕ) (i : ℕ) (rest : List Entry) → begins_well rest ≡ true → elements_of table own k octets i rest ≡ Ok []
elements_end table own k octets i [] h = refl
elements_end table own k octets i (e ∷ es) h = ap (λ b. cond b (Ok []) (before (alone (element_of table own k i e octets)) (elements_of table own k octets (i + 1) es))) h

-- an element of a list of its type
pub element_right : (table : Table) (own : Fields) (k i : ℕ) (e : Entry) (octets s : List ℕ) → e.depth ≡ 1 → e.kind ≡ k → element_content table own i e octets ≡ Ok s → element_of table own k i e octets ≡ Ok s
element_right table own k i e octets s deep kind is =
    ap₂ (λ a b. cond (a && b) (element_content table own i e octets) (Err BadElement)) (eq-eqb e.depth 1 deep) (eq-eqb e.kind k kind) ∙ is

-- one element, and others
pub elements_next : (table : Table) (own : Fields) (k i : ℕ) (e : Entry) (es : List Entry) (octets s t : List ℕ) → e.depth ≡ 1 → element_of table own k i e octets ≡ Ok s → elements_of table own k octets (i + 1) es ≡ Ok t
    → elements_of table own k octets i (e ∷ es) ≡ Ok (s ++ t)
elements_next table own k i e es octets s t deep here others =
    ap (λ n. cond (n == 0) (Ok []) (before (alone (element_of table own k i e octets)) (elements_of table own k octets (i + 1) es))) deep
    ∙ ap₂ (λ a b. before (alone a) b) here others

-- ---- numbers

pub array_back : (a : ArrayOf) (e : Entry) (octets : List ℕ) (x : ℕ) → e.form ≡ form_in (array_number a) → e.number ≡ held_number a x → x < bound (size_in a) → payload_of (array_number a) e octets ≡ Ok (bytes_of (size_in a) x)
array_back I32 e octets x form is low = signed_back e octets x low form is ∙ ap (λ y. Ok (bytes_of 4 y)) (of_z-to_z w32 x low)
array_back a e octets x form is low = number_back form_unsigned (width_in a) e octets form (omega (arith, is, low)) ∙ ap (λ y. Ok (bytes_of (size_in a) y)) is

module _ (table : Table) (a : ArrayOf) (k at : ℕ) (octets : List ℕ) (rest : List Entry) (end : begins_well rest ≡ true) where
  numbers_encoded : (i j : ℕ) (xs : List ℕ) → AllByRecursion (λ x. x < bound (size_in a)) xs
      → elements_of table (fields.Numbers a) k octets i (indexed (number_entry k at a) j xs ++ rest) ≡ Ok (octets_of (size_in a) xs)
  numbers_encoded i j [] h = elements_end table (fields.Numbers a) k octets i rest end
  numbers_encoded i j (x ∷ xs) h =
      let e = number_entry k at a j x in
      let here = array_back a e octets x refl refl h.0 in
      elements_next table (fields.Numbers a) k i e (indexed (number_entry k at a) (j + 1) xs ++ rest) octets (bytes_of (size_in a) x) (octets_of (size_in a) xs) refl
      (element_right table (fields.Numbers a) k i e octets (bytes_of (size_in a) x) refl refl here)
      (numbers_encoded (i + 1) (j + 1) xs h.1)

-- consecutive numbers are in range, and their bytes are the payload
module _ (width : ℕ) (p : List ℕ) (bytes : IsBytes p) where
  numbers_below : (n offset : ℕ) → offset + n * width ≤ length p → AllByRecursion (λ x. x < bound width) (numbers_at width n offset p)
  numbers_below zero offset h = tt
  numbers_below (suc n) offset h = (at_below width offset p bytes (omega (arith, h)), numbers_below n (offset + width) (omega (arith, h)))

  numbers_bytes : (n offset : ℕ) → offset + n * width ≡ length p → octets_of width (numbers_at width n offset p) ≡ drop offset p
  numbers_bytes zero offset h = sym (nil_from_length (drop offset p) (omega (arith, length-drop offset p, h)))
  numbers_bytes (suc n) offset h =
      let others = numbers_bytes n (offset + width) (omega (arith, h)) in
      ap₂ (λ a b. a ++ b) (at_back width offset p bytes (omega (arith, h))) (others ∙ sym (drop-drop width offset p)) ∙ take-append-drop width (drop offset p)

-- an array of numbers
whole_numbers : (a : ArrayOf) (n : ℕ) → n % size_in a ≡ 0 → n / size_in a * size_in a ≡ n
whole_numbers I32 n h = omega (arith, h)
whole_numbers a n h = omega (arith, h)

pub array_encoded : (table : Table) (a : ArrayOf) (k at : ℕ) (p octets : List ℕ) (rest : List Entry) → IsBytes p → begins_well rest ≡ true → length p % size_in a ≡ 0
    → elements_of table (fields.Numbers a) k octets 0 (number_entries k at a p ++ rest) ≡ Ok p
array_encoded table a k at p octets rest bytes end even =
    let width = size_in a in
    let count = length p / width in
    let all : 0 + count * width ≡ length p = omega (arith, whole_numbers a (length p) even) in
    numbers_encoded table a k at octets rest end 0 0 (numbers_of width p) (numbers_below width p bytes count 0 (omega (arith, all)))
    ∙ ap Ok (numbers_bytes width p bytes count 0 all)

-- ---- addresses

-- the payload of an item
abbrev pub bytes_of_item : Item → List ℕ
bytes_of_item x = payload_after x.1

module _ (table : Table) (n k at : ℕ) (octets : List ℕ) (rest : List Entry) (end : begins_well rest ≡ true) (few : n ≤ 16) where
  -- the entry of an address
  abbrev entry_at : ℕ → Item → Entry
  entry_at i x = address_entry k i (at + (x.0 + 4)) (bytes_of_item x)

  all_encoded : (i j : ℕ) (items : List Item) → AllByRecursion (λ x. (length (bytes_of_item x) == n) ≡ true) items
      → elements_of table (fields.Addresses n) k octets i (indexed entry_at j items ++ rest) ≡ Ok (bytes_of_frames (addresses_from i (map bytes_of_item items)))
  all_encoded i j [] h = elements_end table (fields.Addresses n) k octets i rest end
  all_encoded i j (x ∷ items) h =
      let p = bytes_of_item x in
      let e = entry_at j x in
      let size : length p ≡ n = eqb-true (length p) n h.0 in
      let form : e.form ≡ cond (n == 4) form_ipv4 form_ipv6 = ap (λ m. cond (m == 4) form_ipv4 form_ipv6) size in
      let here : payload_of (ip_address n) e octets ≡ Ok p = address_back (cond (n == 4) form_ipv4 form_ipv6) n e octets p form size size few refl in
      let s = frame_bytes (whole i p) in
      elements_next table (fields.Addresses n) k i e (indexed entry_at (j + 1) items ++ rest) octets s (bytes_of_frames (addresses_from (i + 1) (map bytes_of_item items))) refl
      (element_right table (fields.Addresses n) k i e octets s refl refl (ap (framed i) here))
      (all_encoded (i + 1) (j + 1) items h.1)

  pub addresses_encoded : (items : List Item)
      → elements_of table (fields.Addresses n) k octets 0 (indexed entry_at 0 (filter (is_address n) items) ++ rest) ≡ Ok (bytes_of_frames (addresses_from 0 (of_length n (map bytes_of_item items))))
  addresses_encoded items = all_encoded 0 0 (filter (is_address n) items) (all_right items) ∙ ap (λ a. Ok (bytes_of_frames (addresses_from 0 a))) (sym (same items))
    where
      all_right : (items : List Item) → AllByRecursion (λ x. (length (bytes_of_item x) == n) ≡ true) (filter (is_address n) items)
      all_right [] = tt
      all_right (x ∷ items) =
          elim (cases_Bool (is_address n x)) [
            | inl e ↦ subst (λ b. AllByRecursion (λ x. (length (bytes_of_item x) == n) ≡ true) (cond b (x ∷ filter (is_address n) items) (filter (is_address n) items))) (sym e) (e, all_right items)
            | inr e ↦ subst (λ b. AllByRecursion (λ x. (length (bytes_of_item x) == n) ≡ true) (cond b (x ∷ filter (is_address n) items) (filter (is_address n) items))) (sym e) (all_right items)
          ]

      same : (items : List Item) → of_length n (map bytes_of_item items) ≡ map bytes_of_item (filter (is_address n) items)
      same [] = refl
      same (x ∷ items) =
          elim (is_address n x) as (
          λ b. cond b (bytes_of_item x ∷ of_length n (map bytes_of_item items)) (of_length n (map bytes_of_item items)) ≡ map bytes_of_item (cond b (x ∷ filter (is_address n) items) (filter (is_address n) items))
          ) [
            | true ↦ ap (λ t. bytes_of_item x ∷ t) (same items)
            | false ↦ same items
          ]

-- ---- what was read

-- no bytes have no values
pub none_values : {V : Type 0} (gives : Reading V) (s : List ℕ) (vs : List V) → s ≡ [] → Wire gives s vs → vs ≡ []
none_values {V} gives s vs e w = by w.frames (frames_none w.frames (subst (λ t. Frames t w.frames) e w.string)) vs w.values
  where
    by : (xs : List Frame) → xs ≡ [] → (vs : List V) → AllZip (λ x v. FrameGives gives x (Ok v)) xs vs → vs ≡ []
    by [] same [] h = refl
    by [] same (v ∷ vs) h = absurd h
    by (x ∷ xs) same vs h = absurd cc

-- the payloads of a list
pub payloads_read : (n : ℕ) (s : List ℕ) (items : List Item) (t : List ℕ) (vs : List (List ℕ)) → Walks n s items t → t ≡ [] → Wire PayloadGives s vs → vs ≡ map bytes_of_item items
payloads_read n s [] t vs h e w = none_values PayloadGives s vs (h ∙ e) w
payloads_read n s (x ∷ items) t vs h e w =
    let first = first_value PayloadGives s (kind_field_of x.1) (bytes_of_item x) h.1.0 vs (split_of s x.1 h.1.0 h.1.1) w in
    let own : first.value ≡ bytes_of_item x = same_ok first.value (bytes_of_item x) first.given in
    first.is ∙ ap₂ (λ a b. a ∷ b) own (payloads_read n h.1.0 items t first.others h.1.2 e first.wire)

-- ---- the values of a nested list, as those of its table

abbrev lift_result : Result Leaf DecodeFault → Result AttrValue DecodeFault
lift_result (Ok v) = Ok (lift v)
lift_result (Err fault) = Err fault

lifted_by : (o : Option Class) (f : ℕ) (p : List ℕ) (v : Leaf) → Ok v ≡ leaf_by o f p → GivesBy (lift_option o) f p (Ok (lift v))
lifted_by None f p v h = ap lift_result h
lifted_by (Some c) f p v h = ap lift_result h ∙ sym (leaf_is (kind_of f) (class_value c p))

values_lifted : (rows : Rows) (xs : List Frame) (vs : List Leaf) → AllZip (λ x v. LeafGives rows x.kind_field x.payload (Ok v)) xs vs → AllZip (λ x v. Gives (lift_table rows) x.kind_field x.payload (Ok v)) xs (map lift vs)
values_lifted rows [] [] h = tt
values_lifted rows (x ∷ xs) (v ∷ vs) h = (
  subst (λ o. GivesBy o x.kind_field x.payload (Ok (lift v))) (sym (class_at-lift rows (kind_of x.kind_field))) (lifted_by (class_at rows (kind_of x.kind_field)) x.kind_field x.payload v h.0),
  values_lifted rows xs vs h.1,
)
values_lifted rows xs vs h = absurd h

pub wire_lifted : (table : Table) (rows : Rows) (s : List ℕ) (vs : List Leaf) → table ≡ lift_table rows → Wire (LeafGives rows) s vs → Wire (Gives table) s (map lift vs)
wire_lifted table rows s vs same w = subst (λ t. Wire (Gives t) s (map lift vs)) (sym same) (record { frames = w.frames; string = w.string; values = values_lifted rows w.frames vs w.values })

-- ---- elements of a table without lists

module _ (table : Table) (formed : is_table table ≡ true) (single : (j : ℕ) → is_list (fields_at table j) ≡ false) (flag k : ℕ) (list : List ℕ) where
  -- one element
  element_back : (i at : ℕ) (b : NlaBuffer) (e : Entry) (v : AttrValue) → IsBytes (payload_after b) → length (payload_after b) ≤ 65531 → Located list at (payload_after b) → IsElement table k at b e
      → Gives table (kind_field_of b) (payload_after b) (Ok v) → element_content table (fields.List flag) i e list ≡ Ok (frame_bytes (whole (written_kind v) (written_payload v)))
  element_back i at b e v bytes short stands (content, has, is) given =
      let f = kind_field_of b in
      let j = kind_of f in
      let bare : Entry = blank k j 1 at (length (payload_after b)) in
      let inner : e.inner ≡ j = ap (λ x. x.inner) is ∙ (keeps_filled f content 0 bare).inner in
      let here : StandsAt bare list (payload_after b) = record { size = refl; within = stands.within; short = short; is = stands.is } in
      let one = single_back table b content has 0 bare formed list bytes here v given (single j) in
      let own = fields_at table j in
      (λ m. framed (field_of (fields_at table (inner m)) (inner m) (is m)) (payload_of (fields_at table (inner m)) (with_kind (is m) (inner m)) list))
      ∙ ap₂ framed one.field one.payload

  module _ (at : ℕ) (p : List ℕ) (rest : List Entry) (end : begins_well rest ≡ true) (few : length p ≤ 65531) (all_bytes : IsBytes p) (here : Located list at p) where
    -- all elements
    pub nested_encoded : (i : ℕ) (s : List ℕ) (items : List Item) (t : List ℕ) (es : List Entry) (vs : List AttrValue) → Walks (length p) s items t → t ≡ [] → Suffix p s
        → AllZip (λ x e. IsElement table k (at + (x.0 + 4)) x.1 e) items es → Wire (Gives table) s vs → elements_of table (fields.List flag) k list i (es ++ rest) ≡ Ok (written_list vs)
    nested_encoded i s [] t [] vs walks last suffix each wire = elements_end table (fields.List flag) k list i rest end ∙ ap (λ l. Ok (written_list l)) (sym (none_values (Gives table) s vs (walks ∙ last) wire))
    nested_encoded i s (x ∷ items) t (e ∷ es) vs walks last suffix each wire =
        let u = walks.1.0 in
        let split = walks.1.1 in
        let b = x.1 in
        let q = payload_after b in
        let first = first_value (Gives table) s (kind_field_of b) q u vs (split_of s b u split) wire in
        let place : x.0 + 4 ≡ length p - length s + 4 = ap (λ n. n + 4) walks.0 in
        let inside : Located p (x.0 + 4) q = subst (λ n. Located p n q) (sym place) (suffix_payload p s b u suffix split) in
        let stands = located_in list p q at (x.0 + 4) here inside in
        let bytes : IsBytes q = subst IsBytes inside.is (bytes-take (length q) _ (bytes-drop (x.0 + 4) p all_bytes)) in
        let keeps = keeps_filled (kind_field_of b) each.0.0 0 (blank k (kind_of (kind_field_of b)) 1 (at + (x.0 + 4)) (length q)) in
        let deep : e.depth ≡ 1 = ap (λ y. y.depth) each.0.2 ∙ keeps.depth in
        let kind : e.kind ≡ k = ap (λ y. y.kind) each.0.2 ∙ keeps.kind in
        let text = frame_bytes (whole (written_kind first.value) (written_payload first.value)) in
        let one = element_back i (at + (x.0 + 4)) b e first.value bytes (omega (arith, inside.within, few)) stands each.0 first.given in
        elements_next table (fields.List flag) k i e (es ++ rest) list text (written_list first.others) deep
        (element_right table (fields.List flag) k i e list text deep kind one)
        (nested_encoded (i + 1) u items t es first.others walks.1.2 last (suffix_rest p s b u suffix split) each.1 first.wire)
        ∙ ap (λ l. Ok (written_list l)) (sym first.is)
    nested_encoded i s items t es vs walks last suffix each wire = absurd each
