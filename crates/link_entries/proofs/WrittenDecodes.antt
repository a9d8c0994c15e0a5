-- What entries encode to decodes: attributes, elements, and lists.
use Rattle.std.proofs.Common.{◌≡◌, ℕ, ◌+◌, ◌*◌, ◌%◌, ◌<◌, ◌≤◌, ◌==◌, true, false, List, [], ◌∷◌, ◌++◌, length, replicate, Ok, refl, sym, ap, subst, ◌∙◌, arith, inl, inr, cond, Option, Some}
use Rattle.std.specs.List.{AllByRecursion}
use Rattle.std.proofs.lemmas.List.{length-append}
use Rattle.link_base.specs.declared.rows.form.ArrayOf.{ArrayOf}
use Rattle.link_base.specs.Class.{unless, meant, Many}
use Rattle.link_base.specs.Forms.{size_in as each_size}
use Rattle.link_base.specs.Payloads.{class_by}
use Rattle.link_base.specs.Frame.{kind_of, frame_bytes, gap}
use Rattle.link_base.specs.Wire.{Wire, whole}
use Rattle.link_base.specs.Table.{Table, AttrValue, Single, Case, Other, class_at, GivesBy, Gives, single_case, PayloadGives, Shape, One, Nested, Addresses, Inner, Listed, nested_flag, Decodes, of_length}
use Rattle.link_base.specs.WellFormed.{is_table}
use Rattle.link_entries.specs.declared.entry.Entry.{Entry}
use Rattle.link_entries.specs.declared.fields.Fields.TheVariants as fields
use Rattle.link_entries.specs.Fields.{array_number, ip_address, fields_in, fields_at, row_fields}
use Rattle.link_entries.specs.Payload.{payload_of, field_of}
use Rattle.link_entries.specs.Encoded.{element_content, elements_of, attribute_of, entry_of, entries_of, begins_well, encoded_by}
use Rattle.link_entries.proofs.RowForms.{is_list, with_kind, field_kind, NoRow, OneValue, Array, AddressList, NestedList, row_says, value_no_list, RowCase, element_no_list}
use Rattle.link_entries.proofs.Encodings.{frame_low}
use Rattle.link_entries.proofs.WrittenLists.{if_held, same_encodings, framed_ok, wire_none, wire_more, before_ok}
use Rattle.link_entries.proofs.EntryFields.{AreBelow}
use Rattle.link_entries.proofs.WrittenParts.{goes, Parts, parts, single_payload, list_payload, field_held}
use Rattle.link_entries.proofs.WrittenSizes.{written_size, size_back}
use Rattle.std.proofs.lemmas.Bool.{cases_Bool}
use Rattle.link_base.specs.declared.rows.form.ArrayOf.TheVariants.{I32}
use Rattle.link_base.specs.Borrowed.{elements_by, elements_at}
use Rattle.link_base.proofs.ClassLemmas.{at_multiple}
use Rattle.link_base.proofs.Coherence.{elements_formed}
use Rattle.link_base.proofs.Lifted.{leaves_of, nested_values}
use Rattle.link_entries.specs.declared.fields.Fields.{Fields}
use Rattle.link_entries.specs.declared.misfit.Misfit.TheVariants.{BadElement}

-- an entry that a program can hold
abbrev pub IsHeld : Entry → Type 0
IsHeld e = length e.octets ≡ 16

-- ---- attributes

-- a whole attribute that decodes
pub record IsAttribute (table : Table) (s : List ℕ) : Type 0 where
  pub field : ℕ
  pub payload : List ℕ
  pub value : AttrValue
  pub low : field < 65536
  pub short : length payload ≤ 65531
  pub given : Gives table field payload (Ok value)
  pub text : frame_bytes (whole field payload) ≡ s

pub of_value : (table : Table) (g : ℕ) (p s : List ℕ) (v : AttrValue) → length p ≤ 65531 → s ≡ frame_bytes (whole g p) → Gives table (g % 65536) p (Ok v) → IsAttribute table s
of_value table g p s v short text given = record { field = g % 65536; payload = p; value = v; low = omega arith; short = short; given = given; text = frame_low g p ∙ sym text }

-- one without elements of its own
pub single_decodes : (table : Table) → is_table table ≡ true → (e : Entry) (octets p s : List ℕ) → IsHeld e → length p ≤ 65531 → is_list (fields_at table e.kind) ≡ false → payload_of (fields_at table e.kind) e octets ≡ Ok p
    → s ≡ frame_bytes (whole (field_of (fields_at table e.kind) e.kind e) p) → IsAttribute table s
single_decodes table formed e octets p s held short single h text =
    let k = e.kind in
    let g = field_of (fields_at table k) k e in
    let f = g % 65536 in
    let kind : kind_of f ≡ k = (field_held table formed e octets p h).kind in
    elim (row_says table k formed) [
      | NoRow named class ↦ of_value table g p s (Other f p) short text (subst (λ o. GivesBy o f p (Ok (Other f p))) (sym (ap (class_at table) kind ∙ class)) refl)
      | OneValue form names named class one low ↦
          let c = class_by form names in
          let v = Case (kind_of f) (Single (meant c p)) in
          let accepted = size_back e octets p held form names one (ap (λ o. payload_of (fields_in o) e octets) (sym named) ∙ h) in
          of_value table g p s v short text (subst (λ o. GivesBy o f p (Ok v)) (sym (ap (class_at table) kind ∙ class)) (sym (ap (λ o. single_case (kind_of f) (unless o (meant c p))) accepted)))
      | Array a named class low ↦ let no : is_list (fields_at table k) ≡ true = ap (λ o. is_list (fields_in o)) named in absurd cc
      | AddressList n named class few low ↦ let no : is_list (fields_at table k) ≡ true = ap (λ o. is_list (fields_in o)) named in absurd cc
      | NestedList flagged rows named class low ↦ let no : is_list (fields_at table k) ≡ true = ap (λ o. is_list (fields_in o)) named in absurd cc
    ]

-- ---- addresses

module _ (table : Table) (n k : ℕ) (octets : List ℕ) where
  pub addresses_decode : (i : ℕ) (es : List Entry) (s : List ℕ) → AreBelow es → length s ≤ 65531 → elements_of table (fields.Addresses n) k octets i es ≡ Ok s → (vs : List (List ℕ)) × Wire PayloadGives s vs
  addresses_decode i [] s deep few h = ([], subst (λ t. Wire PayloadGives t []) (same_encodings [] s h) (wire_none PayloadGives))
  addresses_decode i (e ∷ es) s deep few h =
      let one = goes table (fields.Addresses n) k octets i e es s (ap (λ m. m == 0) deep.0) h in
      let (p, payload, text) = framed_ok i (payload_of (ip_address n) e octets) one.here one.content in
      let size : length s ≡ length one.here + length one.others = ap length one.is ∙ length-append one.here one.others in
      let (vs, wire) = addresses_decode (i + 1) es one.others deep.1 (omega (arith, size, few)) one.later in
      let short : length p ≤ 65531 = omega (arith, size, few, ap length text, length-append p (replicate (gap p) 0)) in
      let whole_text : frame_bytes (whole (i % 65536) p) ++ one.others ≡ s = ap (λ t. t ++ one.others) (frame_low i p ∙ sym text) ∙ sym one.is in
      (p ∷ vs, subst (λ t. Wire PayloadGives t (p ∷ vs)) whole_text (wire_more PayloadGives (i % 65536) p one.others p vs (omega arith) short refl wire))

-- ---- numbers

-- a number of an array has the bytes of each
pub array_size : (a : ArrayOf) (e : Entry) (octets p : List ℕ) → IsHeld e → payload_of (array_number a) e octets ≡ Ok p → length p ≡ each_size a
array_size I32 e octets p held h = written_size e octets p held fields.Signed refl h
array_size a e octets p held h = written_size e octets p held (array_number a) refl h

module _ (P : Entry → Type 0) (is_held : (e : Entry) → P e → IsHeld e) (table : Table) (a : ArrayOf) (k : ℕ) (octets : List ℕ) where
  pub numbers_length : (i : ℕ) (es : List Entry) (s : List ℕ) → AreBelow es → AllByRecursion P es → elements_of table (fields.Numbers a) k octets i es ≡ Ok s → length s ≡ length es * each_size a
  numbers_length i [] s deep held h = let none = same_encodings [] s h in omega (arith, ap length none)
  numbers_length i (e ∷ es) s deep held h =
      let one = goes table (fields.Numbers a) k octets i e es s (ap (λ n. n == 0) deep.0) h in
      let size = array_size a e octets one.here (is_held e held.0) one.content in
      let rest = numbers_length (i + 1) es one.others deep.1 held.1 one.later in
      omega (arith, ap length one.is, length-append one.here one.others, size, rest)

-- ---- nested lists, in which there are no lists

module _ (table : Table) (formed : is_table table ≡ true) (single : (j : ℕ) → is_list (fields_at table j) ≡ false) (flag k : ℕ) (octets : List ℕ) where
  element_decodes : (i : ℕ) (e : Entry) (s : List ℕ) → IsHeld e → length s ≤ 65531 → element_content table (fields.List flag) i e octets ≡ Ok s → IsAttribute table s
  element_decodes i e s held few h =
      let own = fields_at table e.inner in
      let (p, payload, text) = framed_ok (field_of own e.inner e) (payload_of own (with_kind e e.inner) octets) s h in
      let short : length p ≤ 65531 = omega (arith, few, ap length text, length-append p (replicate (gap p) 0)) in
      single_decodes table formed (with_kind e e.inner) octets p s held short (single e.inner) payload (text ∙ ap (λ f. frame_bytes (whole f p)) (sym (field_kind own e.inner e e.inner)))

  pub nested_decodes : (i : ℕ) (es : List Entry) (s : List ℕ) → AreBelow es → AllByRecursion IsHeld es → length s ≤ 65531 → elements_of table (fields.List flag) k octets i es ≡ Ok s → (vs : List AttrValue) × Wire (Gives table) s vs
  nested_decodes i [] s deep held few h = ([], subst (λ t. Wire (Gives table) t []) (same_encodings [] s h) (wire_none (Gives table)))
  nested_decodes i (e ∷ es) s deep held few h =
      let one = goes table (fields.List flag) k octets i e es s (ap (λ n. n == 0) deep.0) h in
      let size : length s ≡ length one.here + length one.others = ap length one.is ∙ length-append one.here one.others in
      let (vs, wire) = nested_decodes (i + 1) es one.others deep.1 held.1 (omega (arith, size, few)) one.later in
      let a = element_decodes i e one.here held.0 (omega (arith, size, few)) one.content in
      (a.value ∷ vs, subst (λ t. Wire (Gives table) t (a.value ∷ vs)) (ap (λ t. t ++ one.others) a.text ∙ sym one.is) (wire_more (Gives table) a.field a.payload one.others a.value vs a.low a.short a.given wire))

even : (a : ArrayOf) (m n : ℕ) → n ≡ m * each_size a → n % each_size a ≡ 0
even I32 m n h = omega (arith, h)
even a m n h = omega (arith, h)

-- ---- one attribute

module _ (table : Table) (formed : is_table table ≡ true) (octets : List ℕ) (e : Entry) (es : List Entry) (s : List ℕ) (held : IsHeld e) (w : Parts IsHeld table octets e es s) where
  abbrev k : ℕ
  k = e.kind

  abbrev own : Fields
  own = fields_at table e.kind

  abbrev g : ℕ
  g = field_of (fields_at table e.kind) e.kind e

  abbrev p : List ℕ
  p = w.payload

  kind : kind_of (g % 65536) ≡ k
  kind = (field_held table formed e octets w.front w.front_is).kind

  -- no list
  single : is_list own ≡ false → IsAttribute table s
  single plain = single_decodes table formed e octets p s held w.short plain (single_payload IsHeld table octets e es s w plain).1 w.text

  -- a list
  only_elements : (row : Fields) → own ≡ row → is_list row ≡ true → elements_of (elements_at table k) row k octets 0 w.cut.below ≡ Ok p
  only_elements = list_payload IsHeld table octets e es s w

  given_by : (o : Option Shape) (v : AttrValue) → class_at table k ≡ o → GivesBy o (g % 65536) p (Ok v) → IsAttribute table s
  given_by o v class given = of_value table g p s v w.short w.text (subst (λ q. GivesBy q (g % 65536) p (Ok v)) (sym (ap (class_at table) kind ∙ class)) given)

  by_row : RowCase table k → IsAttribute table s
  by_row (NoRow named class) = single (ap (λ o. is_list (fields_in o)) named)
  by_row (OneValue form names named class one low) = single (ap (λ o. is_list (fields_in o)) named ∙ value_no_list (row_fields form) one)
  by_row (Array a named class low) =
      let c = Many (each_size a) in
      let size = numbers_length IsHeld (λ e h. h) (elements_at table k) a k octets 0 w.cut.below p w.cut.deep w.cut.held (only_elements (fields.Numbers a) (ap fields_in named) refl) in
      let accepted = at_multiple (each_size a) (length p) (even a (length w.cut.below) (length p) size) in
      given_by (Some (One c)) (Case (kind_of (g % 65536)) (Single (meant c p))) class (sym (ap (λ o. single_case (kind_of (g % 65536)) (unless o (meant c p))) accepted))
  by_row (AddressList n named class few low) =
      let (vs, wire) = addresses_decode (elements_at table k) n k octets 0 w.cut.below p w.cut.deep w.short (only_elements (fields.Addresses n) (ap fields_in named) refl) in
      given_by (Some (Addresses n)) (Case (kind_of (g % 65536)) (Listed (of_length n vs))) class (Ok vs, wire, refl)
  by_row (NestedList flagged rows named class low) =
      let inner = elements_at table k in
      let same = ap elements_by class in
      let (ms, wire) = nested_decodes inner (elements_formed table k formed) (λ j. element_no_list table k j formed) (nested_flag flagged) k octets 0 w.cut.below p w.cut.deep w.cut.held w.short
      (only_elements (fields.List (nested_flag flagged)) (ap fields_in named) refl) in
      let (vs, lifted) = leaves_of inner rows p ms same wire in
      given_by (Some (Nested flagged rows)) (Case (kind_of (g % 65536)) (Inner flagged vs)) class (nested_values inner rows flagged (kind_of (g % 65536)) p ms vs same lifted wire)

  attribute_decodes : IsAttribute table s
  attribute_decodes = by_row (row_says table k formed)

-- ---- lists

module _ (table : Table) (formed : is_table table ≡ true) (octets : List ℕ) where
  entries_decode : (es : List Entry) (t : List ℕ) → AllByRecursion IsHeld es → entries_of table octets es ≡ Ok t → (vs : List AttrValue) × Wire (Gives table) t vs
  entries_decode [] t held h = ([], subst (λ u. Wire (Gives table) u []) (same_encodings [] t h) (wire_none (Gives table)))
  entries_decode (e ∷ es) t held h =
      let gives = Gives table in
      let both = before_ok (entry_of table octets e es) (entries_of table octets es) t h in
      let (vs, wire) = entries_decode es both.second held.1 both.is_second in
      elim (cases_Bool (e.depth == 0)) [
        | inl flat ↦
            let own : attribute_of table octets e es ≡ Ok both.first = sym (ap (λ b. cond b (attribute_of table octets e es) (Ok [])) flat) ∙ both.is_first in
            let a = attribute_decodes table formed octets e es both.first held.0 (parts IsHeld table octets e es both.first held.1 own) in
            (a.value ∷ vs, subst (λ u. Wire gives u (a.value ∷ vs)) (ap (λ u. u ++ both.second) a.text ∙ sym both.is) (wire_more gives a.field a.payload both.second a.value vs a.low a.short a.given wire))
        | inr deep ↦
            let none : [] ≡ both.first = same_encodings [] both.first (sym (ap (λ b. cond b (attribute_of table octets e es) (Ok [])) deep) ∙ both.is_first) in
            (vs, subst (λ u. Wire gives u vs) (ap (λ u. u ++ both.second) none ∙ sym both.is) wire)
      ]

  pub encoded_decodes : (es : List Entry) (t : List ℕ) → AllByRecursion IsHeld es → encoded_by table octets es ≡ Ok t → Decodes table t
  encoded_decodes es t held h =
      let (vs, wire) = entries_decode es t held (if_held (begins_well es) (0, BadElement) (entries_of table octets es) t h).1 in
      record { values = vs; wire = wire }
