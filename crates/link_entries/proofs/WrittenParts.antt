-- An attribute that entries encode to, taken apart: its `nla_type`, its payload and its elements.
use Rattle.std.proofs.Common.{◌≡◌, ℕ, ◌+◌, ◌%◌, ◌<◌, ◌==◌, ◌&&◌, Bool, true, false, List, None, Ok, sym, ap, ◌∙◌, arith, inl, inr, ◌≤◌, cond, [], ◌∷◌, ◌++◌, length, refl}
use Rattle.std.specs.Prelude.{nat_lt}
use Rattle.std.proofs.lemmas.Bool.{eqb-true, ltb-true, cases_Bool}
use Rattle.link_base.specs.Frame.{kind_of, kind_limit, frame_bytes, max_payload}
use Rattle.link_base.specs.Table.{Table, nested_flag}
use Rattle.link_base.specs.WellFormed.{is_table}
use Rattle.link_entries.specs.declared.entry.Entry.{Entry}
use Rattle.link_entries.specs.declared.fields.Fields.TheVariants as fields
use Rattle.link_entries.specs.declared.misfit.Misfit.TheVariants.{BadNumber, BadElement}
use Rattle.link_entries.specs.Fields.{row_fields, fields_in, fields_at}
use Rattle.link_entries.specs.Payload.{passed, payload_of, field_of}
use Rattle.link_entries.specs.Agreement.{referred}
use Rattle.link_entries.proofs.RowForms.{value_field, NoRow, OneValue, Array, AddressList, NestedList, row_says, is_list}
use Rattle.link_entries.proofs.WrittenLists.{if_held, both_true, content_ok, passed_held, same_encodings, no_bytes, no_content, before_ok, alone_ok, fitted_ok}
use Rattle.std.specs.List.{AllByRecursion}
use Rattle.std.proofs.lemmas.List.{append-nil}
use Rattle.link_base.specs.Wire.{whole}
use Rattle.link_base.specs.Borrowed.{elements_at}
use Rattle.link_entries.specs.declared.fields.Fields.{Fields}
use Rattle.link_entries.specs.Encoded.{alone, before, element_content, element_of, elements_of, attribute_of, begins_well}
use Rattle.link_entries.proofs.EntryFields.{AreBelow}
use Rattle.link_entries.proofs.BackElements.{element_right, elements_next}

-- an attribute or an element without a row
pub record IsUnknown (e : Entry) (octets p : List ℕ) : Type 0 where
  pub low : e.kind < kind_limit
  pub flags : e.flags % kind_limit ≡ 0
  pub is : p ≡ referred e octets

pub unknown_held : (e : Entry) (octets p : List ℕ) → payload_of fields.Unknown e octets ≡ Ok p → IsUnknown e octets p
unknown_held e octets p h =
    let held = if_held (nat_lt e.kind kind_limit && (e.flags % kind_limit == 0)) BadNumber (passed None e octets) p (content_ok fields.Unknown e octets p h) in
    let tests = both_true (nat_lt e.kind kind_limit) (e.flags % kind_limit == 0) held.0 in
    record { low = ltb-true e.kind kind_limit tests.0; flags = eqb-true (e.flags % kind_limit) 0 tests.1; is = (passed_held None e octets p held.1).is }

-- the `nla_type` g has this attribute type; of an entry with flags of two bytes, it has two bytes
pub record IsField (k flags g : ℕ) : Type 0 where
  pub kind : kind_of (g % 65536) ≡ k
  pub low : flags < 65536 → g < 65536

plain_field : (k flags g : ℕ) → g ≡ k → k < kind_limit → IsField k flags g
plain_field k flags g is low = record { kind = omega (arith, is, low); low = λ few. omega (arith, is, low) }

list_field : (flagged : Bool) (k flags g : ℕ) → g ≡ k + nested_flag flagged → k < kind_limit → IsField k flags g
list_field true k flags g is low = record { kind = omega (arith, is, low); low = λ few. omega (arith, is, low) }
list_field false k flags g is low = record { kind = omega (arith, is, low); low = λ few. omega (arith, is, low) }

pub field_held : (table : Table) → is_table table ≡ true → (e : Entry) (octets p : List ℕ) → payload_of (fields_at table e.kind) e octets ≡ Ok p → IsField e.kind e.flags (field_of (fields_at table e.kind) e.kind e)
field_held table formed e octets p h =
    let k = e.kind in
    let g = field_of (fields_at table k) k e in
    elim (row_says table k formed) [
      | NoRow named class ↦
          let plain = unknown_held e octets p (ap (λ o. payload_of (fields_in o) e octets) (sym named) ∙ h) in
          let sum : g ≡ k + e.flags = ap (λ o. field_of (fields_in o) k e) named in
          let low = plain.low in
          let none = plain.flags in
          record { kind = omega (arith, sum, low, none); low = λ few. omega (arith, sum, low, none, few) }
      | OneValue form names named class one low ↦ plain_field k e.flags g (ap (λ o. field_of (fields_in o) k e) named ∙ value_field (row_fields form) k e one) low
      | Array a named class low ↦ plain_field k e.flags g (ap (λ o. field_of (fields_in o) k e) named) low
      | AddressList n named class few low ↦ plain_field k e.flags g (ap (λ o. field_of (fields_in o) k e) named) low
      | NestedList flagged rows named class low ↦ list_field flagged k e.flags g (ap (λ o. field_of (fields_in o) k e) named) low
    ]

-- an `nla_type` that was written is not truncated
pub field_low : (k flags g : ℕ) → IsField k flags g → flags < 65536 → (g < 65536) × (kind_of g ≡ k)
field_low k flags g is few =
    let low = is.low few in
    let kind = is.kind in
    (low, omega (arith, low, kind))

-- ---- elements, one by one

-- an element that was written, and others
pub record Goes (table : Table) (own : Fields) (k i : ℕ) (octets : List ℕ) (e : Entry) (es : List Entry) (s : List ℕ) : Type 0 where
  pub here : List ℕ
  pub others : List ℕ
  pub deep : e.depth ≡ 1
  pub kind : e.kind ≡ k
  pub content : element_content table own i e octets ≡ Ok here
  pub later : elements_of table own k octets (i + 1) es ≡ Ok others
  pub is : s ≡ here ++ others

module _ (table : Table) (own : Fields) (k : ℕ) (octets : List ℕ) where
  pub goes : (i : ℕ) (e : Entry) (es : List Entry) (s : List ℕ) → (e.depth == 0) ≡ false → elements_of table own k octets i (e ∷ es) ≡ Ok s → Goes table own k i octets e es s
  goes i e es s deep h =
      let both = before_ok (alone (element_of table own k i e octets)) (elements_of table own k octets (i + 1) es) s
      (sym (ap (λ b. cond b (Ok []) (before (alone (element_of table own k i e octets)) (elements_of table own k octets (i + 1) es))) deep) ∙ h) in
      let one = if_held ((e.depth == 1) && (e.kind == k)) BadElement (element_content table own i e octets) both.first (alone_ok (element_of table own k i e octets) both.first both.is_first) in
      let tests = both_true (e.depth == 1) (e.kind == k) one.0 in
      record {
        here = both.first;
        others = both.second;
        deep = eqb-true e.depth 1 tests.0;
        kind = eqb-true e.kind k tests.1;
        content = one.1;
        later = both.is_second;
        is = both.is;
      }

-- the elements at the start of some entries, and the entries after them; P holds of all
pub record Cut (P : Entry → Type 0) (table : Table) (own : Fields) (k i : ℕ) (octets : List ℕ) (es : List Entry) (s : List ℕ) : Type 0 where
  pub below : List Entry
  pub rest : List Entry
  pub is : es ≡ below ++ rest
  pub deep : AreBelow below
  pub end : begins_well rest ≡ true
  pub encoded : elements_of table own k octets i below ≡ Ok s
  pub held : AllByRecursion P below
  pub held_rest : AllByRecursion P rest

module _ (P : Entry → Type 0) (table : Table) (own : Fields) (k : ℕ) (octets : List ℕ) where
  pub cut : (i : ℕ) (es : List Entry) (s : List ℕ) → AllByRecursion P es → elements_of table own k octets i es ≡ Ok s → Cut P table own k i octets es s
  cut i [] s held h = record {
    below = [];
    rest = [];
    is = refl;
    deep = tt;
    end = refl;
    encoded = h;
    held = tt;
    held_rest = tt;
  }
  cut i (e ∷ es) s held h =
      elim (cases_Bool (e.depth == 0)) [
        | inl flat ↦
            record {
              below = [];
              rest = e ∷ es;
              is = refl;
              deep = tt;
              end = flat;
              encoded = sym (ap (λ b. cond b (Ok []) (before (alone (element_of table own k i e octets)) (elements_of table own k octets (i + 1) es))) flat) ∙ h;
              held = tt;
              held_rest = held;
            }
        | inr not_flat ↦
            let one = goes table own k octets i e es s not_flat h in
            let c = cut (i + 1) es one.others held.1 one.later in
            record {
              below = e ∷ c.below;
              rest = c.rest;
              is = ap (λ t. e ∷ t) c.is;
              deep = (one.deep, c.deep);
              end = c.end;
              encoded = elements_next table own k i e c.below octets one.here one.others one.deep (element_right table own k i e octets one.here one.deep one.kind one.content) c.encoded ∙ ap (λ t. Ok t) (sym one.is);
              held = (held.0, c.held);
              held_rest = c.held_rest;
            }
      ]

-- ---- attributes

-- what is no list has no elements
no_elements : (table : Table) (own : Fields) (k : ℕ) (octets : List ℕ) (es : List Entry) (s : List ℕ) → AreBelow es → is_list own ≡ false → elements_of table own k octets 0 es ≡ Ok s → es ≡ []
no_elements table own k octets [] s deep single h = refl
no_elements table own k octets (e ∷ es) s deep single h =
    let one = goes table own k octets 0 e es s (ap (λ n. n == 0) deep.0) h in
    absurd (no_content table own 0 e octets one.here single one.content)

-- the payload of an attribute, which is its own or that of its elements, and the entries of these
pub record Parts (P : Entry → Type 0) (table : Table) (octets : List ℕ) (e : Entry) (es : List Entry) (s : List ℕ) : Type 0 where
  pub payload : List ℕ
  pub short : length payload ≤ max_payload
  pub text : s ≡ frame_bytes (whole (field_of (fields_at table e.kind) e.kind e) payload)
  pub front : List ℕ
  pub front_is : payload_of (fields_at table e.kind) e octets ≡ Ok front
  pub back : List ℕ
  pub cut : Cut P (elements_at table e.kind) (fields_at table e.kind) e.kind 0 octets es back
  pub is : payload ≡ front ++ back

pub parts : (P : Entry → Type 0) (table : Table) (octets : List ℕ) (e : Entry) (es : List Entry) (s : List ℕ) → AllByRecursion P es → attribute_of table octets e es ≡ Ok s → Parts P table octets e es s
parts P table octets e es s held h =
    let own = fields_at table e.kind in
    let inner = elements_at table e.kind in
    let others = elements_of inner own e.kind octets 0 es in
    let fit = fitted_ok (field_of own e.kind e) (before (alone (payload_of own e octets)) others) s h in
    let both = before_ok (alone (payload_of own e octets)) others fit.payload fit.is in
    record {
      payload = fit.payload;
      short = fit.short;
      text = fit.text;
      front = both.first;
      front_is = alone_ok (payload_of own e octets) both.first both.is_first;
      back = both.second;
      cut = cut P inner own e.kind octets 0 es both.second held both.is_second;
      is = both.is;
    }

module _ (P : Entry → Type 0) (table : Table) (octets : List ℕ) (e : Entry) (es : List Entry) (s : List ℕ) (w : Parts P table octets e es s) where
  -- no list: it has no elements
  pub single_payload : is_list (fields_at table e.kind) ≡ false → (w.cut.below ≡ []) × (payload_of (fields_at table e.kind) e octets ≡ Ok w.payload)
  single_payload plain =
      let own = fields_at table e.kind in
      let inner = elements_at table e.kind in
      let none = no_elements inner own e.kind octets w.cut.below w.back w.cut.deep plain w.cut.encoded in
      let nothing : [] ≡ w.back = same_encodings [] w.back (sym (ap (elements_of inner own e.kind octets 0) none) ∙ w.cut.encoded) in
      let all : w.front ≡ w.payload = sym (w.is ∙ ap (λ t. w.front ++ t) (sym nothing) ∙ append-nil w.front) in
      (none, w.front_is ∙ ap (λ t. Ok t) all)

  -- a list: its own payload is empty
  pub list_payload : (row : Fields) → fields_at table e.kind ≡ row → is_list row ≡ true → elements_of (elements_at table e.kind) row e.kind octets 0 w.cut.below ≡ Ok w.payload
  list_payload row looked listed =
      let none = no_bytes row e octets w.front listed (ap (λ o. payload_of o e octets) (sym looked) ∙ w.front_is) in
      let all : w.back ≡ w.payload = sym (w.is ∙ ap (λ t. t ++ w.back) none) in
      ap (λ o. elements_of (elements_at table e.kind) o e.kind octets 0 w.cut.below) (sym looked) ∙ w.cut.encoded ∙ ap (λ t. Ok t) all
