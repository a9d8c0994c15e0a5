-- The row of an attribute type: its fields, and what it says of payloads.
use Rattle.std.proofs.Common.{◌≡◌, ℕ, ◌-◌, ◌<◌, ◌≤◌, ◌==◌, ◌||◌, Bool, true, false, List, Option, Some, None, option_map, inl, inr, refl, sym, ap, subst, ◌∙◌, arith}
use Rattle.std.specs.Prelude.{nat_le}
use Rattle.std.proofs.lemmas.Bool.{cases_Bool, eqb-true}
use Rattle.link_base.specs.declared.rows.form.ArrayOf.{ArrayOf}
use Rattle.link_base.specs.declared.rows.form.Order.TheVariants as orders
use Rattle.link_base.specs.declared.rows.form.Role.TheVariants as roles
use Rattle.link_base.specs.declared.rows.form.Look.TheVariants as looks
use Rattle.link_base.specs.declared.rows.form.Layout.{Layout}
use Rattle.link_base.specs.declared.rows.form.Layout.TheVariants as layouts
use Rattle.link_base.specs.declared.rows.form.Form.{Form}
use Rattle.link_base.specs.declared.rows.form.Form.TheVariants as forms
use Rattle.link_base.specs.declared.rows.label.KindLabel.{KindLabel}
use Rattle.link_base.specs.Class.{Many, extent, size_of}
use Rattle.link_base.specs.Number.{bound}
use Rattle.link_base.specs.Forms.{bytes_in, size_in as each_size}
use Rattle.link_base.specs.Frame.{kind_limit}
use Rattle.link_base.specs.Labels.{label_in}
use Rattle.link_base.specs.Payloads.{class_by}
use Rattle.link_base.specs.Table.{Row, Rows, Shape, One, Nested, Addresses, Table, row_at, class_at, form_at, label_by, label_at}
use Rattle.link_base.specs.Borrowed.{elements_at}
use Rattle.link_base.specs.Coherent.{is_single, is_array, IsShapeOf}
use Rattle.link_base.specs.WellFormed.{is_shape, is_row, is_table}
use Rattle.link_base.proofs.Coherence.{row_sound, row_kind, row_passes_all, element_single}
use Rattle.link_entries.specs.declared.entry.Entry.{Entry}
use Rattle.link_entries.specs.declared.fields.Fields.{Fields}
use Rattle.link_entries.specs.declared.fields.Fields.TheVariants as fields
use Rattle.link_entries.specs.Fields.{struct_fields, row_fields, fields_in, fields_at}
use Rattle.link_entries.specs.Payload.{payload_of, field_of}

-- ---- labels

-- the form in a label is that of the row
form_same : (l : Option KindLabel) (r : Option (Row Shape)) → label_in l ≡ option_map label_by r → option_map (λ x. x.form) l ≡ option_map (λ x. x.form) r
form_same None None h = refl
form_same (Some l) (Some r) h = ap (option_map (λ stated. stated.form)) h
form_same l r h = absurd cc

pub label_fields : (l : Option KindLabel) (table : Table) (k : ℕ) → label_in l ≡ label_at table k → fields_in (option_map (λ x. x.form) l) ≡ fields_at table k
label_fields l table k h = ap fields_in (form_same l (row_at table k) h)

-- ---- fields

-- the fields of a list: its elements have entries of their own
abbrev pub is_list : Fields → Bool
is_list (fields.Numbers a) = true
is_list (fields.Addresses size) = true
is_list (fields.List flag) = true
is_list own = false

-- those of a single value of an attribute type that has a row
abbrev pub is_value : Fields → Bool
is_value (fields.Numbers a) = false
is_value (fields.Addresses size) = false
is_value (fields.List flag) = false
is_value fields.Unknown = false
is_value own = true

pub value_no_list : (own : Fields) → is_value own ≡ true → is_list own ≡ false
value_no_list (fields.Numbers a) h = absurd cc
value_no_list (fields.Addresses size) h = absurd cc
value_no_list (fields.List flag) h = absurd cc
value_no_list own h = refl

-- its `nla_type` has no flags
pub value_field : (own : Fields) (k : ℕ) (e : Entry) → is_value own ≡ true → field_of own k e ≡ k
value_field (fields.List flag) k e h = absurd cc
value_field fields.Unknown k e h = absurd cc
value_field own k e h = refl

-- an entry with another type
abbrev pub with_kind : Entry → ℕ → Entry
with_kind e k = record e { kind = k }

-- the type of the entry does not matter
pub value_kind : (own : Fields) (e : Entry) (k : ℕ) (octets : List ℕ) → is_value own ≡ true → payload_of own (with_kind e k) octets ≡ payload_of own e octets
value_kind fields.Unknown e k octets h = absurd cc
value_kind (fields.Passed form None) e k octets h = refl
value_kind (fields.Passed form (Some n)) e k octets h = refl
value_kind own e k octets h = refl

pub field_kind : (own : Fields) (k : ℕ) (e : Entry) (j : ℕ) → field_of own k (with_kind e j) ≡ field_of own k e
field_kind fields.Unknown k e j = refl
field_kind own k e j = refl

pub struct_value : (layout : Layout) → is_value (struct_fields layout) ≡ true
struct_value layouts.BridgeId = refl
struct_value layout = refl

pub single_value : (form : Form) → is_single form ≡ true → is_array form ≡ false → is_value (row_fields form) ≡ true
single_value (forms.Numbers n) s a = absurd cc
single_value (forms.Addresses size) s a = absurd cc
single_value (forms.List flagged) s a = absurd cc
single_value (forms.Struct layout) s a = struct_value layout
single_value (forms.Bytes looks.Peer) s a = refl
single_value form s a = refl

-- ---- sizes

-- how many bytes entries with these fields encode to, without elements; of a peer, how many at least
abbrev pub size_in : Fields → ℕ
size_in (fields.Number form w most order) = bytes_in w
size_in fields.Signed = 4
size_in (fields.Shorts form second_first) = 4
size_in (fields.Words form second_first) = 8
size_in fields.Protocol = 2
size_in (fields.Address form n) = n
size_in fields.BridgeId = 8
size_in (fields.Passed form (Some n)) = n
size_in fields.Peer = 16
size_in fields.Limits = 48
size_in own = 0

-- whether they always encode to so many
abbrev pub is_sized : Fields → Bool
is_sized fields.FlagOrBool = false
is_sized (fields.Address form n) = nat_le n 16
is_sized (fields.Passed form None) = false
is_sized fields.Peer = false
is_sized fields.Unknown = false
is_sized own = true

-- they encode to any bytes of this size
abbrev pub EncodesAny : Fields → Type 0
EncodesAny (fields.Number form w most order) = most ≡ bound (bytes_in w) - 1
EncodesAny (fields.Shorts form second_first) = true ≡ true
EncodesAny (fields.Words form second_first) = true ≡ true
EncodesAny (fields.Address form n) = nat_le n 16 ≡ true
EncodesAny fields.BridgeId = true ≡ true
EncodesAny (fields.Passed form (Some n)) = true ≡ true
EncodesAny own = false ≡ true

pub struct_sized : (layout : Layout) → (is_sized (struct_fields layout) ≡ true) × EncodesAny (struct_fields layout)
struct_sized layouts.BridgeId = (refl, refl)
struct_sized layout = (refl, refl)

-- this is the size of the payloads of a form
pub tied : (form : Form) (names : List (ℕ × List ℕ)) → size_in (row_fields form) ≡ size_of (extent (class_by form names))
tied (forms.Number w orders.Little roles.Enum) names = refl
tied (forms.Number w orders.Little role) names = refl
tied (forms.Number w orders.Big role) names = refl
tied (forms.Bytes looks.Peer) names = refl
tied (forms.Struct layouts.BridgeId) names = refl
tied (forms.Struct layout) names = refl
tied form names = refl

-- ---- rows

-- what the row of an attribute type says of payloads, if there is one
pub data RowCase (table : Table) (k : ℕ) : Type 0 where
  NoRow : form_at table k ≡ None → class_at table k ≡ None → RowCase table k
  OneValue :
      (form : Form) (names : List (ℕ × List ℕ)) → form_at table k ≡ Some form → class_at table k ≡ Some (One (class_by form names)) → is_value (row_fields form) ≡ true → k < kind_limit → RowCase table k
  Array : (a : ArrayOf) → form_at table k ≡ Some (forms.Numbers a) → class_at table k ≡ Some (One (Many (each_size a))) → k < kind_limit → RowCase table k
  AddressList : (n : ℕ) → form_at table k ≡ Some (forms.Addresses n) → class_at table k ≡ Some (Addresses n) → n ≤ 16 → k < kind_limit → RowCase table k
  NestedList : (flagged : Bool) (rows : Rows) → form_at table k ≡ Some (forms.List flagged) → class_at table k ≡ Some (Nested flagged rows) → k < kind_limit → RowCase table k

few : (n : ℕ) → ((n == 4) || (n == 16)) ≡ true → n ≤ 16
few n h =
    elim (cases_Bool (n == 4)) [
      | inl four ↦ let is = eqb-true n 4 four in omega (arith, is)
      | inr other ↦ let is = eqb-true n 16 (sym (ap (λ b. b || (n == 16)) other) ∙ h) in omega (arith, is)
    ]

module _ (table : Table) (k : ℕ) where
  case_by : (form : Form) (names : List (ℕ × List ℕ)) (shape : Shape) → form_at table k ≡ Some form → class_at table k ≡ Some shape → IsShapeOf form names shape → is_shape shape ≡ true → k < kind_limit → RowCase table k
  case_by (forms.Numbers a) names (One c) named class is ok low = Array a named (class ∙ ap (λ d. Some (One d)) is.1) low
  case_by form names (One c) named class is ok low = OneValue form names named (class ∙ ap (λ d. Some (One d)) is.1) (single_value form is.0 refl) low
  case_by (forms.List stated) names (Nested flagged rows) named class is ok low = NestedList stated rows named (class ∙ ap (λ b. Some (Nested b rows)) (sym is.0)) low
  case_by (forms.Addresses stated) names (Addresses n) named class is ok low =
      let size : stated ≡ n = is in
      let least = few n ok in
      AddressList stated named (class ∙ ap (λ m. Some (Addresses m)) (sym size)) (omega (arith, size, least)) low
  case_by form names shape named class is ok low = absurd is

  pub row_says : is_table table ≡ true → RowCase table k
  row_says formed = by_row (row_at table k) refl where
    by_row : (o : Option (Row Shape)) → row_at table k ≡ o → RowCase table k
    by_row None at = NoRow (ap (option_map (λ r. r.form)) at) (ap (option_map (λ r. r.class)) at)
    by_row (Some r) at =
        case_by r.form r.names r.class (ap (option_map (λ x. x.form)) at) (ap (option_map (λ x. x.class)) at) (row_sound table k r formed at) (row_passes_all table k r formed at).shape
        (row_kind is_row k r 0 table formed at).1

-- in a nested list there are no lists
pub element_no_list : (table : Table) (k inner : ℕ) → is_table table ≡ true → is_list (fields_at (elements_at table k) inner) ≡ false
element_no_list table k inner formed = by_row (row_at (elements_at table k) inner) refl where
  by_row : (o : Option (Row Shape)) → row_at (elements_at table k) inner ≡ o → is_list (fields_in (option_map (λ r. r.form) o)) ≡ false
  by_row None at = refl
  by_row (Some r) at =
      let single = element_single table k inner r formed at in
      value_no_list (row_fields r.form) (single_value r.form single.1 single.0)
