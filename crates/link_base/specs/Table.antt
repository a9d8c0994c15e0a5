-- Tables of attributes: what `nla_type` and a payload decode to, and how a value is written.
use Rattle.std.specs.Prelude.{option_map, ◌≡◌, ℕ, ◌+◌, ◌<◌, ◌==◌, Bool, List, [], ◌∷◌, length, map, Option, Some, None, Result, Ok, Err, codes, if◌then◌else◌}
use Prim.Native.String.{String}
use Rattle.std.specs.List.{filter, AllByRecursion}
use Rattle.link_base.specs.declared.wire.fault.Cause.{Cause}
use Rattle.link_base.specs.declared.wire.fault.DecodeFault.{DecodeFault}
use Rattle.link_base.specs.declared.wire.fault.DecodeFault.TheVariants as faults
use Rattle.link_base.specs.declared.rows.label.Quantity.{Quantity}
use Rattle.link_base.specs.declared.rows.label.Quantity.TheVariants as quantities
use Rattle.link_base.specs.declared.rows.form.Form.{Form}
use Rattle.link_base.specs.declared.rows.form.Form.TheVariants as forms
use Rattle.link_base.specs.Frame.{Frame, IsComplete, kind_of, kind_limit, frame_bytes, bytes_of_frames}
use Rattle.link_base.specs.Class
use Rattle.link_base.specs.Class.{Class, Value, class_value, written, IsCanonicalPayload}
use Rattle.link_base.specs.Fields.{FieldRow}
use Rattle.link_base.specs.Payloads.{Payloads, class_of}
use Rattle.link_base.specs.Wire.{Reading, Reads, Wire, CanonicalBy, FirstOtherBy, RewritingBy, written_by, FitsBy, whole}

-- ---- rows, and attributes of a table

-- an attribute type, its name in the kernel's headers, what the names of all types of the list begin with, what its
-- numbers count, the form of its values, the names of its numbers or bits, the fields of a struct, and what its payloads are
pub record Row (C : Type 0) : Type 0 where
  pub kind : ℕ
  pub name : List ℕ
  pub prefix : List ℕ
  pub quantity : Quantity
  pub form : Form
  pub names : List (ℕ × List ℕ)
  pub fields : List FieldRow
  pub class : C

-- a row for this attribute type, whose payloads are those of c
abbrev pub row_of : {C : Type 0} → List ℕ → Quantity → ℕ → List ℕ → Form → List (ℕ × List ℕ) → List FieldRow → C → Row C
row_of prefix q k name form names fields c =
    record { kind = k; name = name; prefix = prefix; quantity = q; form = form; names = names; fields = fields; class = c }

-- the rows of a list, in which all names begin with this
abbrev pub prefixed : {C : Type 0} → String → List (Row C) → List (Row C)
prefixed prefix rows = map (λ r. row_of (codes prefix) r.quantity r.kind r.name r.form r.names r.fields r.class) rows

-- the row of an attribute type
abbrev pub row_at : {C : Type 0} → List (Row C) → ℕ → Option (Row C)
row_at [] k = None
row_at (r ∷ rows) k = if r.kind == k then Some r else row_at rows k

-- what the payloads of an attribute type are, if it has a row
abbrev pub class_at : {C : Type 0} → List (Row C) → ℕ → Option C
class_at rows k = option_map (λ r. r.class) (row_at rows k)

-- the form of the values of an attribute type, if it has a row
abbrev pub form_at : {C : Type 0} → List (Row C) → ℕ → Option Form
form_at rows k = option_map (λ r. r.form) (row_at rows k)

-- what is known of an attribute type besides its payloads: its name, what all names of the list begin with, what its numbers
-- count, the form of its values, the names of its numbers or bits, and the fields of a struct
pub record Label : Type 0 where
  pub name : List ℕ
  pub prefix : List ℕ
  pub quantity : Quantity
  pub form : Form
  pub names : List (ℕ × List ℕ)
  pub fields : List FieldRow

abbrev pub label_with : List ℕ → Quantity → List ℕ → Form → List (ℕ × List ℕ) → List FieldRow → Label
label_with prefix q name form names fields = record { name = name; prefix = prefix; quantity = q; form = form; names = names; fields = fields }

abbrev pub label_by : {C : Type 0} → Row C → Label
label_by r = label_with r.prefix r.quantity r.name r.form r.names r.fields

-- what is known of an attribute type, if it has a row
abbrev pub label_at : {C : Type 0} → List (Row C) → ℕ → Option Label
label_at rows k = option_map label_by (row_at rows k)

-- an attribute: the variant for an attribute type that has a row (`Case`), or any other `nla_type` and payload
pub data Attr (V : Type 0) : Type 0 where
  Case : ℕ → V → Attr V
  Other : ℕ → List ℕ → Attr V

-- ---- tables without lists

-- a table without lists
abbrev pub Rows : Type 0
Rows = List (Row Class)

-- a row of such a table: the attribute type, its name, and its payloads; then likewise for numbers that count something
abbrev pub leaf_row : ℕ → String → Payloads → Row Class
leaf_row k name p = row_of [] quantities.Number k (codes name) p.form p.names p.fields (class_of p)

abbrev pub leaf_row_in : Quantity → ℕ → String → Payloads → Row Class
leaf_row_in q k name p = row_of [] q k (codes name) p.form p.names p.fields (class_of p)

-- an attribute of a table without lists
abbrev pub Leaf : Type 0
Leaf = Attr Value

-- the variant of an attribute type, or the error of its payload
abbrev pub leaf_case : ℕ → Result Value Cause → Result Leaf DecodeFault
leaf_case k (Ok v) = Ok (Case k v)
leaf_case k (Err c) = Err (faults.Value k c)

-- what a payload decodes to if its attribute type has this class, or no row
abbrev pub leaf_by : Option Class → ℕ → List ℕ → Result Leaf DecodeFault
leaf_by None f p = Ok (Other f p)
leaf_by (Some c) f p = leaf_case (kind_of f) (class_value c p)

-- what `nla_type` and a payload decode to in a table without lists
abbrev pub LeafGives : Rows → Reading Leaf
LeafGives rows f p r = r ≡ leaf_by (class_at rows (kind_of f)) f p

-- the written `nla_type`: a variant has no flags, and `Other` keeps its own
abbrev pub leaf_field : Leaf → ℕ
leaf_field (Case k v) = k
leaf_field (Other f p) = f

-- the written payload
abbrev pub leaf_payload : Leaf → List ℕ
leaf_payload (Case k v) = written v
leaf_payload (Other f p) = p

-- the bytes of a nested list
abbrev pub written_leaves : List Leaf → List ℕ
written_leaves vs = written_by leaf_field leaf_payload vs

-- ---- tables with lists

-- what the payloads of an attribute type are
pub data Shape : Type 0 where
  One : Class → Shape
  -- a list of attributes of a table, and whether it is written with the nested flag
  Nested : Bool → Rows → Shape
  -- a list of addresses of n bytes each
  Addresses : ℕ → Shape

-- a row for an attribute type whose payloads have one class; then likewise for numbers that count something
abbrev pub row : ℕ → String → Payloads → Row Shape
row k name p = row_of [] quantities.Number k (codes name) p.form p.names p.fields (One (class_of p))

abbrev pub row_in : Quantity → ℕ → String → Payloads → Row Shape
row_in q k name p = row_of [] q k (codes name) p.form p.names p.fields (One (class_of p))

-- a row for an attribute type whose payloads are nested lists, and whether they are written with the nested flag; then
-- for lists of addresses of n bytes each
abbrev pub nested_row : ℕ → String → Bool → Rows → Row Shape
nested_row k name flagged rows = row_of [] quantities.Number k (codes name) (forms.List flagged) [] [] (Nested flagged rows)

abbrev pub address_row : ℕ → String → ℕ → Row Shape
address_row k name n = row_of [] quantities.Number k (codes name) (forms.Addresses n) [] [] (Addresses n)

-- the content of an attribute
pub data Content : Type 0 where
  Single : Value → Content
  -- the values of a nested list, and whether it is written with the nested flag
  Inner : Bool → List Leaf → Content
  -- the addresses of a list
  Listed : List (List ℕ) → Content

-- the table of an attribute set
abbrev pub Table : Type 0
Table = List (Row Shape)

-- an attribute of an attribute set, as a value
abbrev pub AttrValue : Type 0
AttrValue = Attr Content

-- the variant of an attribute type with one class, or the error of its payload
abbrev pub single_case : ℕ → Result Value Cause → Result AttrValue DecodeFault
single_case k (Ok v) = Ok (Case k (Single v))
single_case k (Err c) = Err (faults.Value k c)

-- the error of a nested list, with the attribute type k of the list; an element has only the first two errors
abbrev pub nested_fault : ℕ → DecodeFault → DecodeFault
nested_fault k (faults.Frame c) = faults.NestedFrame k c
nested_fault k (faults.Value inner c) = faults.NestedValue k inner c
nested_fault k fault = fault

-- the variant of attribute type k whose list has this result, or its error
abbrev pub list_case : {V : Type 0} → (List V → Content) → ℕ → Result (List V) (ℕ × DecodeFault) → Result AttrValue DecodeFault
list_case content k (Ok vs) = Ok (Case k (content vs))
list_case content k (Err e) = Err (nested_fault k e.1)

-- what a payload that is a list decodes to
abbrev pub ListGives : {V : Type 0} → Reading V → (List V → Content) → ℕ → List ℕ → Result AttrValue DecodeFault → Type 0
ListGives {V} gives content k p r = (q : Result (List V) (ℕ × DecodeFault)) × Reads gives p q × (r ≡ list_case content k q)

-- an element of an address list decodes to its payload, whatever its attribute type
abbrev pub PayloadGives : Reading (List ℕ)
PayloadGives f p r = r ≡ Ok p

-- the payloads of n bytes
abbrev pub of_length : ℕ → List (List ℕ) → List (List ℕ)
of_length n payloads = filter (λ p. length p == n) payloads

-- what a payload decodes to if its attribute type k has this shape
abbrev pub ShapeGives : Shape → ℕ → List ℕ → Result AttrValue DecodeFault → Type 0
ShapeGives (One c) k p r = r ≡ single_case k (class_value c p)
ShapeGives (Nested flagged rows) k p r = ListGives (LeafGives rows) (Inner flagged) k p r
ShapeGives (Addresses n) k p r = ListGives PayloadGives (λ payloads. Listed (of_length n payloads)) k p r

-- what `nla_type` and a payload decode to if the attribute type has this shape, or no row
abbrev pub GivesBy : Option Shape → Reading AttrValue
GivesBy None f p r = r ≡ Ok (Other f p)
GivesBy (Some shape) f p r = ShapeGives shape (kind_of f) p r

-- what `nla_type` and a payload decode to
abbrev pub Gives : Table → Reading AttrValue
Gives table f p r = GivesBy (class_at table (kind_of f)) f p r

-- ---- what is written

-- addresses as elements of the attribute types i, i + 1, i + 2 and so on
abbrev pub addresses_from : ℕ → List (List ℕ) → List Frame
addresses_from i [] = []
addresses_from i (a ∷ others) = whole i a ∷ addresses_from (i + 1) others

-- NLA_F_NESTED if a list is written with it, otherwise 0
abbrev pub nested_flag : Bool → ℕ
nested_flag flagged = if flagged then 0x8000 else 0

-- the flag in `nla_type` with which a content is written
abbrev pub content_flag : Content → ℕ
content_flag (Inner flagged vs) = nested_flag flagged
content_flag content = 0

-- the written payload of a content
abbrev pub content_payload : Content → List ℕ
content_payload (Single v) = written v
content_payload (Inner flagged vs) = written_leaves vs
content_payload (Listed octets) = bytes_of_frames (addresses_from 0 octets)

-- the written `nla_type`
abbrev pub written_kind : AttrValue → ℕ
written_kind (Case k content) = k + content_flag content
written_kind (Other f p) = f

-- the written payload
abbrev pub written_payload : AttrValue → List ℕ
written_payload (Case k content) = content_payload content
written_payload (Other f p) = p

-- the written frame: complete, padded with zeros
abbrev pub written_frame : AttrValue → List ℕ
written_frame v = frame_bytes (whole (written_kind v) (written_payload v))

-- the written list: consecutive frames
abbrev pub written_list : List AttrValue → List ℕ
written_list vs = written_by written_kind written_payload vs

-- the written payload fits in an attribute
abbrev pub Fits : AttrValue → Type 0
Fits v = FitsBy written_payload v

-- ---- `canon`, the normal form, and `cut`

-- `canon` and `cut` for an element of a nested list
abbrev pub leaf_canon : Leaf → Leaf
leaf_canon (Case k v) = Case k (Class.canon v)
leaf_canon (Other f p) = Other f p

abbrev pub leaf_cut : Leaf → Leaf
leaf_cut (Case k v) = Case k (Class.cut v)
leaf_cut (Other f p) = Other f p

-- `canon` for a content, applied to each value
abbrev pub content_canon : Content → Content
content_canon (Single v) = Single (Class.canon v)
content_canon (Inner flagged vs) = Inner flagged (map leaf_canon vs)
content_canon (Listed octets) = Listed octets

-- `Other` of each number that has a name becomes the name
abbrev pub canon : AttrValue → AttrValue
canon (Case k content) = Case k (content_canon content)
canon (Other f p) = Other f p

-- `cut` for a content, applied to each value
abbrev pub content_cut : Content → Content
content_cut (Single v) = Single (Class.cut v)
content_cut (Inner flagged vs) = Inner flagged (map leaf_cut vs)
content_cut (Listed octets) = Listed octets

-- each name becomes what its written form decodes to
abbrev pub cut : AttrValue → AttrValue
cut (Case k content) = Case k (content_cut content)
cut (Other f p) = Other f p

-- ---- canonical `nla_type`s and payloads

-- the `nla_type` of an element has no flags, and the payload is canonical; or no row has the attribute type
abbrev pub leaf_allows_by : Option Class → ℕ → List ℕ → Type 0
leaf_allows_by None f p = Unit {0}
leaf_allows_by (Some c) f p = (f < kind_limit) × IsCanonicalPayload c p

-- the `nla_type` and the payload of an element are canonical
abbrev pub LeafAllows : Rows → ℕ → List ℕ → Type 0
LeafAllows rows f p = leaf_allows_by (class_at rows (kind_of f)) f p

-- complete elements with the attribute types 0, 1, 2 and so on, each with a payload of n bytes
pub record AreAddresses (n : ℕ) (p : List ℕ) : Type 0 where
  pub addresses : List (List ℕ)
  pub each : AllByRecursion (λ a. length a ≡ n) addresses
  pub complete : AllByRecursion IsComplete (addresses_from 0 addresses)
  pub string : p ≡ bytes_of_frames (addresses_from 0 addresses)

-- the payload of an attribute of this shape is canonical
abbrev pub IsCanonicalContent : Shape → List ℕ → Type 0
IsCanonicalContent (One c) p = IsCanonicalPayload c p
IsCanonicalContent (Nested flagged rows) p = CanonicalBy (LeafAllows rows) p
IsCanonicalContent (Addresses n) p = AreAddresses n p

-- the flag in `nla_type` with which a shape is written
abbrev pub shape_flag : Shape → ℕ
shape_flag (Nested flagged rows) = nested_flag flagged
shape_flag shape = 0

-- `nla_type` is the attribute type of the row with the flag of its shape, and the payload is canonical; or no row has
-- the attribute type
abbrev pub allows_by : Option Shape → ℕ → List ℕ → Type 0
allows_by None f p = Unit {0}
allows_by (Some shape) f p = (f ≡ kind_of f + shape_flag shape) × IsCanonicalContent shape p

-- `nla_type` and the payload are canonical
abbrev pub Allows : Table → ℕ → List ℕ → Type 0
Allows table f p = allows_by (class_at table (kind_of f)) f p

-- ---- lists of a table

-- s decodes: it is a list of attributes that decode to values
pub record Decodes (table : Table) (s : List ℕ) : Type 0 where
  pub values : List AttrValue
  pub wire : Wire (Gives table) s values

-- the canonical grammar
abbrev pub Canonical : Table → List ℕ → Type 0
Canonical table s = CanonicalBy (Allows table) s

-- `at` is the offset of the first attribute that is not canonical, or of bytes that do not start with a whole attribute
abbrev pub FirstNotCanonical : Table → List ℕ → ℕ → Type 0
FirstNotCanonical table s at = FirstOtherBy (Allows table) s at

-- t is what is written for the values of s, all of which fit
abbrev pub Rewriting : Table → List ℕ → List ℕ → Type 0
Rewriting table s t = RewritingBy (Gives table) written_kind written_payload s t

-- ---- memory

-- values of this shape may be heap-allocated
abbrev pub ShapeTakesMemory : Shape → Type 0
ShapeTakesMemory (One c) = Class.TakesMemory c
ShapeTakesMemory shape = Unit {0}

-- values of an attribute type with this shape, or with no row, may be heap-allocated
abbrev pub TakesMemoryBy : Option Shape → Type 0
TakesMemoryBy None = Unit {0}
TakesMemoryBy (Some shape) = ShapeTakesMemory shape

-- values of this `nla_type` may be heap-allocated
abbrev pub TakesMemory : Table → ℕ → Type 0
TakesMemory table f = TakesMemoryBy (class_at table (kind_of f))
