-- What one value of a request encodes to: its attribute, element or number.
use Rattle.std.specs.Prelude.{ℕ, ◌+◌, ◌-◌, ◌^◌, ◌%◌, ◌==◌, ◌&&◌, ◌||◌, Bool, true, false, not, List, [], ◌∷◌, take, Option, Some, None, Result, Ok, Err, nat_le, nat_lt, if◌then◌else◌}
use Rattle.std.specs.Option.{option_map}
use Rattle.link_base.specs.declared.rows.form.ArrayOf.{ArrayOf}
use Rattle.link_base.specs.Borrowed.{elements_at}
use Rattle.netlink_packet_route.specs.declared.family.Family.{Family}
use Rattle.netlink_packet_route.specs.declared.family.Family.TheVariants.{Link}
use Rattle.netlink_packet_route.specs.Family.{table_of}
use Rattle.netlink_packet_route.specs.Opening.{without_nul}
use Rattle.link_entries.specs.declared.entry.Entry.{Entry}
use Rattle.link_entries.specs.declared.fields.Fields.{Fields}
use Rattle.link_entries.specs.declared.fields.Fields.TheVariants as fields
use Rattle.link_entries.specs.declared.misfit.Misfit.{Misfit}
use Rattle.link_entries.specs.declared.misfit.Misfit.TheVariants.{BadForm, BadElement, BadOctets, BadDepth, BadName, NoSet}
use Rattle.link_entries.specs.Forms.{form_held}
use Rattle.link_entries.specs.Fields.{array_number, ip_address, fields_at}
use Rattle.link_entries.specs.Payload.{has_form, only_if, has_size, passed, payload_of, field_of}
use Rattle.link_requests.specs.declared.level.Scope.{Scope}
use Rattle.link_requests.specs.declared.level.Scope.TheVariants.{Attributes, Elements, Numbers, Addresses}
use Rattle.link_requests.specs.Names.{is_name, is_kind}
use Rattle.link_requests.specs.Opening.{Kinds, is_link, set_at}
use Rattle.link_entries.specs.Encoded.{Encoding, alone, before, fitted}

-- ---- rows

-- an IFLA_PROTINFO (12) of an AF_BRIDGE (7) request that is a list: the set `link` has no row for it
abbrev pub is_protinfo : Family → ℕ → Entry → Bool
is_protinfo set address_family e = is_link set && ((address_family == 7) && ((e.kind == 12) && (e.form == form_held)))

-- which fields make the payload of an attribute of a set
abbrev pub attribute_fields : Family → ℕ → Entry → Fields
attribute_fields set address_family e = if is_protinfo set address_family e then fields.Passed form_held None else fields_at (table_of set) e.kind

-- likewise for any value; none if the list has no such value
abbrev pub row_for : Scope → ℕ → Entry → Option Fields
row_for (Attributes set) address_family e = Some (attribute_fields set address_family e)
row_for (Elements set list) address_family e = if e.kind == list then Some (fields_at (elements_at (table_of set) list) e.inner) else None
row_for (Numbers a list) address_family e = if e.kind == list then Some (array_number a) else None
row_for (Addresses size list) address_family e = if e.kind == list then Some (ip_address size) else None

-- the `inner` of a value that is an attribute of the message
abbrev pub of_message : ℕ
of_message = 2 ^ 16 - 1

-- whether values with these fields have to name their form
abbrev pub names_form : Fields → Bool
names_form (fields.Passed form None) = true
names_form fields.Unknown = true
names_form own = false

-- whether a value is in the list that it is meant for: an attribute of the message is marked, unless it has to name its form; no
-- attribute of another list is
abbrev pub is_placed : Scope → Fields → Entry → Bool
is_placed (Attributes Link) own e = (e.inner == of_message) || names_form own
is_placed (Attributes set) own e = not (e.inner == of_message)
is_placed scope own e = true

-- the attribute type of a value
abbrev pub kind_for : Scope → Entry → ℕ
kind_for (Attributes set) e = e.kind
kind_for scope e = e.inner

-- its nla_type, of two bytes. Addresses are numbered in order; IFLA_PROTINFO has NLA_F_NESTED
abbrev pub type_for : Scope → ℕ → ℕ → Fields → Entry → ℕ
type_for (Attributes set) address_family i own e = if is_protinfo set address_family e then 0x8000 + 12 else field_of own e.kind e % 65536
type_for (Elements set list) address_family i own e = field_of own e.inner e % 65536
type_for scope address_family i own e = i % 65536

-- the set that reads a list with this nla_type
abbrev pub set_for : Scope → Kinds → ℕ → Option Family
set_for (Attributes set) x f = set_at x set None f
set_for (Elements set list) x f = set_at x set (Some list) f
set_for scope x f = None

-- whether these fields are those of a list of another set: only then does it matter which set reads the list
abbrev pub is_held : Fields → Bool
is_held (fields.Passed form None) = form == form_held
is_held own = false

-- ---- payloads

-- the offset of a value that refers to no bytes: it has octets of its own, or it is a list whose values follow
abbrev pub inline : ℕ
inline = 2 ^ 64 - 1

-- the bytes of a value; their number, if it is fixed
abbrev pub value_bytes : Option ℕ → Entry → List ℕ → Result (List ℕ) Misfit
value_bytes size e octets = if e.offset == inline then only_if (has_size size e && nat_le e.length 16) BadOctets (take e.length e.octets) else passed size e octets

-- whether Linux takes these bytes: in the set `link` of an IFLA_IFNAME (3), and in an IFLA_LINKINFO (18) of an IFLA_INFO_KIND
-- (1) and an IFLA_INFO_SLAVE_KIND (4)
abbrev pub is_allowed : Scope → ℕ → List ℕ → Bool
is_allowed (Attributes set) k p = if is_link set && (k == 3) then is_name (without_nul p) else true
is_allowed (Elements set list) k p = if is_link set && ((list == 18) && ((k == 1) || (k == 4))) then is_kind (without_nul p) else true
is_allowed scope k p = true

abbrev pub allowed : Scope → ℕ → Result (List ℕ) Misfit → Result (List ℕ) Misfit
allowed scope k (Ok p) = if is_allowed scope k p then Ok p else Err BadName
allowed scope k (Err misfit) = Err misfit

-- nothing, if a set reads the values that follow
abbrev pub announced : Option Family → Result (List ℕ) Misfit
announced None = Err NoSet
announced (Some set) = Ok []

-- a list of another set: its values follow if and only if it refers to no bytes
abbrev pub held_payload : Option Family → Bool → Entry → List ℕ → Result (List ℕ) Misfit
held_payload reader follow e octets =
    if e.offset == inline then (if follow then announced reader else Err BadDepth)
    else (if follow then Err BadDepth else passed None e octets)

-- bytes of any length: the value has to say their form, so that no number is one
abbrev pub bytes_payload : Scope → ℕ → Option Family → Bool → Entry → List ℕ → Result (List ℕ) Misfit
bytes_payload scope form reader follow e octets =
    if e.form == form then (if form == form_held then held_payload reader follow e octets else allowed scope (kind_for scope e) (value_bytes None e octets))
    else Err BadForm

-- the payload of a value, without what follows
abbrev pub value_payload : Scope → Option Family → Fields → Bool → Entry → List ℕ → Result (List ℕ) Misfit
value_payload scope reader (fields.Passed form None) follow e octets = bytes_payload scope form reader follow e octets
value_payload scope reader (fields.Passed form size) follow e octets = if has_form (fields.Passed form size) e then value_bytes size e octets else Err BadForm
value_payload scope reader own follow e octets = payload_of own (record e { kind = kind_for scope e }) octets

-- ---- what follows a value, one deeper

-- whether the next value is deeper
abbrev pub is_above : ℕ → List Entry → Bool
is_above depth [] = false
is_above depth (e ∷ es) = nat_lt depth e.depth

-- whether the first value has this depth, if there is one
abbrev pub begins_at : ℕ → List Entry → Bool
begins_at depth [] = true
begins_at depth (e ∷ es) = e.depth == depth

-- the list that they are in; none if there is none
abbrev pub scope_below : Scope → Option Family → Fields → Entry → Option Scope
scope_below (Attributes set) reader (fields.List flag) e = Some (Elements set e.kind)
scope_below (Attributes set) reader (fields.Numbers a) e = Some (Numbers a e.kind)
scope_below (Attributes set) reader (fields.Addresses size) e = Some (Addresses size e.kind)
scope_below scope reader (fields.Passed form None) e = if form == form_held then option_map Attributes reader else None
scope_below scope reader own e = None

-- what they encode to; `inner` is what they encode to in a list
abbrev pub inside_of : ℕ → Option Scope → (Scope → Encoding) → List Entry → Encoding
inside_of depth None inner es = Err (0, BadDepth)
inside_of depth (Some scope) inner es = if begins_at depth es then inner scope else Err (0, BadDepth)

abbrev pub below_of : ℕ → Option Scope → (Scope → Encoding) → List Entry → Encoding
below_of depth scope inner es = if is_above depth es then inside_of (depth + 1) scope inner es else Ok []

-- ---- values

-- a number of an array; nothing may follow it
abbrev pub number_with : ArrayOf → ℕ → Entry → List Entry → Encoding
number_with a depth e es = before (alone (payload_of (array_number a) e [])) (if is_above depth es then Err (0, BadDepth) else Ok [])

-- the payload of an attribute with these fields, at this index and depth of a list, with what follows it
abbrev pub payload_with : List ℕ → Scope → ℕ → Kinds → ℕ → Fields → Entry → List Entry → (Scope → Encoding) → Encoding
payload_with octets scope depth x i own e es inner =
    let reader = set_for scope x (type_for scope x.address_family i own e) in
    before (alone (value_payload scope reader own (is_above depth es) e octets)) (below_of depth (scope_below scope reader own e) inner es)

abbrev pub attribute_with : List ℕ → Scope → ℕ → Kinds → ℕ → Fields → Entry → List Entry → (Scope → Encoding) → Encoding
attribute_with octets scope depth x i own e es inner = fitted (type_for scope x.address_family i own e) (payload_with octets scope depth x i own e es inner)

-- a value, if the list has such a value
abbrev pub value_with : List ℕ → Scope → ℕ → Kinds → ℕ → Fields → Entry → List Entry → (Scope → Encoding) → Encoding
value_with octets (Numbers a list) depth x i own e es inner = number_with a depth e es
value_with octets scope depth x i own e es inner = attribute_with octets scope depth x i own e es inner

abbrev pub value_by : Option Fields → List ℕ → Scope → ℕ → Kinds → ℕ → Entry → List Entry → (Scope → Encoding) → Encoding
value_by None octets scope depth x i e es inner = Err (0, BadElement)
value_by (Some own) octets scope depth x i e es inner = if is_placed scope own e then value_with octets scope depth x i own e es inner else Err (0, BadDepth)

abbrev pub value_of : List ℕ → Scope → ℕ → Kinds → ℕ → Entry → List Entry → (Scope → Encoding) → Encoding
value_of octets scope depth x i e es inner = value_by (row_for scope x.address_family e) octets scope depth x i e es inner
