-- The JSON of values, by the form of their content.
use Rattle.std.specs.Prelude.{ℕ, ◌+◌, ◌-◌, true, List, [], ◌∷◌, ◌++◌, map, Option, Some, None, codes, if◌then◌else◌}
use Rattle.std.specs.Fmt.{decimal}
use Rattle.std.specs.Int.{w32, cast_signed}
use Rattle.std.specs.Str.{is_utf8}
use Rattle.std.specs.Net.Addr.{ipv4_octets}
use Rattle.std.specs.Net.Text.{ipv4_text}
use Rattle.hex.specs.Hex.{encode_lower}
use Rattle.json.specs.Json.{Json, boolean, string}
use Rattle.link_base.specs.declared.views.content.Content.{Content}
use Rattle.link_base.specs.declared.views.content.Content.TheVariants as contents
use Rattle.link_base.specs.declared.rows.form.ArrayOf.{ArrayOf}
use Rattle.link_base.specs.declared.rows.form.ArrayOf.TheVariants.{I32}
use Rattle.link_base.specs.declared.rows.form.Look.TheVariants as looks
use Rattle.link_base.specs.declared.rows.form.Form.{Form}
use Rattle.link_base.specs.declared.rows.form.Form.TheVariants as forms
use Rattle.link_base.specs.declared.rows.form.Role.{Role}
use Rattle.link_base.specs.declared.rows.form.Role.TheVariants as roles
use Rattle.link_base.specs.declared.rows.form.Layout.{Layout}
use Rattle.link_base.specs.declared.rows.form.Layout.TheVariants as layouts
use Rattle.link_base.specs.declared.rows.label.Quantity.{Quantity}
use Rattle.link_base.specs.declared.rows.label.Quantity.TheVariants as quantities
use Rattle.link_base.specs.declared.names.vlan_protocol.VlanProtocol.{VlanProtocol}
use Rattle.link_base.specs.Fields.{FieldRow, names_for}
use Rattle.link_base.specs.Orders.{number_by}
use Rattle.link_base.specs.Class.{is_on}
use Rattle.link_base.specs.Frame.{kind_of}
use Rattle.link_base.specs.Forms.{size_in}
use Rattle.link_base.specs.Payloads.{limit_fields}
use Rattle.link_base.specs.IpAddress.{sixteen_octets}
use Rattle.link_base.specs.Labels.{name_in}
use Rattle.link_base.specs.Layout.{numbers_of, octets_of}
use Rattle.link_base.specs.Protocol.{vlan_protocols, protocol_number}
use Rattle.link_base.specs.Named.{text_of}
use Rattle.netlink_packet_route.specs.Opening.{without_nul}
use Rattle.link_messages.specs.declared.header.LinkHeader.{LinkHeader}
use Rattle.link_show.specs.Text.{joined}
use Rattle.link_show.specs.Octets.{byte_text, ip6_text}
use Rattle.link_show.specs.Value.{counted_in}
use Rattle.link_show.specs.Flags.{set_names}
use Rattle.link_show.specs.MessageNames.{address_families, device_types, device_flags}
use Rattle.link_show.specs.List.{type_flags}
use Rattle.link_show.specs.Structs.{field_in, has_fields, bridge_id_text, pair_fields, masked_fields}
use Rattle.link_base.specs.Table.{Label}
use Rattle.link_json.specs.Doc.{Field, object_of, array_of, number_json, signed_json, named_json, element_json}
use Rattle.link_json.specs.Names.{short_name}

-- ---- texts

-- bytes in hexadecimal
abbrev pub hex_json : List ℕ → Json
hex_json bytes = string (encode_lower bytes)

-- only that
abbrev pub opaque_json : List ℕ → Json
opaque_json bytes = object_of ((codes "hex", hex_json bytes) ∷ [])

-- a text; its bytes in hexadecimal, if it is not UTF-8
abbrev pub text_json : List ℕ → Json
text_json text = if is_utf8 text then string text else opaque_json text

-- a hardware address
abbrev pub address_json : List ℕ → Json
address_json bytes = string (joined (codes ":") (map byte_text bytes))

-- ---- numbers by name

-- the number of an enum
abbrev pub enum_json : List (ℕ × List ℕ) → ℕ → Json
enum_json names n = named_json n (name_in names n)

-- the names of the bits that are set
abbrev pub names_json : List (ℕ × List ℕ) → ℕ → List Json
names_json names bits = map (λ x. string x.1) (set_names names bits)

-- a set of flags
abbrev pub flags_json : List (ℕ × List ℕ) → ℕ → Json
flags_json names bits = object_of ((codes "number", number_json bits) ∷ (codes "names", array_of (names_json names bits)) ∷ [])

-- a VLAN protocol
abbrev pub protocol_json : VlanProtocol → Json
protocol_json p = named_json (protocol_number p) (Some (text_of vlan_protocols.labels (protocol_number p)))

-- ---- structs

-- a number, by what it says
abbrev pub role_json : List (ℕ × List ℕ) → Role → ℕ → Json
role_json names roles.Plain n = number_json n
role_json names roles.Flags n = flags_json names n
role_json names role n = enum_json names n

-- what the bytes of a field say, by its form
abbrev pub form_json : List (ℕ × List ℕ) → Form → List ℕ → Json
form_json names (forms.Number w order role) bytes = role_json names role (number_by order bytes)
form_json names forms.Mac bytes = address_json bytes
form_json names form bytes = hex_json bytes

-- the member for a field of a struct, whose bytes from offset `start` on are p; the names are those of the row
abbrev pub field_json : ℕ → List (ℕ × List ℕ) → List ℕ → FieldRow → Field
field_json start names p f = (f.name, form_json (names_for names f.names) f.form (field_in start p f))

-- the members for fields of a struct; its bytes, if there are no fields, or they lack one of them
abbrev pub fields_json : List FieldRow → ℕ → List (ℕ × List ℕ) → List ℕ → List Field
fields_json fields start names p = if has_fields fields start p then map (field_json start names p) fields else (codes "hex", hex_json p) ∷ []

-- the struct that p starts with, with these fields
abbrev pub struct_json : Layout → List FieldRow → List (ℕ × List ℕ) → List ℕ → Json
struct_json layouts.BridgeId fields names p = string (bridge_id_text p)
struct_json layout fields names p = object_of (fields_json fields 0 names p)

-- the limits of a CAN controller: its name, and the bytes of the numbers, which follow those of the name
abbrev pub limits_json : List ℕ → List ℕ → Json
limits_json name p = object_of ((codes "name", text_json name) ∷ fields_json limit_fields 16 [] p)

-- ---- arrays of numbers

-- the number of an array whose bytes are those of n
abbrev pub item_json : ArrayOf → ℕ → Json
item_json I32 n = signed_json (cast_signed w32 n)
item_json a n = number_json n

-- the key of the number with this index: the name of its place, or the index, if that has none
abbrev pub place_key : ℕ → Option (List ℕ) → List ℕ
place_key i None = decimal i
place_key i (Some name) = name

-- the members for the numbers of an array from index i on
abbrev pub places_json : List (ℕ × List ℕ) → ArrayOf → ℕ → List ℕ → List Field
places_json names a i [] = []
places_json names a i (n ∷ ns) = (place_key i (name_in names i), item_json a n) ∷ places_json names a (i + 1) ns

-- an array; an object, if its places have names
abbrev pub numbers_json : List (ℕ × List ℕ) → ArrayOf → List ℕ → Json
numbers_json [] a ns = array_of (map (item_json a) ns)
numbers_json (x ∷ names) a ns = object_of (places_json (x ∷ names) a 0 ns)

-- ---- contents

-- bytes: the number in them, if it counts something, or an address
abbrev pub number_or_address : Option ℕ → List ℕ → Json
number_or_address None p = address_json p
number_or_address (Some n) p = number_json n

-- the value of a content, by what is known of its attribute type; the bytes of a list
abbrev pub content_json : Label → Content → Json
content_json label contents.Nothing = boolean true
content_json label (contents.Bool b) = boolean b
content_json label (contents.FlagOrBool flag) = boolean (is_on flag)
content_json label (contents.Number n width order role) = role_json label.names role n
content_json label (contents.Signed z) = signed_json z
content_json label (contents.LowFlags bits) = flags_json label.names bits
content_json label (contents.MaskedFlags flags mask) = object_of (fields_json masked_fields 0 label.names (octets_of 4 (flags ∷ mask ∷ [])))
content_json label (contents.Pair from to) = object_of (fields_json pair_fields 0 [] (octets_of 4 (from ∷ to ∷ [])))
content_json label (contents.Protocol p) = protocol_json p
content_json label (contents.Mac a) = address_json a
content_json label (contents.Ipv4 a) = string (ipv4_text (ipv4_octets a))
content_json label (contents.Ipv6 a) = string (ip6_text (sixteen_octets a))
content_json label (contents.Bytes looks.Address p) = number_or_address (counted_in label.quantity p.now) p.now
content_json label (contents.Bytes looks.Text p) = text_json (without_nul p.now)
content_json label (contents.Bytes looks.Held p) = opaque_json p.now
content_json label (contents.Bytes looks.Peer p) = opaque_json p.now
content_json label (contents.Struct layout p) = struct_json layout label.fields label.names p.now
content_json label (contents.Numbers a p) = numbers_json label.names a (numbers_of (size_in a) p.now)
content_json label (contents.Limits name numbers) = limits_json name.now numbers.now
content_json label (contents.Addresses list size) = opaque_json list.now
content_json label (contents.List list flagged) = opaque_json list.now
content_json label (contents.Other p) = opaque_json p.now

-- what numbers count
abbrev pub unit_of : Quantity → Option (List ℕ)
unit_of quantities.ClockTicks = Some (codes "1/100 s")
unit_of quantities.Milliseconds = Some (codes "ms")
unit_of quantities.Seconds = Some (codes "s")
unit_of quantities.BitsPerSecond = Some (codes "bit/s")
unit_of quantities.Ohms = Some (codes "ohm")
unit_of quantities.Nanoseconds = Some (codes "ns")
unit_of quantities.Hertz = Some (codes "Hz")
unit_of quantity = None

abbrev pub unit_fields : Option (List ℕ) → List Field
unit_fields None = []
unit_fields (Some unit) = (codes "unit", string unit) ∷ []

-- the unit of bytes: that of the number in them, if there is one
abbrev pub bytes_unit : Quantity → Option ℕ → Option (List ℕ)
bytes_unit quantity None = None
bytes_unit quantity (Some n) = unit_of quantity

-- the unit of a content
abbrev pub unit_in : Quantity → Content → Option (List ℕ)
unit_in quantity (contents.Bytes looks.Address p) = bytes_unit quantity (counted_in quantity p.now)
unit_in quantity content = unit_of quantity

-- an attribute with this content: its name, its value, and the unit, if the value is a number that has one, or several
abbrev pub labelled_json : Label → Content → Json → Json
labelled_json label content value = element_json (string (short_name label.prefix label.name)) value (unit_fields (unit_in label.quantity content))

-- ---- attributes that are not decoded

-- its attribute type, the flags of its `nla_type` f, and its payload p
abbrev pub raw_json : ℕ → List ℕ → Json
raw_json f p = object_of ((codes "type", number_json (kind_of f)) ∷ (codes "flags", flags_json type_flags (f - kind_of f)) ∷ (codes "hex", hex_json p) ∷ [])

-- an attribute whose type has no name
abbrev pub unnamed_json : ℕ → List ℕ → Json
unnamed_json f p = element_json (string (decimal (kind_of f))) (raw_json f p) []

-- ---- links

abbrev pub header_fields : LinkHeader → List Field
header_fields h =
    (codes "family", enum_json address_families h.family) ∷
    (codes "type", enum_json device_types h.kind) ∷
    (codes "index", signed_json h.index) ∷
    (codes "flags", flags_json device_flags h.flags) ∷
    (codes "change", flags_json device_flags h.change) ∷ []

-- a link: its `struct ifinfomsg`, and its attributes
abbrev pub whole_link : LinkHeader → List Json → Json
whole_link h js = object_of (header_fields h ++ (codes "attrs", array_of js) ∷ [])
