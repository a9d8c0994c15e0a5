-- What a row of a table says of payloads: the form of their values, the names of numbers or bits, and, by these, their
-- class.
use Rattle.std.specs.Prelude.{ℕ, Bool, true, false, List, [], ◌∷◌, map, codes}
use Prim.Native.String.{String}
use Rattle.link_base.specs.declared.rows.form.Width.TheVariants.{One, Two, Four, Eight}
use Rattle.link_base.specs.declared.rows.form.ArrayOf.TheVariants.{U16, U32, U64, I32}
use Rattle.link_base.specs.declared.rows.form.Order.{Order}
use Rattle.link_base.specs.declared.rows.form.Order.TheVariants.{Little, Big}
use Rattle.link_base.specs.declared.rows.form.Role.{Role}
use Rattle.link_base.specs.declared.rows.form.Role.TheVariants as roles
use Rattle.link_base.specs.declared.rows.form.Layout.{Layout}
use Rattle.link_base.specs.declared.rows.label.Quantity.{Quantity}
use Rattle.link_base.specs.declared.rows.label.Quantity.TheVariants as quantities
use Rattle.link_base.specs.declared.rows.form.Form.{Form}
use Rattle.link_base.specs.declared.rows.form.Form.TheVariants as forms
use Rattle.link_base.specs.declared.rows.form.Look.{Look}
use Rattle.link_base.specs.declared.rows.form.Look.TheVariants as looks
use Rattle.link_base.specs.Class.{Exactly, Class, Unsigned, Signed, Truth, Optional, Octets, Bytes, Headed, Many, Named, Protocol, Low, Empty, Limits}
use Rattle.link_base.specs.Named.{Naming, texts_of}
use Rattle.link_base.specs.Protocol.{vlan_protocols}
use Rattle.link_base.specs.Fields.{FieldRow}
use Rattle.link_base.specs.Forms.{bytes_in, size_in, layout_extent}

-- the form of the values, the names of their numbers, of their bits or of the places of an array, each with its number, and
-- the fields of a struct
pub record Payloads : Type 0 where
  pub form : Form
  pub names : List (ℕ × List ℕ)
  pub fields : List FieldRow

-- the class of numbers of n bytes in this order; in network byte order it is bytes
abbrev pub number_class : Order → Role → ℕ → List (ℕ × List ℕ) → Class
number_class Little roles.Enum n names = Named n (map (λ x. x.0) names)
number_class Little role n names = Unsigned n
number_class Big role n names = Octets (Exactly n)

-- the class of bytes that are shown as this
abbrev pub look_class : Look → Class
look_class looks.Peer = Headed 16
look_class look = Bytes

-- the class of the payloads of a form that is no list
abbrev pub class_by : Form → List (ℕ × List ℕ) → Class
class_by forms.Nothing names = Empty
class_by forms.Bool names = Truth
class_by forms.FlagOrBool names = Optional
class_by (forms.Number w order role) names = number_class order role (bytes_in w) names
class_by forms.Signed names = Signed
class_by forms.LowFlags names = Low
class_by forms.MaskedFlags names = Octets (Exactly 8)
class_by forms.Pair names = Octets (Exactly 8)
class_by forms.Protocol names = Protocol
class_by forms.Mac names = Octets (Exactly 6)
class_by forms.Ipv4 names = Octets (Exactly 4)
class_by forms.Ipv6 names = Octets (Exactly 16)
class_by (forms.Bytes look) names = look_class look
class_by (forms.Struct layout) names = Octets (layout_extent layout)
class_by (forms.Numbers a) names = Many (size_in a)
class_by forms.Limits names = Limits
class_by (forms.Addresses n) names = Bytes
class_by (forms.List flagged) names = Bytes

-- the class of these payloads
abbrev pub class_of : Payloads → Class
class_of p = class_by p.form p.names

-- payloads of the form are written with one size
abbrev pub is_fixed : Form → Bool
is_fixed forms.FlagOrBool = false
is_fixed (forms.Bytes look) = false
is_fixed (forms.Numbers a) = false
is_fixed forms.Limits = false
is_fixed (forms.Addresses n) = false
is_fixed (forms.List flagged) = false
is_fixed form = true

-- without names
abbrev pub plain : Form → Payloads
plain form = record { form = form; names = []; fields = [] }

-- with the names of numbers or of bits
abbrev pub with_names : Form → List (ℕ × List ℕ) → Payloads
with_names form names = record { form = form; names = names; fields = [] }

-- ---- the words of rows: unsigned and signed numbers, and booleans

abbrev pub u8 : Payloads
u8 = plain (forms.Number One Little roles.Plain)

abbrev pub u16 : Payloads
u16 = plain (forms.Number Two Little roles.Plain)

abbrev pub u32 : Payloads
u32 = plain (forms.Number Four Little roles.Plain)

abbrev pub u64 : Payloads
u64 = plain (forms.Number Eight Little roles.Plain)

abbrev pub i32 : Payloads
i32 = plain forms.Signed

abbrev pub truth : Payloads
truth = plain forms.Bool

-- a flag without a payload, or a boolean
abbrev pub flag_or_bool : Payloads
flag_or_bool = plain forms.FlagOrBool

-- in network byte order
abbrev pub u16_be : Payloads
u16_be = plain (forms.Number Two Big roles.Plain)

abbrev pub u32_be : Payloads
u32_be = plain (forms.Number Four Big roles.Plain)

abbrev pub u64_be : Payloads
u64_be = plain (forms.Number Eight Big roles.Plain)

-- ---- enums, with the names of their numbers

abbrev pub u8_enum : {T : Type 0} → Naming T → Payloads
u8_enum names = with_names (forms.Number One Little roles.Enum) (texts_of names)

abbrev pub u16_enum : {T : Type 0} → Naming T → Payloads
u16_enum names = with_names (forms.Number Two Little roles.Enum) (texts_of names)

abbrev pub u32_enum : {T : Type 0} → Naming T → Payloads
u32_enum names = with_names (forms.Number Four Little roles.Enum) (texts_of names)

-- a number of an enum of the headers, for which Rust has no enum
abbrev pub u8_coded : List (ℕ × List ℕ) → Payloads
u8_coded names = with_names (forms.Number One Little roles.Coded) names

abbrev pub u16_coded : List (ℕ × List ℕ) → Payloads
u16_coded names = with_names (forms.Number Two Little roles.Coded) names

abbrev pub u32_coded : List (ℕ × List ℕ) → Payloads
u32_coded names = with_names (forms.Number Four Little roles.Coded) names

-- ---- sets of flags, with the names of their bits

abbrev pub u8_flags : List (ℕ × List ℕ) → Payloads
u8_flags names = with_names (forms.Number One Little roles.Flags) names

abbrev pub u16_flags : List (ℕ × List ℕ) → Payloads
u16_flags names = with_names (forms.Number Two Little roles.Flags) names

abbrev pub u32_flags : List (ℕ × List ℕ) → Payloads
u32_flags names = with_names (forms.Number Four Little roles.Flags) names

-- in network byte order
abbrev pub u16_be_flags : List (ℕ × List ℕ) → Payloads
u16_be_flags names = with_names (forms.Number Two Big roles.Flags) names

-- a set of one byte, in two bytes
abbrev pub low_flags : List (ℕ × List ℕ) → Payloads
low_flags names = with_names forms.LowFlags names

-- a set, and a mask
abbrev pub masked_flags : List (ℕ × List ℕ) → Payloads
masked_flags names = with_names forms.MaskedFlags names

-- ---- addresses, structs, and bytes

abbrev pub mac : Payloads
mac = plain forms.Mac

abbrev pub ipv4 : Payloads
ipv4 = plain forms.Ipv4

abbrev pub ipv6 : Payloads
ipv6 = plain forms.Ipv6

abbrev pub vlan_protocol : Payloads
vlan_protocol = with_names forms.Protocol (texts_of vlan_protocols)

-- two `u32`s
abbrev pub pair : Payloads
pair = plain forms.Pair

-- a fixed-layout struct, and its fields in the order in which they are shown
abbrev pub struct_of : Layout → List FieldRow → Payloads
struct_of layout fields = record { form = forms.Struct layout; names = []; fields = fields }

-- one with sets of flags, and the names of their bits
abbrev pub flags_struct : Layout → List (ℕ × List ℕ) → List FieldRow → Payloads
flags_struct layout names fields = record { form = forms.Struct layout; names = names; fields = fields }

-- the limits of a CAN controller
abbrev pub limits : Payloads
limits = plain forms.Limits

-- arrays of numbers
abbrev pub u16s : Payloads
u16s = plain (forms.Numbers U16)

abbrev pub u32s : Payloads
u32s = plain (forms.Numbers U32)

abbrev pub u64s : Payloads
u64s = plain (forms.Numbers U64)

-- arrays whose places have names, with the number of each, which counts from 0
abbrev pub u32_counters : List (ℕ × List ℕ) → Payloads
u32_counters names = with_names (forms.Numbers U32) names

abbrev pub u64_counters : List (ℕ × List ℕ) → Payloads
u64_counters names = with_names (forms.Numbers U64) names

abbrev pub i32_counters : List (ℕ × List ℕ) → Payloads
i32_counters names = with_names (forms.Numbers I32) names

abbrev pub bytes : Payloads
bytes = plain (forms.Bytes looks.Address)

-- bytes that are shown as a text
abbrev pub text : Payloads
text = plain (forms.Bytes looks.Text)

-- bytes that are a list of attributes of another set
abbrev pub held : Payloads
held = plain (forms.Bytes looks.Held)

-- a header of 16 bytes, then a list of attributes of links
abbrev pub peer : Payloads
peer = plain (forms.Bytes looks.Peer)

abbrev pub no_value : Payloads
no_value = plain forms.Nothing

-- ---- fields of structs: a name, where the field starts, and its payloads

abbrev pub field : String → ℕ → Payloads → FieldRow
field name offset p = record { name = codes name; offset = offset; quantity = quantities.Number; form = p.form; names = p.names }

-- one whose number counts something
abbrev pub field_in : Quantity → String → ℕ → Payloads → FieldRow
field_in q name offset p = record { name = codes name; offset = offset; quantity = q; form = p.form; names = p.names }

-- the numbers of the limits of a CAN controller, which follow its name
abbrev pub limit_fields : List FieldRow
limit_fields =
    field "tseg1_min" 16 u32 ∷
    field "tseg1_max" 20 u32 ∷
    field "tseg2_min" 24 u32 ∷
    field "tseg2_max" 28 u32 ∷
    field "sjw_max" 32 u32 ∷
    field "brp_min" 36 u32 ∷
    field "brp_max" 40 u32 ∷
    field "brp_inc" 44 u32 ∷ []
