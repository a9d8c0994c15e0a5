-- Which fields of an entry make the payload of its attribute.
use Rattle.std.specs.Prelude.{ℕ, ◌-◌, ◌<◌, ◌==◌, true, false, Option, Some, None, if◌then◌else◌}
use Rattle.link_base.specs.declared.rows.form.ArrayOf.{ArrayOf}
use Rattle.link_base.specs.declared.rows.form.ArrayOf.TheVariants.{I32}
use Rattle.link_base.specs.declared.rows.form.Width.{Width}
use Rattle.link_base.specs.declared.rows.form.Width.TheVariants as widths
use Rattle.link_base.specs.declared.rows.form.Order.{Order}
use Rattle.link_base.specs.declared.rows.form.Order.TheVariants as orders
use Rattle.link_base.specs.declared.rows.form.Role.{Role}
use Rattle.link_base.specs.declared.rows.form.Role.TheVariants as roles
use Rattle.link_base.specs.declared.rows.form.Look.{Look}
use Rattle.link_base.specs.declared.rows.form.Look.TheVariants as looks
use Rattle.link_base.specs.declared.rows.form.Layout.{Layout}
use Rattle.link_base.specs.declared.rows.form.Layout.TheVariants as layouts
use Rattle.link_base.specs.declared.rows.form.Form.{Form}
use Rattle.link_base.specs.declared.rows.form.Form.TheVariants as forms
use Rattle.link_base.specs.Number.{bound}
use Rattle.link_base.specs.Class.{size_of}
use Rattle.link_base.specs.Forms.{bytes_in, width_in, layout_extent}
use Rattle.link_base.specs.Table.{Table, form_at, nested_flag}
use Rattle.link_entries.specs.Forms.{form_bool, form_unsigned, form_named, form_flags, form_masked, form_mac, form_ipv4, form_ipv6, form_vlan_info, form_qos_mapping, form_berr_counter, form_bittiming, form_bytes, form_text, form_held, form_peer}
use Rattle.link_entries.specs.declared.fields.Fields.{Fields}
use Rattle.link_entries.specs.declared.fields.Fields.TheVariants as fields

-- any number of this width
abbrev pub any_number : ℕ → Width → Order → Fields
any_number form width order = fields.Number form width (bound (bytes_in width) - 1) order

-- the form of entries for numbers that say this
abbrev pub role_form : Role → ℕ
role_form roles.Plain = form_unsigned
role_form roles.Flags = form_flags
role_form role = form_named

-- likewise, for bytes that are shown as this
abbrev pub look_form : Look → ℕ
look_form looks.Address = form_bytes
look_form looks.Text = form_text
look_form looks.Held = form_held
look_form looks.Peer = form_peer

-- for bytes that are shown as this
abbrev pub look_fields : Look → Fields
look_fields looks.Peer = fields.Peer
look_fields look = fields.Passed (look_form look) None

-- an IP address of this size
abbrev pub ip_address : ℕ → Fields
ip_address size = fields.Address (if size == 4 then form_ipv4 else form_ipv6) size

-- for a struct
abbrev pub struct_fields : Layout → Fields
struct_fields layouts.BridgeId = fields.BridgeId
struct_fields layouts.VlanInfo = fields.Shorts form_vlan_info true
struct_fields layouts.BooleanOptions = fields.Words form_masked false
struct_fields layouts.BitTiming = fields.Passed form_bittiming (Some 32)
struct_fields layouts.Clock = any_number form_unsigned widths.Four orders.Little
struct_fields layouts.CtrlMode = fields.Words form_masked true
struct_fields layouts.BerrCounter = fields.Shorts form_berr_counter false
struct_fields layout = fields.Passed form_bytes (Some (size_of (layout_extent layout)))

-- for an attribute type whose values have this form
abbrev pub row_fields : Form → Fields
row_fields forms.Nothing = fields.Empty
row_fields forms.Bool = fields.Number form_bool widths.One 1 orders.Little
row_fields forms.FlagOrBool = fields.FlagOrBool
row_fields (forms.Number width order role) = any_number (role_form role) width order
row_fields forms.Signed = fields.Signed
row_fields forms.LowFlags = fields.Number form_flags widths.Two 255 orders.Little
row_fields forms.MaskedFlags = fields.Words form_masked false
row_fields forms.Pair = fields.Words form_qos_mapping false
row_fields forms.Protocol = fields.Protocol
row_fields forms.Mac = fields.Address form_mac 6
row_fields forms.Ipv4 = fields.Address form_ipv4 4
row_fields forms.Ipv6 = fields.Address form_ipv6 16
row_fields (forms.Bytes look) = look_fields look
row_fields (forms.Struct layout) = struct_fields layout
row_fields (forms.Numbers a) = fields.Numbers a
row_fields forms.Limits = fields.Limits
row_fields (forms.Addresses size) = fields.Addresses size
row_fields (forms.List flagged) = fields.List (nested_flag flagged)

-- the form of a number of an array, and its fields
abbrev pub number_form : ArrayOf → Form
number_form I32 = forms.Signed
number_form a = forms.Number (width_in a) orders.Little roles.Plain

abbrev pub array_number : ArrayOf → Fields
array_number a = row_fields (number_form a)

-- likewise, if the type has a row
abbrev pub fields_in : Option Form → Fields
fields_in None = fields.Unknown
fields_in (Some form) = row_fields form

-- for an attribute type of a list of this table
abbrev pub fields_at : Table → ℕ → Fields
fields_at table k = fields_in (form_at table k)

-- the greatest number of a field fits in its width
abbrev pub IsNarrow : Fields → Type 0
IsNarrow (fields.Number form width most order) = most < bound (bytes_in width)
IsNarrow own = Unit {0}
