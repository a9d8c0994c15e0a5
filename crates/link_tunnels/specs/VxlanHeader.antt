-- Bits of a VXLAN header: its fields, and what values hold.
use Rattle.std.specs.Prelude.{List, [], ◌∷◌}
use Rattle.link_base.specs.Number.{bytes_be}
use Rattle.link_base.specs.Class.{Value, Raw}
use Rattle.link_base.specs.Fields.{FieldRow}
use Rattle.link_base.specs.Payloads.{u32_be, field_in}
use Rattle.link_base.specs.declared.rows.label.Quantity.TheVariants.{Mask}
use Rattle.link_tunnels.specs.declared.vxlan_header.VxlanHeader.{VxlanHeader}

abbrev pub vxlan_header_fields : List FieldRow
vxlan_header_fields = field_in Mask "vx_flags" 0 u32_be ∷ field_in Mask "vx_vni" 4 u32_be ∷ []

abbrev pub vxlan_header_held : VxlanHeader → List Value
vxlan_header_held h = Raw (bytes_be 4 h.vx_flags) ∷ Raw (bytes_be 4 h.vx_vni) ∷ []
