-- The range of source ports of a GENEVE device: its fields, and what values hold.
use Rattle.std.specs.Prelude.{List, [], ◌∷◌}
use Rattle.link_base.specs.Number.{bytes_be}
use Rattle.link_base.specs.Class.{Value, Raw}
use Rattle.link_base.specs.Fields.{FieldRow}
use Rattle.link_base.specs.Payloads.{u16_be, field}
use Rattle.link_tunnels.specs.declared.geneve_port_range.GenevePortRange.{GenevePortRange}

abbrev pub geneve_port_range_fields : List FieldRow
geneve_port_range_fields = field "low" 0 u16_be ∷ field "high" 2 u16_be ∷ []

abbrev pub geneve_port_range_held : GenevePortRange → List Value
geneve_port_range_held r = Raw (bytes_be 2 r.low) ∷ Raw (bytes_be 2 r.high) ∷ []
