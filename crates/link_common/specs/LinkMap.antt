-- The resources of a link's hardware: its fields, and what values hold.
use Rattle.std.specs.Prelude.{List, [], ◌∷◌}
use Rattle.link_base.specs.Class.{Value, Number}
use Rattle.link_base.specs.Fields.{FieldRow}
use Rattle.link_base.specs.Payloads.{u8, u16, u64, field, field_in}
use Rattle.link_base.specs.declared.rows.label.Quantity.TheVariants.{Mask}
use Rattle.link_common.specs.declared.link_map.LinkMap.{LinkMap}

abbrev pub link_map_fields : List FieldRow
link_map_fields =
    field_in Mask "mem_start" 0 u64 ∷
    field_in Mask "mem_end" 8 u64 ∷
    field_in Mask "base_addr" 16 u64 ∷
    field "irq" 24 u16 ∷
    field "dma" 26 u8 ∷
    field "port" 27 u8 ∷ []

-- the last is padding
abbrev pub link_map_held : LinkMap → List Value
link_map_held m =
    Number 8 m.mem_start ∷
    Number 8 m.mem_end ∷
    Number 8 m.base_addr ∷
    Number 2 m.irq ∷
    Number 1 m.dma ∷
    Number 1 m.port ∷
    Number 4 m.padding ∷ []
