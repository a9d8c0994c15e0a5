-- Times of neighbour discovery: the fields, and what values hold.
use Rattle.std.specs.Prelude.{List, [], ◌∷◌}
use Rattle.link_base.specs.Class.{Value, Number}
use Rattle.link_base.specs.Fields.{FieldRow}
use Rattle.link_base.specs.Payloads.{u32, field, field_in}
use Rattle.link_base.specs.declared.rows.label.Quantity.TheVariants.{ClockTicks, Milliseconds}
use Rattle.link_common.specs.declared.cache_info.CacheInfo.{CacheInfo}

abbrev pub cache_info_fields : List FieldRow
cache_info_fields =
    field "max_reasm_len" 0 u32 ∷
    field_in ClockTicks "tstamp" 4 u32 ∷
    field_in Milliseconds "reachable_time" 8 u32 ∷
    field_in Milliseconds "retrans_time" 12 u32 ∷ []

abbrev pub cache_info_held : CacheInfo → List Value
cache_info_held c = Number 4 c.max_reasm_len ∷ Number 4 c.tstamp ∷ Number 4 c.reachable_time ∷ Number 4 c.retrans_time ∷ []
