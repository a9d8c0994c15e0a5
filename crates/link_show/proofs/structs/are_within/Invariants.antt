use Rattle.std.proofs.Common.{◌≡◌, drop}
use Rattle.link_base.specs.Labels.{field_rows}
use Rattle.link_show.specs.Structs.{are_within}
use Rattle.link_show.proofs.structs.are_within.Given as goal

abbrev pub invariant-loop-field : goal.invariant-loop-field
invariant-loop-field l = are_within (field_rows (drop l.field-index l.fields)) l.start l.bytes ≡ are_within (field_rows l.fields) l.start l.bytes
