use Rattle.std.proofs.Common.{map, drop, codes}
use Rattle.link_base.specs.Labels.{names_in, field_rows}
use Rattle.link_show.specs.Text.{after, joined}
use Rattle.link_show.specs.Structs.{field_text}
use Rattle.link_show.proofs.Written.{WritesFront}
use Rattle.link_show.proofs.structs.write_fields.Given as goal

abbrev pub invariant-loop-field : goal.invariant-loop-field
invariant-loop-field g l =
    WritesFront (g.W.Sink.output l.fn.writer) (g.W.Sink.output l.writer) (joined (codes " ") (map (field_text l.start (names_in l.names) l.bytes) (field_rows l.fields)))
    (after l.separator (codes " ") (map (field_text l.start (names_in l.names) l.bytes) (field_rows (drop l.field-index l.fields))))
