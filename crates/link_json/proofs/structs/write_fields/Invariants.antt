use Rattle.std.proofs.Common.{◌≡◌, ◌++◌, map, drop}
use Rattle.link_base.specs.Labels.{names_in, field_rows}
use Rattle.link_json.specs.Doc.{fields_tokens}
use Rattle.link_json.specs.Value.{field_json}
use Rattle.link_json.proofs.structs.write_fields.Given as goal

abbrev pub invariant-loop-field : goal.invariant-loop-field
invariant-loop-field l =
    l.doc ++ fields_tokens (map (field_json l.start (names_in l.names) l.bytes) (field_rows (drop l.field-index l.fields)))
    ≡ l.fn.doc ++ fields_tokens (map (field_json l.start (names_in l.names) l.bytes) (field_rows l.fields))
