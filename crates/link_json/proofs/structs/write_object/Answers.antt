use Rattle.link_base.specs.Labels.{names_in, field_rows}
use Rattle.link_json.specs.Value.{fields_json}
use Rattle.link_json.proofs.Objects.{object_then}
use Rattle.link_json.proofs.structs.write_object.Goals as goal

pub returns : goal.returns
returns c =
    object_then c.end_object.result c.args.doc.now c.begin_object.new.self c.write_fields.new.doc c.end_object.new.self (fields_json (field_rows c.args.fields.now) 0 (names_in c.args.names.now) c.args.bytes.now)
    c.in_ok-begin_object.ensures c.in_ok-write_fields.ensures c.end_object.ensures
