use Rattle.std.proofs.Common.{◌∷◌, refl, codes}
use Rattle.json.specs.Json.{string}
use Rattle.link_base.specs.Labels.{label_of}
use Rattle.link_json.specs.Names.{short_name}
use Rattle.link_json.specs.Value.{labelled_json, unit_in, unit_fields}
use Rattle.link_json.proofs.Loops.{on_ok}
use Rattle.link_json.proofs.Objects.{field_then, object_written}
use Rattle.link_json.proofs.elements.write_labelled.Goals as goal

pub returns : goal.returns
returns c =
    let label = label_of c.args.label.now in
    let written = c.in_ok-write_flat.ensures in
    let name = string (short_name c.args.label.now.prefix.now c.args.label.now.name.now) in
    let unit = unit_fields (unit_in c.args.label.now.quantity c.args.content) in
    on_ok c.end_object.result
    (λ e. (
      labelled_json label c.args.content written.0,
      (written.0, written.1, refl),
      object_written c.args.doc.now c.begin_object.new.self c.write_unit.new.doc c.end_object.new.self ((codes "name", name) ∷ (codes "value", written.0) ∷ unit) c.in_ok-begin_object.ensures
          (field_then c.begin_object.new.self c.key.new.self c.short_name.new.self c.write_unit.new.doc (codes "name") name ((codes "value", written.0) ∷ unit) c.in_ok-key.ensures c.in_ok-short_name.ensures
          (field_then c.short_name.new.self c.key-2.new.self c.write_flat.new.doc c.write_unit.new.doc (codes "value") written.0 unit c.in_ok-key-2.ensures written.2 c.in_ok-write_unit.ensures)) e,
    )) c.end_object.ensures
