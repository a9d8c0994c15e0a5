use Rattle.std.proofs.Common.{◌≡◌, ◌++◌, ◌∷◌, [], subst, codes}
use Rattle.link_base.specs.Payloads.{limit_fields}
use Rattle.link_json.specs.Doc.{fields_tokens}
use Rattle.link_json.specs.Value.{text_json, fields_json}
use Rattle.link_json.proofs.Objects.{field_then, object_then}
use Rattle.link_json.proofs.structs.write_limits.Goals as goal

pub returns : goal.returns
returns c =
    let rest = fields_json limit_fields 16 [] c.args.numbers.now in
    let written = subst (λ fields. c.write_fields.new.doc ≡ c.text.new.self ++ fields_tokens (fields_json fields 16 [] c.args.numbers.now)) c.limit_fields.ensures c.in_ok-write_fields.ensures in
    object_then c.end_object.result c.args.doc.now c.begin_object.new.self c.write_fields.new.doc c.end_object.new.self ((codes "name", text_json c.args.name.now) ∷ rest) c.in_ok-begin_object.ensures
    (field_then c.begin_object.new.self c.key.new.self c.text.new.self c.write_fields.new.doc (codes "name") (text_json c.args.name.now) rest c.in_ok-key.ensures c.in_ok-text.ensures written)
    c.end_object.ensures
