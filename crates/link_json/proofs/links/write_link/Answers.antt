use Rattle.std.proofs.Common.{◌≡◌, ◌++◌, ◌∷◌, [], refl, subst, codes}
use Rattle.json.specs.Tree.{json_tokens}
use Rattle.link_json.specs.Doc.{array_of}
use Rattle.link_json.specs.Value.{header_fields, whole_link}
use Rattle.link_json.proofs.Objects.{object_written, fields_then, field_only}
use Rattle.link_json.proofs.links.write_link.Goals as goal

pub returns : goal.returns
returns c =
    let (j, (js, shown, is), written) = c.in_ok-well.ensures in
    let h = c.args.header.now in
    let a = c.begin_object.new.self in
    let b = c.write_link_header.new.doc in
    let k = c.key.new.self in
    let e = c.write_array.new.doc in
    let array = subst (λ j. e ≡ k ++ json_tokens j) is written in
    let attrs = field_only b k e (codes "attrs") (array_of js) c.in_ok-key.ensures array in
    let fields = fields_then a b e (header_fields h) ((codes "attrs", array_of js) ∷ []) c.in_ok-write_link_header.ensures attrs in (
      whole_link h js,
      (js, shown, refl),
      object_written c.args.doc.now a e c.end_object.new.self (header_fields h ++ (codes "attrs", array_of js) ∷ []) c.in_ok-begin_object.ensures fields c.in_ok-end_object.ensures,
    )
