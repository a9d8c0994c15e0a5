use Rattle.std.proofs.Common.{◌≡◌, ◌++◌, ◌∷◌, [], refl, subst, codes}
use Rattle.json.specs.Json.{string}
use Rattle.json.specs.Tree.{json_tokens}
use Rattle.netlink_packet_route.specs.Family.{family_name}
use Rattle.link_json.specs.Doc.{array_of}
use Rattle.link_json.specs.Other.{list_document}
use Rattle.link_json.proofs.Objects.{field_then, field_only}
use Rattle.link_json.proofs.OtherParts.{member_document}
use Rattle.link_json.proofs.others.store_list.Goals as goal

pub returns : goal.returns
returns g c =
    let place = g.P.Place.fields c.args.place.now in
    let (j, (js, shown, is), written) = c.in_ok-well.ensures in
    let well = c.in_ok-well.well in
    let name = string (family_name c.args.family) in
    let named = subst (λ n. c.string.new.self ≡ c.key-2.new.self ++ json_tokens (string n)) c.name.ensures c.in_ok-string.ensures in
    let array = subst (λ j. c.write_array.new.doc ≡ c.key-3.new.self ++ json_tokens j) is written in
    let o = c.begin_object-2.new.self in
    let f = c.write_array.new.doc in
    let fields = field_then o c.key-2.new.self c.string.new.self f (codes "family") name ((codes "attrs", array_of js) ∷ []) c.in_ok-key-2.ensures named
    (field_only c.string.new.self c.key-3.new.self f (codes "attrs") (array_of js) c.in_ok-key-3.ensures array) in (
      list_document place c.args.family js well,
      (js, shown, refl),
      member_document c.args.doc.now c.begin_object.new.self c.write_fields.new.doc c.key.new.self o f c.end_object.new.self c.end_document.new.doc place
          ((codes "family", name) ∷ (codes "attrs", array_of js) ∷ []) (codes "list") well c.in_ok-begin_object.ensures c.in_ok-write_fields.ensures c.in_ok-key.ensures c.in_ok-begin_object-2.ensures fields
          c.in_ok-end_object.ensures c.in_ok-end_document.ensures,
    )
