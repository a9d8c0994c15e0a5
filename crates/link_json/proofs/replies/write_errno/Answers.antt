use Rattle.std.proofs.Common.{◌≡◌, ◌++◌, List, ◌∷◌, [], subst, ◌∙◌, ap, arith, to_z, of_z, w32, codes}
use Rattle.std.proofs.lemmas.Int.{to_z-of_z, ints}
use Rattle.json.specs.Tree.{json_tokens}
use Rattle.link_show.specs.Message.{errno_name}
use Rattle.link_json.specs.Doc.{Field, signed_json, name_json}
use Rattle.link_json.proofs.Objects.{object_then, field_then, field_only}
use Rattle.link_json.proofs.replies.write_errno.Goals as goal

pub returns : goal.returns
returns c =
    let e = c.args.reply.now.error in
    let begun = c.begin_object.new.self in
    let said = c.write_name.new.doc in
    let small : to_z w32 (of_z w32 e) ≡ e = to_z-of_z w32 e (omega (arith, ints)) in
    let number = subst (λ z. c.signed.new.self ≡ c.key.new.self ++ json_tokens (signed_json z)) small c.in_ok-signed.ensures in
    let name : said ≡ c.key-2.new.self ++ json_tokens (name_json (errno_name e)) = c.in_ok-write_name.ensures ∙ ap (λ n. c.key-2.new.self ++ json_tokens (name_json n)) c.errno_name.ensures in
    let last : List Field = (codes "name", name_json (errno_name e)) ∷ [] in
    object_then c.end_object.result c.args.doc.now begun said c.end_object.new.self ((codes "number", signed_json e) ∷ last) c.in_ok-begin_object.ensures
    (field_then begun c.key.new.self c.signed.new.self said (codes "number") (signed_json e) last c.in_ok-key.ensures number
    (field_only c.signed.new.self c.key-2.new.self said (codes "name") (name_json (errno_name e)) c.in_ok-key-2.ensures name))
    c.end_object.ensures
