use Rattle.std.proofs.Common.{◌≡◌, ◌++◌, ◌∷◌, [], refl, subst, codes}
use Rattle.json.specs.Tree.{json_tokens}
use Rattle.link_json.specs.Doc.{array_of}
use Rattle.link_json.specs.Message.{errno_json, reply_json}
use Rattle.link_json.proofs.Objects.{object_written, field_then, field_only}
use Rattle.link_json.proofs.replies.write_said.Goals as goal

pub returns : goal.returns
returns c =
    let (j, (js, shown, is), written) = c.in_ok-well.ensures in
    let errno = errno_json c.args.reply.now.error in
    let begun = c.begin_object.new.self in
    let said = c.write_errno.new.doc in
    let end = c.write_array.new.doc in
    let last = (codes "attrs", array_of js) ∷ [] in
    let attrs = field_only said c.key-2.new.self end (codes "attrs") (array_of js) c.in_ok-key-2.ensures (subst (λ j. end ≡ c.key-2.new.self ++ json_tokens j) is written) in
    let fields = field_then begun c.key.new.self said end (codes "errno") errno last c.in_ok-key.ensures c.in_ok-write_errno.ensures attrs in (
      reply_json c.args.reply.now js,
      (js, shown, refl),
      object_written c.args.doc.now begun end c.end_object.new.self ((codes "errno", errno) ∷ last) c.in_ok-begin_object.ensures fields c.in_ok-end_object.ensures,
    )
