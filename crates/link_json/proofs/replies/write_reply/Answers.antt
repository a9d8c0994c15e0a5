use Rattle.std.proofs.Common.{◌∷◌, [], true, refl, sym, subst, ◌∙◌, codes}
use Rattle.link_show.proofs.MessageLines.{if_ok}
use Rattle.link_json.specs.List.{WritesValue}
use Rattle.link_json.specs.Message.{ShowsReply, SaysReply, WritesFields, shows_said}
use Rattle.link_json.proofs.Objects.{no_field, field_only}
use Rattle.link_json.proofs.replies.write_reply.Goals as goal

pub returns-then-not-says_something : goal.returns-then-not-says_something
returns-then-not-says_something c =
    ([], subst (λ said. shows_said said c.args.reply.now [] true) (sym (sym c.says_something.ensures ∙ c.if-not-says_something.true)) (refl, refl), no_field c.args.doc.now)

pub returns : goal.returns
returns c =
    let a = c.args.reply.now in
    let old = c.args.doc.now in
    let new = c.write_said.new.doc in
    let says = sym (sym c.says_something.ensures ∙ c.if-not-says_something.false) in
    if_ok (WritesValue (SaysReply a) c.key.new.self new) (WritesFields (ShowsReply a) old new) c.write_said.result
    (λ well (j, shown, written). ((codes "reply", j) ∷ [], subst (λ said. shows_said said a ((codes "reply", j) ∷ []) well) says (j, shown, refl), field_only old c.key.new.self new (codes "reply") j c.in_ok-key.ensures written))
    c.write_said.ensures
