use Rattle.std.proofs.Common.{◌≡◌, ◌++◌, ◌∷◌, [], map, ap, ◌∙◌, arith}
use Rattle.std.proofs.lemmas.Grind.{common_steps}
use Rattle.link_messages.specs.Finding.{stretch_of}
use Rattle.link_messages.specs.Link.{part_of}
use Rattle.link_messages.specs.Within.{within_self}
use Rattle.link_messages.proofs.lists.lists_below.Goals as goal

pub visit_list-requires-clause-reached : goal.visit_list-requires-clause-reached
visit_list-requires-clause-reached c = within_self (stretch_of c.args.list)

pub returns : goal.returns
returns c =
    let (held, shown, added) = c.in_ok-visit_list.ensures in
    let first : c.push.new.self.items ≡ record { family = c.args.family; payload = c.args.list } ∷ [] = grind (arith, common_steps) in
    (held, c.in_ok-visit_list.field-0, rw c.of_message-context.ensures at shown, added ∙ ap (λ items. map part_of items ++ held) first)
