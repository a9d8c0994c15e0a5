use Rattle.link_show.proofs.held.write_set.Goals as goal

pub returns : goal.returns
returns g c = rw c.of_message-context.ensures at c.visit_list.ensures
