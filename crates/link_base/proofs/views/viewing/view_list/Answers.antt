use Rattle.link_base.proofs.views.viewing.view_list.Goals as goal

pub of_checked-requires : goal.of_checked-requires
of_checked-requires g c = λ none. none (record { values = c.in_ok-check_list.ensures.answer.0; wire = c.in_ok-check_list.ensures.answer.1 })
