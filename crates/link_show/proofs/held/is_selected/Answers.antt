use Rattle.std.proofs.Common.{sym, ap, ◌∙◌}
use Rattle.std.specs.List.{list_all}
use Rattle.std.proofs.lemmas.List.Folds.{list_all-map}
use Rattle.netlink_packet_route.specs.Family.{holding_of}
use Rattle.link_show.specs.Held.{selects}
use Rattle.link_show.proofs.held.is_selected.Goals as goal

pub returns : goal.returns
returns c =
    c.all_select.ensures ∙ (sym (list_all-map (selects c.args.family) holding_of c.holders.result.now) ∙ ap (list_all (selects c.args.family)) c.holders.ensures)
