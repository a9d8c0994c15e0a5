use Rattle.link_show.proofs.Lines.{flat_written}
use Rattle.link_show.proofs.lists.write_flat.Goals as goal

pub returns : goal.returns
returns g c =
    flat_written c.put.result _ _ _ _ _ _ _ _ _ c.in_ok-write_indent.ensures c.in_ok-write_in_one_line.ensures c.in_ok-write_more.ensures c.put.ensures
