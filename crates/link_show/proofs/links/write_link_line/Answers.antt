use Rattle.std.proofs.Common.{append_assoc, arith, refl}
use Rattle.link_show.specs.Gained.{then_all}
use Rattle.link_show.specs.Message.{link_line}
use Rattle.link_show.proofs.links.write_link_line.Goals as goal

pub returns : goal.returns
unfolding link_line
returns g c =
    then_all _ _ _ _ _ _ _ c.in_ok-write_index.ensures
    (then_all _ _ _ _ _ _ _ c.in_ok-write_name.ensures (then_all _ _ _ _ _ _ _ c.in_ok-write_header_fields.ensures c.put.ensures refl) refl)
    (grind (arith, append_assoc))
