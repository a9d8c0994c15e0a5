use Rattle.std.proofs.Common.{append_assoc, arith, refl}
use Rattle.link_show.specs.Gained.{then_all}
use Rattle.link_show.proofs.lists.write_error.Goals as goal

pub returns : goal.returns
returns g c =
    then_all _ _ _ _ _ _ _ c.in_ok-write_indent.ensures
    (then_all _ _ _ _ _ _ _ c.in_ok-put_pieces.ensures (then_all _ _ _ _ _ _ _ c.in_ok-write_fault.ensures c.put.ensures refl) (grind (arith, append_assoc))) refl
