use Rattle.std.proofs.Common.{append_assoc, arith, refl}
use Rattle.link_show.specs.Gained.{then_all}
use Rattle.link_show.proofs.held.write_title.Goals as goal

pub returns : goal.returns
returns g c =
    then_all _ _ _ _ _ _ _ c.in_ok-write_indent.ensures
    (then_all _ _ _ _ _ _ _ c.in_ok-put.ensures (then_all _ _ _ _ _ _ _ c.in_ok-write_set_name.ensures (then_all _ _ _ _ _ _ _ c.in_ok-write_peer.ensures c.put-2.ensures refl) refl)
    (grind (arith, append_assoc, c.as_bytes.ensures.value, c.nest_name.ensures, c.as_bytes-2.ensures.value, c.title_end.ensures))) refl
