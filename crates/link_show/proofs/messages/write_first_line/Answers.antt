use Rattle.std.proofs.Common.{append_assoc, arith, refl}
use Rattle.link_show.specs.Message.{message_line}
use Rattle.link_show.specs.Gained.{then_all}
use Rattle.link_show.proofs.messages.write_first_line.Goals as goal

pub returns : goal.returns
unfolding message_line
returns g c = then_all _ _ _ _ _ _ _ c.in_ok-write_type.ensures (then_all _ _ _ _ _ _ _ c.in_ok-put_pieces.ensures (then_all _ _ _ _ _ _ _ c.in_ok-write_flags.ensures c.put_pieces-2.ensures refl) refl) (grind (arith, append_assoc, c.into.ensures, c.into-2.ensures, c.flag_names.ensures))
