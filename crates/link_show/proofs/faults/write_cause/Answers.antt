use Rattle.std.proofs.Common.{refl}
use Rattle.link_show.specs.Gained.{then_all}
use Rattle.link_show.proofs.faults.write_cause.Goals as goal

pub returns-in_ok-put_pieces-in-Overrun : goal.returns-in_ok-put_pieces-in-Overrun
returns-in_ok-put_pieces-in-Overrun g c = rw c.in-Overrun.is (then_all _ _ _ _ _ _ _ c.in_ok-put_pieces-in-Overrun.ensures c.write_bytes-in-Overrun.ensures refl)
