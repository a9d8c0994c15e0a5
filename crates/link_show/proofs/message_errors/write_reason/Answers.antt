use Rattle.std.proofs.Common.{append_assoc}
use Rattle.link_show.specs.Gained.{then_all}
use Rattle.link_show.proofs.message_errors.write_reason.Goals as goal

pub returns-in-OtherType : goal.returns-in-OtherType
returns-in-OtherType g c = rw c.in-OtherType.is c.put_pieces-in-OtherType.ensures

pub returns-in_ok-put_pieces-in-Overrun : goal.returns-in_ok-put_pieces-in-Overrun
returns-in_ok-put_pieces-in-Overrun g c =
    rw c.in-Overrun.is (then_all _ _ _ _ _ _ _ c.in_ok-put_pieces-in-Overrun.ensures c.write_bytes-in-Overrun.ensures (simp append_assoc))
