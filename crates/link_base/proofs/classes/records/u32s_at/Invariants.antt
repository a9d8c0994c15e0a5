use Rattle.std.proofs.Common.{◌≡◌, length, take}
use Rattle.link_base.proofs.Layouts.{AreRead}
use Rattle.link_base.proofs.classes.records.u32s_at.Given as goal

abbrev pub invariant-loop-i : goal.invariant-loop-i
invariant-loop-i g l = record {
  size : length l.numbers ≡ g.row.N;
  read : AreRead 4 l.i l.offset l.bytes (take l.i l.numbers);
}
