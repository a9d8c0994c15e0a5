use Rattle.std.proofs.Common.{◌≡◌}
use Rattle.link_entries.specs.Entry.{placed}
use Rattle.link_entries.proofs.ElementEntries.{front}
use Rattle.link_entries.proofs.arrays.put_each_number.Given as goal

abbrev pub invariant-loop-i : goal.invariant-loop-i
invariant-loop-i l = l.places ≡ placed l.fn.places l.first (front l.kind l.at l.of l.bytes l.i)
