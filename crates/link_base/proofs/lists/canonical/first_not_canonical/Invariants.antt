use Rattle.std.proofs.Common.{◌≤◌, length}
use Rattle.link_base.specs.Table.{Allows}
use Rattle.link_base.proofs.CanonicalLists.{Passed}
use Rattle.link_base.proofs.lists.canonical.first_not_canonical.Given as goal

abbrev pub invariant-loop-buffer : goal.invariant-loop-buffer
invariant-loop-buffer g l = record {
  passed : Passed (Allows g.F.Meaning.table) l.bytes l.rest;
  few : length l.rest ≤ length l.bytes;
}

abbrev pub decreases-loop-buffer : goal.decreases-loop-buffer
decreases-loop-buffer g l = length l.rest
