use Rattle.std.proofs.Common.{◌↔◌, ◌+◌, ◌≤◌, length}
use Rattle.link_base.specs.Table.{AreAddresses}
use Rattle.link_base.proofs.CanonicalLists.{AreElements}
use Rattle.link_base.proofs.lists.canonical.are_addresses.Given as goal

abbrev pub invariant-loop-element : goal.invariant-loop-element
invariant-loop-element l = record {
  same : AreAddresses l.size l.payload ↔ AreElements l.kind l.size l.rest;
  few : l.kind + length l.rest ≤ length l.payload;
}

abbrev pub decreases-loop-element : goal.decreases-loop-element
decreases-loop-element l = length l.rest
