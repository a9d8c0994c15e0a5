use Rattle.std.proofs.Common.{◌≡◌, ◌+◌, ◌++◌, ℕ, List, [], length}
use Rattle.link_entries.specs.declared.entry.Entry.{Entry}
use Rattle.link_requests.specs.Lists.{unrepeated}
use Rattle.link_requests.proofs.lists.unrepeated.Given as goal

abbrev pub invariant-loop-entry : goal.invariant-loop-entry
invariant-loop-entry l = (seen : List Entry) × (l.values ≡ seen ++ l.rest) × (unrepeated [] l.values ≡ length seen + unrepeated seen l.rest)

abbrev pub decreases-loop-entry : goal.decreases-loop-entry
decreases-loop-entry l = length l.rest
