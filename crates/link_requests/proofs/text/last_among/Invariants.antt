use Rattle.std.proofs.Common.{◌≡◌, length, None}
use Rattle.std.specs.Option.{option_copied}
use Rattle.link_requests.specs.Values.{last_among}
use Rattle.link_requests.proofs.text.last_among.Given as goal

abbrev pub invariant-loop-entry : goal.invariant-loop-entry
invariant-loop-entry l = last_among l.depth l.inner None l.entries ≡ last_among l.depth l.inner (option_copied l.found) l.rest

abbrev pub decreases-loop-entry : goal.decreases-loop-entry
decreases-loop-entry l = length l.rest
