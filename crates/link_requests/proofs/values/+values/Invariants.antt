use Rattle.std.proofs.Common.{◌≡◌, ◌+◌, ◌*◌, List, ℕ, length}
use Rattle.link_base.specs.Answers.{capped}
use Rattle.link_entries.specs.Stored.{StoresAt}
use Rattle.link_requests.specs.Opening.{kinds_of}
use Rattle.link_requests.specs.Values.{values_of}
use Rattle.link_entries.proofs.Encodings.{Reached}
use Rattle.link_requests.proofs.values.+values.Given as goal

abbrev pub decreases-put_values : goal.decreases-put_values
decreases-put_values l = 5 * length l.entries.now

abbrev pub decreases-put_value : goal.decreases-put_value
decreases-put_value l = 5 * length l.others.now + 4

abbrev pub decreases-put_attribute : goal.decreases-put_attribute
decreases-put_attribute l = 5 * length l.others.now + 3

abbrev pub decreases-put_below : goal.decreases-put_below
decreases-put_below l = 5 * length l.others.now + 2

abbrev pub decreases-put_inside : goal.decreases-put_inside
decreases-put_inside l = 5 * length l.entries.now + 1

abbrev pub invariant-put_values-loop-entry : goal.invariant-put_values-loop-entry
invariant-put_values-loop-entry l =
    let all = values_of l.octets l.level.scope l.level.depth (kinds_of l.level.context) in
    (text : List ℕ) × (i : ℕ) × (i + length l.rest ≡ length l.entries) × (l.len ≡ capped (length text)) × StoresAt 0 text l.fn.room l.room × Reached (all 0 l.entries) text i (all i l.rest)

abbrev pub decreases-put_values-loop-entry : goal.decreases-put_values-loop-entry
decreases-put_values-loop-entry l = length l.rest
