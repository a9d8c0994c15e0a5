use Rattle.std.proofs.Common.{◌≡◌, ◌≤◌, ◌-◌, length}
use Rattle.show_lines.specs.Digits.{bad_at, bad_from, unmarked, without_marks}
use Rattle.show_lines.proofs.digits.bad_at.Given as goal

abbrev pub invariant-loop-byte : goal.invariant-loop-byte
invariant-loop-byte l =
    (length l.rest ≤ length l.text) × (l.last ≤ length l.text) × (bad_from (length l.text - length l.rest) l.last (unmarked l.before l.rest) ≡ bad_at (without_marks l.text))

abbrev pub decreases-loop-byte : goal.decreases-loop-byte
decreases-loop-byte l = length l.rest
