use Rattle.std.proofs.Common.{◌≡◌, ◌++◌, length}
use Rattle.netlink_packet_route.specs.HexText.{digits_of}
use Rattle.show_lines.specs.Digits.{unmarked, without_marks}
use Rattle.show_lines.proofs.digits.digits.Given as goal

abbrev pub invariant-loop-byte : goal.invariant-loop-byte
invariant-loop-byte l = l.digits.items ++ digits_of (unmarked l.before l.rest) ≡ digits_of (without_marks l.text)

abbrev pub decreases-loop-byte : goal.decreases-loop-byte
decreases-loop-byte l = length l.rest
