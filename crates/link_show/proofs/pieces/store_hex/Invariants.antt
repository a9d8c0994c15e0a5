use Rattle.std.proofs.Common.{◌≡◌, false, drop, length}
use Rattle.std.specs.Fmt.{digits}
use Rattle.link_show.proofs.Digits.{digits_before}
use Rattle.link_show.proofs.pieces.store_hex.Given as goal

abbrev pub invariant-loop-at : goal.invariant-loop-at
invariant-loop-at l = (length l.digits ≡ 64) × (digits 16 false l.number ≡ digits_before l.at l.left (drop l.at l.digits))
