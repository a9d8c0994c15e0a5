-- Instants that are not before 1970.
use Rattle.std.proofs.Common.{◌≡◌, ℤ, pos, negsuc, refl, arith}
use Rattle.std.specs.Int.RustNames.{unsigned_abs}
use Rattle.std.proofs.lemmas.Int.{ints}
use Rattle.show_captures.specs.Time.{HasText}

pub nanoseconds_of : (z : ℤ) → HasText z → z ≡ pos (unsigned_abs z)
nanoseconds_of (pos n) h = refl
nanoseconds_of (negsuc n) h = absurd (omega (arith, ints, h.0))
