-- What a function stored of values.
use Rattle.std.proofs.Common.{◌≡◌, ℕ, ◌^◌, ◌<◌, ◌≤◌, List, length, take, Ok, sym, ap, subst, arith}
use Rattle.std.proofs.lemmas.List.{length-take-le}
use Rattle.link_entries.specs.Encoded.{Encoding}
use Rattle.link_entries.specs.Stored.{StoresAt, Encodes}

-- a copy of what is at the start of a buffer
pub encodes_front : (s : Encoding) (front old new : List ℕ) (n : ℕ) → s ≡ Ok (take n front) → n ≤ length front → n < 2 ^ 64 → StoresAt 0 (take n front) old new → Encodes s old new (Ok n)
encodes_front s front old new n is within low put = subst (λ t. Encodes t old new (Ok n)) (sym is) (ap Ok (omega (arith, length-take-le n front within, low)), put)
