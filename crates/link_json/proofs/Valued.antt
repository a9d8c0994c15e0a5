-- Payloads of one byte.
use Rattle.std.proofs.Common.{◌≡◌, ℕ, List, [], ◌∷◌, length, slice_index, refl, arith}

pub one_byte : (p : List ℕ) → length p ≡ 1 → slice_index p 0 ∷ [] ≡ p
one_byte [] h = absurd (omega (arith, h))
one_byte (b ∷ []) h = refl
one_byte (b ∷ c ∷ p) h = absurd (omega (arith, h))
