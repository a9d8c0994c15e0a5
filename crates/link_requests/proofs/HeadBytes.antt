-- The bytes of numbers, one by one.
use Rattle.std.proofs.Common.{◌≡◌, ℕ, ◌/◌, ◌%◌, List, [], ◌∷◌, slice_index_or, ap, ap₂, ◌∙◌, arith}
use Rattle.link_base.specs.Number.{bytes_of}

pub two_bytes : (n : ℕ) (b : List ℕ) → b ≡ n % 256 ∷ n / 256 % 256 ∷ [] → slice_index_or b 0 0 ∷ slice_index_or b 1 0 ∷ [] ≡ bytes_of 2 n
two_bytes n b h = ap (λ s. slice_index_or s 0 0 ∷ slice_index_or s 1 0 ∷ []) h

pub four_bytes : (n : ℕ) (b : List ℕ) → b ≡ n % 256 ∷ n / 256 % 256 ∷ n / 65536 % 256 ∷ n / 16777216 % 256 ∷ [] → slice_index_or b 0 0 ∷ slice_index_or b 1 0 ∷ slice_index_or b 2 0 ∷ slice_index_or b 3 0 ∷ [] ≡ bytes_of 4 n
four_bytes n b h =
    let third : n / 65536 % 256 ≡ n / 256 / 256 % 256 = omega arith in
    let fourth : n / 16777216 % 256 ≡ n / 256 / 256 / 256 % 256 = omega arith in
    ap (λ s. slice_index_or s 0 0 ∷ slice_index_or s 1 0 ∷ slice_index_or s 2 0 ∷ slice_index_or s 3 0 ∷ []) h ∙ ap₂ (λ x y. n % 256 ∷ n / 256 % 256 ∷ x ∷ y ∷ []) third fourth

pub four_parts : (b : List ℕ) (n : ℕ) → b ≡ bytes_of 4 n → slice_index_or b 0 0 ∷ slice_index_or b 1 0 ∷ slice_index_or b 2 0 ∷ slice_index_or b 3 0 ∷ [] ≡ bytes_of 4 n
four_parts b n h = ap (λ s. slice_index_or s 0 0 ∷ slice_index_or s 1 0 ∷ slice_index_or s 2 0 ∷ slice_index_or s 3 0 ∷ []) h
