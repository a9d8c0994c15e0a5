-- Numbers and their bytes.
use Rattle.std.proofs.Common.{◌≡◌, ℕ, zero, suc, ◌+◌, ◌*◌, ◌/◌, ◌%◌, ◌<◌, List, [], ◌∷◌, length, get_or, refl, ap, ap₂, ◌∙◌, arith}
use Rattle.link_base.specs.Number.{IsBytes, number, bytes_of, bound}

-- the number of n bytes is less than 256 to the power of n
pub number_below : (bytes : List ℕ) → IsBytes bytes → number bytes < bound (length bytes)
number_below [] h = omega arith
number_below (b ∷ bytes) h = let rest = number_below bytes h.1 in omega (arith, h.0)

-- bytes are the bytes of their number
pub bytes_of-number : (bytes : List ℕ) → IsBytes bytes → bytes_of (length bytes) (number bytes) ≡ bytes
bytes_of-number [] h = refl
bytes_of-number (b ∷ bytes) h =
    let n = number bytes in
    let low : (b + 256 * n) % 256 ≡ b = omega (arith, h.0) in
    let high : (b + 256 * n) / 256 ≡ n = omega (arith, h.0) in
    ap₂ (λ x y. x ∷ bytes_of (length bytes) y) low high ∙ ap (λ t. b ∷ t) (bytes_of-number bytes h.1)

-- a number that fits in n bytes is the number of its n bytes
pub number-bytes_of : (n x : ℕ) → x < bound n → number (bytes_of n x) ≡ x
number-bytes_of zero x h = omega arith
number-bytes_of (suc n) x h = let rest = number-bytes_of n (x / 256) (omega arith) in omega arith

-- the list of the first n bytes of a number has length n
pub length-bytes_of : (n x : ℕ) → length (bytes_of n x) ≡ n
length-bytes_of zero x = refl
length-bytes_of (suc n) x = ap suc (length-bytes_of n (x / 256))

-- the same, for `using`, which takes no name with a hyphen
pub bytes_len : (n x : ℕ) → length (bytes_of n x) ≡ n
bytes_len n x = length-bytes_of n x

-- the bytes of a number are less than 256
pub IsBytes-bytes_of : (n x : ℕ) → IsBytes (bytes_of n x)
IsBytes-bytes_of zero x = tt
IsBytes-bytes_of (suc n) x = (omega arith, IsBytes-bytes_of n (x / 256))

-- the bytes of a slice, if each is known by its index
pub IsBytes-index : (bytes : List ℕ) → ((i : ℕ) → get_or bytes i 0 < 256) → IsBytes bytes
IsBytes-index [] h = tt
IsBytes-index (b ∷ bytes) h = (h 0, IsBytes-index bytes (λ i. h (suc i)))
