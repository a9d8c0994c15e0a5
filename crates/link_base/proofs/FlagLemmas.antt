-- Sets of bits in which every bit is known.
use Rattle.std.specs.Bool.{◌==◌}
use Rattle.std.specs.Prelude.{not, false, ◌≢◌, ◌↔◌, min, max}
use Rattle.std.proofs.Common.{◌≡◌, ℕ, zero, suc, ◌-◌, ◌/◌, ◌^◌, ◌<◌, ◌≤◌, ap, sym, ◌∙◌, arith}
use Rattle.std.proofs.Math.Nat.{mod-eq_of_lt, pow-suc}
use Rattle.std.proofs.Math.Logic.{◌⊎◌, inl, inr}
use Rattle.std.specs.Int.{bit_at}
use Rattle.std.specs.Int.RustNames.{bit_and, bit_or, bit_xor}
use Rattle.std.specs.Int.Bits.{or_add_and}
use Rattle.bitflags.specs.Sets.{without}
use Rattle.std.proofs.lemmas.Nat.{pow_pos, and_mask, and_comm}
use Rattle.std.proofs.lemmas.Nat.Bits.{bit_at_and, bit_at_or, bit_at_xor, bit_at-lt, bit_at_lowest, bit_at-suc, bit_at-zero, bit_at_above, same_from_bits}
use Rattle.std.proofs.lemmas.Bool.{eq-eqb, not_from_true, cases_lt}
use Rattle.std.proofs.lemmas.Cmp.{nat_eq_equiv}

pub all_kept : (size known n : ℕ) → known ≡ 2 ^ size - 1 → n < 2 ^ size → bit_and n known ≡ n
all_kept size known n every h = ap (λ k. bit_and n k) every ∙ and_mask n size ∙ mod-eq_of_lt h

-- the known bits in union with others are the known bits
pub all_with : (size known n : ℕ) → known ≡ 2 ^ size - 1 → n < 2 ^ size → bit_or known n ≡ known
all_with size known n every h =
    let kept = and_comm known n ∙ all_kept size known n every h in
    let sum = or_add_and known n in
    omega (arith, kept, sum)

pub all_asked : (size known n : ℕ) → known ≡ 2 ^ size - 1 → n < 2 ^ size → (bit_or known n == n) ≡ (n == 2 ^ size - 1)
all_asked size known n every h =
    ap (λ k. k == n) (all_with size known n every h ∙ every) ∙ nat_eq_equiv.symm (2 ^ size - 1) n

pub others_kept : (size known n : ℕ) → known ≡ 2 ^ size - 1 → n < 2 ^ size → bit_and (2 ^ size - 1 - n) known ≡ 2 ^ size - 1 - n
others_kept size known n every h = all_kept size known (2 ^ size - 1 - n) every (omega (arith, pow_pos size))

pub none_unknown : (size known n : ℕ) → known ≡ 2 ^ size - 1 → n < 2 ^ size → not (bit_and known n == n) ≡ false
none_unknown size known n every h =
    not_from_true _ (eq-eqb (bit_and known n) n (and_comm known n ∙ all_kept size known n every h))

-- ---- bit by bit

pub both : (a b i : ℕ) → (bit_at (bit_and a b) i ≡ 1) ↔ ((bit_at a i ≡ 1) × (bit_at b i ≡ 1))
both a b i =
    let e = bit_at_and a b i in
    let x = bit_at-lt a i in
    let y = bit_at-lt b i in
    (λ h. (omega (arith, e, x, y, h), omega (arith, e, x, y, h)), λ h. omega (arith, e, h.0, h.1))

either_of : (x y : ℕ) → x < 2 → y < 2 → max x y ≡ 1 → (x ≡ 1) ⊎ (y ≡ 1)
either_of zero y p q h = inr (omega arith)
either_of (suc x) y p q h = inl (omega arith)

either_back : (x y : ℕ) → x < 2 → y < 2 → (x ≡ 1) ⊎ (y ≡ 1) → max x y ≡ 1
either_back x y p q (inl h) = omega arith
either_back x y p q (inr h) = omega arith

pub either : (a b i : ℕ) → (bit_at (bit_or a b) i ≡ 1) ↔ ((bit_at a i ≡ 1) ⊎ (bit_at b i ≡ 1))
either a b i =
    let e = bit_at_or a b i in
    let x = bit_at-lt a i in
    let y = bit_at-lt b i in
    (λ h. either_of _ _ x y (sym e ∙ h), λ h. e ∙ either_back _ _ x y h)

pub one : (a b i : ℕ) → (bit_at (bit_xor a b) i ≡ 1) ↔ (bit_at a i ≢ bit_at b i)
one a b i =
    let e = bit_at_xor a b i in
    let x = bit_at-lt a i in
    let y = bit_at-lt b i in
    (λ h same. omega (arith, e, x, y, h, same), λ h. omega (arith, e, x, y, h))

complement_at : (size a i : ℕ) → a < 2 ^ size → i < size → bit_at (2 ^ size - 1 - a) i ≡ 1 - bit_at a i
complement_at zero a i fits within = absurd (omega arith)
complement_at (suc k) a zero fits within = omega (arith, bit_at_lowest (2 ^ suc k - 1 - a), bit_at_lowest a, pow-suc 2 k)
complement_at (suc k) a (suc i) fits within =
    let half : (2 ^ suc k - 1 - a) / 2 ≡ 2 ^ k - 1 - a / 2 = omega (arith, pow-suc 2 k) in
    bit_at-suc _ i ∙ ap (λ x. bit_at x i) half ∙ complement_at k (a / 2) i (omega (arith, pow-suc 2 k)) (omega arith) ∙ ap (λ d. 1 - d) (sym (bit_at-suc a i))

pub others : (size a i : ℕ) → a < 2 ^ size → i < size → (bit_at (2 ^ size - 1 - a) i ≡ 1) ↔ (bit_at a i ≡ 0)
others size a i fits within =
    let e = complement_at size a i fits within in
    let x = bit_at-lt a i in
    (λ h. omega (arith, e, x, h), λ h. omega (arith, e, x, h))

first_within : (size a b i : ℕ) → b < 2 ^ size → i < size → (bit_at (without size a b) i ≡ 1) ↔ ((bit_at a i ≡ 1) × (bit_at b i ≡ 0))
first_within size a b i fits within =
    let e = bit_at_and a (2 ^ size - 1 - b) i in
    let c = complement_at size b i fits within in
    let x = bit_at-lt a i in
    let y = bit_at-lt b i in
    (λ h. (omega (arith, e, c, x, y, h), omega (arith, e, c, x, y, h)), λ h. omega (arith, e, c, x, y, h.0, h.1))

first_above : (size a b i : ℕ) → a < 2 ^ size → size ≤ i → (bit_at (without size a b) i ≡ 1) ↔ ((bit_at a i ≡ 1) × (bit_at b i ≡ 0))
first_above size a b i fits above =
    let e = bit_at_and a (2 ^ size - 1 - b) i in
    let x = bit_at_above a size i fits above in
    (λ h. absurd (omega (arith, e, x, h)), λ h. absurd (omega (arith, x, h.0)))

pub first_alone : (size a b i : ℕ) → a < 2 ^ size → b < 2 ^ size → (bit_at (without size a b) i ≡ 1) ↔ ((bit_at a i ≡ 1) × (bit_at b i ≡ 0))
first_alone size a b i p q = elim (cases_lt i size) [ inl h ↦ first_within size a b i q h | inr h ↦ first_above size a b i p h ]

smaller : (x y : ℕ) → x < 2 → y < 2 → (y ≡ 1 → x ≡ 1) → min x y ≡ y
smaller x zero p q h = omega arith
smaller x (suc y) p q h = let e = h (omega arith) in omega (arith, e, q)

no_smaller : (x y : ℕ) → x < 2 → (x ≡ 1 → y ≡ 0) → min x y ≡ 0
no_smaller zero y p h = omega arith
no_smaller (suc x) y p h = let e = h (omega arith) in omega (arith, e)

pub every_one : (a b : ℕ) → (bit_and a b ≡ b) ↔ ((i : ℕ) → bit_at b i ≡ 1 → bit_at a i ≡ 1)
every_one a b = (
  λ h i set. ((both a b i).0 (ap (λ n. bit_at n i) h ∙ set)).0,
  λ h. same_from_bits (bit_and a b) b (λ i. bit_at_and a b i ∙ smaller (bit_at a i) (bit_at b i) (bit_at-lt a i) (bit_at-lt b i) (h i)),
)

pub none_shared : (a b : ℕ) → (bit_and a b ≡ 0) ↔ ((i : ℕ) → bit_at a i ≡ 1 → bit_at b i ≡ 0)
none_shared a b = (
  λ h i set. let e = sym (bit_at_and a b i) ∙ ap (λ n. bit_at n i) h ∙ bit_at-zero i in omega (arith, e, set),
  λ h. same_from_bits (bit_and a b) 0 (λ i. bit_at_and a b i ∙ no_smaller (bit_at a i) (bit_at b i) (bit_at-lt a i) (h i) ∙ sym (bit_at-zero i)),
)
