-- Octets, followed by zeros.
use Rattle.std.proofs.Common.{◌≡◌, ℕ, ◌+◌, ◌-◌, ◌<◌, ◌≤◌, min, List, [], ◌++◌, length, take, drop, replicate, ◌⊎◌, inl, inr, sym, ap, ap₂, ◌∙◌, arith}
use Rattle.std.proofs.lemmas.Bool.{cases_lt}
use Rattle.std.proofs.lemmas.List.{append-nil, take_all, take-append-le, take-replicate, drop-replicate}
use Rattle.std.proofs.Math.Seq.{take-append-add}
use Rattle.link_entries.specs.Entry.{padded}

by_length : (s : List ℕ) (n : ℕ) → n ≡ min (length s) 16 → (length s < 16) ⊎ (16 ≤ length s) → take n s ++ drop n (replicate 16 0) ≡ padded s
by_length s n e (inl short) =
    let z : List ℕ = replicate 16 0 in
    let m = 16 - length s in
    let whole : n ≡ length s = omega arith in
    let front : take n s ≡ s = take_all n s (omega arith) in
    let left : 16 - n ≡ m = omega arith in
    let back : drop n z ≡ take m z = drop-replicate n 16 0 ∙ ap (λ i. replicate i 0) left ∙ sym (take-replicate m 16 0 (omega arith)) in
    let all : length s + m ≡ 16 = omega arith in
    ap₂ (λ a b. a ++ b) front back ∙ sym (take-append-add s z m) ∙ ap (λ i. take i (s ++ z)) all
by_length s n e (inr long) =
    let z : List ℕ = replicate 16 0 in
    let whole : n ≡ 16 = omega arith in
    let none : 16 - n ≡ 0 = omega arith in
    let back : drop n z ≡ [] = drop-replicate n 16 0 ∙ ap (λ i. replicate i 0) none in
    ap₂ (λ a b. a ++ b) (ap (λ i. take i s) whole) back ∙ append-nil (take 16 s) ∙ sym (take-append-le 16 s z long)

-- the first octets, as far as there are sixteen, and then what is left of sixteen zeros
pub padded_front : (s front : List ℕ) (n : ℕ) → n ≡ min (length s) 16 → front ≡ take n s → front ++ drop n (replicate 16 0) ≡ padded s
padded_front s front n e is = ap (λ f. f ++ drop n (replicate 16 0)) is ∙ by_length s n e (cases_lt (length s) 16)
