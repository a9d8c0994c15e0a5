-- Names: the bytes before the first NUL.
use Rattle.std.proofs.Common.{◌≡◌, ℕ, zero, suc, ◌<◌, ◌≤◌, true, List, [], ◌∷◌, length, take, refl, sym, ap, ◌∙◌, arith, ⊎_elim}
use Rattle.std.specs.Prelude.{◌==◌, Option, Some, None, slice_index}
use Rattle.std.specs.Option.{unwrap_or}
use Rattle.std.proofs.lemmas.Bool.{cases_Bool, cond-true, cond-false}
use Rattle.bstr.specs.Find.{IsFirstByte, is_byte}
use Rattle.link_base.specs.Name.{before_nul}

-- what stands before a place, where no byte before the place is 0 and the byte at it is
before_at : (xs : List ℕ) (n : ℕ) → n ≤ length xs → ((k : ℕ) → k < n → ¬ ((slice_index xs k == 0) ≡ true))
    → (n < length xs → (slice_index xs n == 0) ≡ true) → take n xs ≡ before_nul xs
before_at [] zero le before at = refl
before_at [] (suc n) le before at = refl
before_at (x ∷ xs) zero le before at = sym (cond-true (x == 0) [] (x ∷ before_nul xs) (at (omega arith)))
before_at (x ∷ xs) (suc n) le before at =
    ⊎_elim
    (λ holds. absurd (before 0 (omega arith) holds))
    (λ fails. ap (λ t. x ∷ t) (before_at xs n (omega arith) (λ k lt. before (suc k) (omega arith)) (λ lt. at (omega arith))) ∙ sym (cond-false (x == 0) [] (x ∷ before_nul xs) fails))
    (cases_Bool (x == 0))

-- what stands before the first byte that is 0, or all where none is
pub first_nul : (xs : List ℕ) (o : Option ℕ) → IsFirstByte (is_byte 0) xs o → take (unwrap_or o (length xs)) xs ≡ before_nul xs
first_nul xs None none = before_at xs (length xs) (omega arith) (λ k lt holds. none k (omega arith) lt holds) (λ lt. absurd (omega arith))
first_nul xs (Some n) some =
    let high = some.0.high in
    before_at xs n (omega arith) (λ k lt holds. some.0.before k (omega arith) lt holds) (λ lt. some.1)
