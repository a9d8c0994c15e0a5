-- The digits of a number, from the last on.
use Rattle.std.proofs.Common.{◌≡◌, ◌≢◌, ◌-◌, ℕ, zero, suc, ◌<◌, ◌/◌, ◌%◌, false, List, [], ◌∷◌, length, drop, refl, sym, ap, ◌∙◌, arith}
use Rattle.std.proofs.lemmas.List.{drop_all}
use Rattle.std.specs.Fmt.{digits, digits_onto, digit_glyph}
use Rattle.std.proofs.lemmas.Bool.{cond-true, cond-false, eq-eqb, ne_eqb}
use Rattle.std.proofs.lemmas.Grind.{common_steps}

-- at most k digits of n, before those that are there
unfoldable pub digits_before : ℕ → ℕ → List ℕ → List ℕ
digits_before k n done = digits_onto k 16 false n done

-- all digits are left
pub digits_start : (n : ℕ) (done : List ℕ) → length done ≡ 64 → digits 16 false n ≡ digits_before 64 n (drop 64 done)
unfolding digits digits_before
digits_start n done e = ap (digits_before 64 n) (sym (drop_all 64 done (omega (arith, e))))

-- one digit is left
pub digits_last : (at n : ℕ) (done : List ℕ) → 0 < at → n / 16 ≡ 0 → digits_before at n done ≡ digit_glyph false (n % 16) ∷ done
unfolding digits_before
digits_last zero n done h e = absurd (omega (arith, h))
digits_last (suc k) n done h e = cond-true _ _ _ (eq-eqb _ _ e)

-- more than one digit is left
pub digits_more : (at n : ℕ) (done : List ℕ) → 0 < at → n / 16 ≢ 0 → digits_before at n done ≡ digits_before (at - 1) (n / 16) (digit_glyph false (n % 16) ∷ done)
unfolding digits_before
digits_more zero n done h e = absurd (omega (arith, h))
digits_more (suc k) n done h e = let less : k ≡ suc k - 1 = omega arith in cond-false _ _ _ (ne_eqb _ _ e) ∙ ap (λ m. digits_onto m 16 false (n / 16) (digit_glyph false (n % 16) ∷ done)) less

-- no digit is left
pub digits_all : (n : ℕ) (done : List ℕ) → digits_before 0 n done ≡ done
unfolding digits_before
digits_all n done = refl

pub ruleset digit_steps = (common_steps, digits_start, digits_last, digits_more, digits_all)

-- a number below 16 has one digit
pub one_digit : (d : ℕ) → d < 16 → digits 16 false d ≡ digit_glyph false d ∷ []
unfolding digits
one_digit d h = cond-true _ _ _ (eq-eqb (d / 16) 0 (omega (arith, h))) ∙ ap (λ x. digit_glyph false x ∷ []) (omega (arith, h))
