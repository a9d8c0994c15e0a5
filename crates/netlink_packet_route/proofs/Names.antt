-- Strings with and without a NUL at their end.
use Rattle.std.proofs.Common.{◌≡◌, ◌≢◌, ℕ, List, [], ◌∷◌, ◌++◌, Option, Some, None, refl, sym, ap, ◌∙◌, inl, inr, eqb}
use Rattle.std.specs.Borrow.{Bor}
use Rattle.std.specs.Option.{MatchOption, unwrap_or}
use Rattle.std.proofs.lemmas.Bool.{cases_eq, ne_eqb, cond-false}
use Rattle.netlink_packet_route.specs.Opening.{without_nul}

without_nul-nul : (xs : List ℕ) → without_nul (xs ++ 0 ∷ []) ≡ xs
without_nul-nul [] = refl
without_nul-nul (b ∷ []) = refl
without_nul-nul (b ∷ c ∷ xs) = ap (λ t. b ∷ t) (without_nul-nul (c ∷ xs))

without_nul-none : (xs : List ℕ) → ((front : List ℕ) → xs ≢ front ++ 0 ∷ []) → without_nul xs ≡ xs
without_nul-none [] h = refl
without_nul-none (b ∷ []) h = elim (cases_eq b 0) [ inl e ↦ absurd (h [] (ap (λ x. x ∷ []) e)) | inr ne ↦ cond-false (eqb b 0) _ _ (ne_eqb b 0 ne) ]
without_nul-none (b ∷ c ∷ xs) h = ap (λ t. b ∷ t) (without_nul-none (c ∷ xs) (λ front e. h (b ∷ front) (ap (λ t. b ∷ t) e)))

-- what is left of a string once a NUL is stripped from its end, or the string
pub stripped : (s : Bor (List ℕ)) (r : Option (Bor (List ℕ))) → MatchOption r ((front : List ℕ) → s.now ≢ front ++ 0 ∷ []) (λ x. s.now ≡ x.now ++ 0 ∷ []) → (unwrap_or r s).now ≡ without_nul s.now
stripped s None h = sym (without_nul-none s.now h)
stripped s (Some x) h = sym (ap without_nul h ∙ without_nul-nul x.now)
