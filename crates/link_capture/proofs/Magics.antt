-- Magic numbers tell what a file is.
use Rattle.std.proofs.Common.{◌≡◌, ◌≢◌, ◌<◌, ◌&&◌, ◌||◌, not, ℕ, zero, suc, Bool, true, false, true≢false, cond, List, [], ◌∷◌, ◌++◌, length, take, drop, Option, Some, None, Result, Ok, nat_eq, nat_lt, refl, sym, ap, ap₂, subst, ◌∙◌, inl, inr, arith}
use Rattle.std.specs.Option.{option_map, option_transpose, is_none}
use Rattle.std.specs.List.{find, list_all, list_any, starts_with}
use Rattle.std.proofs.Math.Seq.{take-append_seam}
use Rattle.std.proofs.lemmas.Bool.{eqb-true, eq-eqb, lt-ltb, ltb-true, and_parts, cases_lt, not-true}
use Rattle.std.proofs.lemmas.Bool.Decides.{Decides-eqb}
use Rattle.std.proofs.lemmas.Slice.Eq.{starts_is}
use Rattle.link_capture.specs.declared.form.Form.{Form}
use Rattle.link_capture.specs.declared.other_format.OtherFormat.{OtherFormat}
use Rattle.link_capture.specs.Form.{magics, form_by_magic, begins_magic}
use Rattle.link_capture.specs.Messages.{is_stream}

-- two tests whose first part is the same, and whose others are, if it holds
same_and : (a p q : Bool) → (a ≡ true → p ≡ q) → (a && p) ≡ (a && q)
same_and true p q h = h refl
same_and false p q h = refl

-- if s is no proper prefix of m, what follows s does not say whether it starts with m
same_start : (m s more : List ℕ) → (length s < length m → starts_with nat_eq m s ≡ false) → starts_with nat_eq (s ++ more) m ≡ starts_with nat_eq s m
same_start [] s more h = refl
same_start (b ∷ m) [] more h = absurd (true≢false (h (omega arith)))
same_start (b ∷ m) (c ∷ s) more h =
    same_and (nat_eq b c) (starts_with nat_eq (s ++ more) m) (starts_with nat_eq s m)
    (λ e. same_start m s more (λ lt. subst (λ x. (x && starts_with nat_eq m s) ≡ false) (eq-eqb c b (sym (eqb-true b c e))) (h (omega (arith, lt)))))

or_parts : (a b : Bool) → (a || b) ≡ false → (a ≡ false) × (b ≡ false)
or_parts true b h = absurd (true≢false h)
or_parts false b h = (refl, h)

-- a magic number and what it tells
abbrev Magic : Type 0
Magic = List ℕ × Result Form OtherFormat

-- the magic number with which s starts
abbrev found : List ℕ → List Magic → Option Magic
found s ms = find (λ m. starts_with nat_eq s m.0) ms

-- ---- tests of the magic numbers

-- a file is known
abbrev tells_form : Result (Option Form) OtherFormat → Bool
tells_form (Ok None) = false
tells_form meaning = true

-- none of the first parts of m, each with fewer than n bytes, starts with a magic number, or a stream of messages
abbrev are_open : ℕ → List ℕ → Bool
are_open zero m = true
are_open (suc n) m = (is_none (found (take n m) magics) && not (is_stream (take n m))) && are_open n m

-- a magic number tells what a file is, and no proper prefix of it does
abbrev is_closed : Magic → Bool
is_closed m = tells_form (form_by_magic magics m.0) && are_open (length m.0) m.0

all_closed : list_all is_closed magics ≡ true
all_closed = refl

is_known : (meaning : Result (Option Form) OtherFormat) → tells_form meaning ≡ true → meaning ≢ Ok None
is_known meaning h e = true≢false (sym h ∙ ap tells_form e)

no_option : (o : Option Magic) → is_none o ≡ true → o ≡ None
no_option None h = refl
no_option (Some m) h = absurd (true≢false (sym h))

-- s starts with neither
abbrev StartsNone : List ℕ → Type 0
StartsNone s = (found s magics ≡ None) × (is_stream s ≡ false)

open_at : (n k : ℕ) (m : List ℕ) → are_open n m ≡ true → k < n → StartsNone (take k m)
open_at zero k m h lt = absurd (omega (arith, lt))
open_at (suc n) k m h lt =
    let parts = and_parts (is_none (found (take n m) magics) && not (is_stream (take n m))) (are_open n m) h in
    let tests = and_parts (is_none (found (take n m) magics)) (not (is_stream (take n m))) parts.0 in
    elim (cases_lt k n) [
      | inl less ↦ open_at n k m parts.1 less
      | inr most ↦ let e : n ≡ k = omega (arith, lt, most) in subst (λ i. StartsNone (take i m)) e (no_option (found (take n m) magics) tests.0, not-true (is_stream (take n m)) tests.1)
    ]

-- ---- some bytes, and what may follow them

module _ (s : List ℕ) where
  -- s is a proper prefix of the magic number m, or of one of some
  abbrev begins : Magic → Bool
  begins m = nat_lt (length s) (length m.0) && starts_with nat_eq m.0 s

  abbrev begins_one : List Magic → Bool
  begins_one ms = list_any begins ms

  same_found : (more : List ℕ) (ms : List Magic) → begins_one ms ≡ false → found (s ++ more) ms ≡ found s ms
  same_found more [] h = refl
  same_found more (m ∷ ms) h =
      let parts = or_parts (begins m) (begins_one ms) h in
      ap₂ (λ b o. cond b (Some m) o) (same_start m.0 s more (λ lt. subst (λ b. (b && starts_with nat_eq m.0 s) ≡ false) (lt-ltb (length s) (length m.0) lt) parts.0)) (same_found more ms parts.1)

  -- what follows does not change what is told
  pub same_known : (more : List ℕ) → begins_magic s ≡ false → form_by_magic magics (s ++ more) ≡ form_by_magic magics s
  same_known more h = ap (λ o. option_transpose (option_map (λ m. m.1) o)) (same_found more magics h)

  -- they tell nothing, and with what follows a magic number may
  abbrev pub IsOpen : Type 0
  IsOpen = (form_by_magic magics s ≡ Ok None) × (is_stream s ≡ false) × ((more : List ℕ) × (form_by_magic magics (s ++ more) ≢ Ok None))

  opened : (m : Magic) → is_closed m ≡ true → begins m ≡ true → IsOpen
  opened m closed h =
      let tests = and_parts (tells_form (form_by_magic magics m.0)) (are_open (length m.0) m.0) closed in
      let parts = and_parts (nat_lt (length s) (length m.0)) (starts_with nat_eq m.0 s) h in
      let whole : m.0 ≡ s ++ drop (length s) m.0 = (starts_is Decides-eqb m.0 s true (sym parts.1)).0 refl in
      let none = open_at (length m.0) (length s) m.0 tests.1 (ltb-true (length s) (length m.0) parts.0) in
      let front : take (length s) m.0 ≡ s = ap (take (length s)) whole ∙ take-append_seam s (drop (length s) m.0) in (
        ap (λ o. option_transpose (option_map (λ m. m.1) o)) (subst (λ l. found l magics ≡ None) front none.0),
        subst (λ l. is_stream l ≡ false) front none.1,
        (drop (length s) m.0, is_known (form_by_magic magics (s ++ drop (length s) m.0)) (subst (λ l. tells_form (form_by_magic magics l) ≡ true) whole tests.0)),
      )

  either_opened : (m : Magic) (b rest : Bool) → begins m ≡ b → is_closed m ≡ true → (b || rest) ≡ true → (rest ≡ true → IsOpen) → IsOpen
  either_opened m true rest e closed h others = opened m closed e
  either_opened m false rest e closed h others = others h

  some_opened : (ms : List Magic) → list_all is_closed ms ≡ true → begins_one ms ≡ true → IsOpen
  some_opened [] closed h = absurd (true≢false (sym h))
  some_opened (m ∷ ms) closed h =
      let parts = and_parts (is_closed m) (list_all is_closed ms) closed in either_opened m (begins m) (begins_one ms) refl parts.0 h (some_opened ms parts.1)

  -- a proper prefix of a magic number tells nothing, and may begin a file that is known
  pub begun : begins_magic s ≡ true → IsOpen
  begun h = some_opened magics all_closed h
