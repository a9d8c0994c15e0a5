-- Texts that were written, in order.
use Rattle.std.proofs.Common.{take, drop, ◌≡◌, ℕ, zero, suc, ◌+◌, ◌-◌, ◌≤◌, min, List, [], ◌∷◌, ◌++◌, length, Result, Ok, Err, OnOk, refl, sym, ap, subst, ◌∙◌, arith, length-append, inl, inr}
use Rattle.std.proofs.lemmas.Bool.{cases_lt}
use Rattle.std.proofs.KnownBytes.{Appends-nil, Appends-trans}
use Rattle.link_show.specs.Sink.{Output, Whole, Through, Front, Gains, overlaid, Counts, greatest}

-- no text changes nothing
pub overlaid_nothing : (n : ℕ) (a : List ℕ) → overlaid n [] a ≡ a
overlaid_nothing n [] = refl
overlaid_nothing zero (x ∷ a) = refl
overlaid_nothing (suc n) (x ∷ a) = ap (λ l. x ∷ l) (overlaid_nothing n a)

-- a text changes no length
pub overlaid_length : (n : ℕ) (t a : List ℕ) → length (overlaid n t a) ≡ length a
overlaid_length n t [] = refl
overlaid_length zero [] (x ∷ a) = refl
overlaid_length zero (y ∷ t) (x ∷ a) = ap suc (overlaid_length zero t a)
overlaid_length (suc n) t (x ∷ a) = ap suc (overlaid_length n t a)

-- a text over another, behind it
pub overlaid_twice : (n m : ℕ) (s t a : List ℕ) → m ≡ n + length s → overlaid m t (overlaid n s a) ≡ overlaid n (s ++ t) a
overlaid_twice n m s t [] e = refl
overlaid_twice zero zero [] t (x ∷ a) e = refl
overlaid_twice zero (suc m) [] t (x ∷ a) e = absurd (omega (arith, e))
overlaid_twice zero zero (y ∷ s) t (x ∷ a) e = absurd (omega (arith, e))
overlaid_twice zero (suc m) (y ∷ s) t (x ∷ a) e = ap (λ l. y ∷ l) (overlaid_twice zero m s t a (omega (arith, e)))
overlaid_twice (suc n) zero s t (x ∷ a) e = absurd (omega (arith, e))
overlaid_twice (suc n) (suc m) s t (x ∷ a) e = ap (λ l. x ∷ l) (overlaid_twice n m s t a (omega (arith, e)))

-- beyond the end nothing is stored
pub overlaid_beyond : (n : ℕ) (t a : List ℕ) → length a ≤ n → overlaid n t a ≡ a
overlaid_beyond n t [] e = refl
overlaid_beyond zero t (x ∷ a) e = absurd (omega (arith, e))
overlaid_beyond (suc n) t (x ∷ a) e = ap (λ l. x ∷ l) (overlaid_beyond n t a (omega (arith, e)))

-- what is behind the end of a buffer changes nothing
pub overlaid_full : (n : ℕ) (s t a : List ℕ) → length a ≤ n + length s → overlaid n (s ++ t) a ≡ overlaid n s a
overlaid_full n s t [] e = refl
overlaid_full zero [] t (x ∷ a) e = absurd (omega (arith, e))
overlaid_full zero (y ∷ s) t (x ∷ a) e = ap (λ l. y ∷ l) (overlaid_full zero s t a (omega (arith, e)))
overlaid_full (suc n) s t (x ∷ a) e = ap (λ l. x ∷ l) (overlaid_full n s t a (omega (arith, e)))

-- a text over another, behind it, though the count has stopped
pub overlaid_counted : (n m : ℕ) (s t a : List ℕ) → length a ≤ greatest → Counts n s m → overlaid m t (overlaid n s a) ≡ overlaid n (s ++ t) a
overlaid_counted n m s t a short e =
    elim (cases_lt (n + length s) greatest) [
      | inl h ↦ overlaid_twice n m s t a (omega (arith, e, h))
      | inr h ↦ overlaid_beyond m t (overlaid n s a) (omega (arith, e, h, short, overlaid_length n s a)) ∙ sym (overlaid_full n s t a (omega (arith, h, short)))
    ]

-- one text after another
pub gains_more : (old mid new : Output) (s t : List ℕ) → Gains old mid s → Gains mid new t → Gains old new (s ++ t)
gains_more (Whole a) (Whole b) (Whole c) s t p q = Appends-trans a b c s t p q
gains_more (Whole a) (Whole b) (Through k c) s t p q = absurd q
gains_more (Whole a) (Whole b) (Front c n) s t p q = absurd q
gains_more (Whole a) (Through i b) c s t p q = absurd p
gains_more (Whole a) (Front b m) c s t p q = absurd p
gains_more (Through i a) (Whole b) c s t p q = absurd p
gains_more (Through i a) (Through j b) (Whole c) s t p q = absurd q
gains_more (Through i a) (Through j b) (Through k c) s t p q = (q.0 ∙ p.0, Appends-trans a b c s t p.1 q.1)
gains_more (Through i a) (Through j b) (Front c n) s t p q = absurd q
gains_more (Through i a) (Front b m) c s t p q = absurd p
gains_more (Front a n) (Whole b) c s t p q = absurd p
gains_more (Front a n) (Through i b) c s t p q = absurd p
gains_more (Front a n) (Front b m) (Whole c) s t p q = absurd q
gains_more (Front a n) (Front b m) (Through k c) s t p q = absurd q
gains_more (Front a n) (Front b m) (Front c k) s t p q =
    λ short.
    let first = p short in
    let second = q (subst (λ k. k ≤ greatest) (sym (ap length first.1 ∙ overlaid_length n s a.now)) short) in (
      second.0 ∙ first.0,
      second.1 ∙ ap (overlaid m t) first.1 ∙ overlaid_counted n m s t a.now short first.2,
      omega (arith, first.2, second.2, length-append s t),
    )

-- a text was written in two parts
pub gains_all : (old mid new : Output) (s t text : List ℕ) → Gains old mid s → Gains mid new t → text ≡ s ++ t → Gains old new text
gains_all old mid new s t text p q e = subst (Gains old new) (sym e) (gains_more old mid new s t p q)

-- a text was written in three parts
pub gains_three : (a b c d : Output) (s t u text : List ℕ) → Gains a b s → Gains b c t → Gains c d u → text ≡ s ++ (t ++ u) → Gains a d text
gains_three a b c d s t u text p q r e = gains_all a b d s (t ++ u) text p (gains_more b c d t u q r) e

-- a text was written in four parts
pub gains_four : (a b c d f : Output) (s t u v text : List ℕ) → Gains a b s → Gains b c t → Gains c d u → Gains d f v → text ≡ s ++ (t ++ (u ++ v)) → Gains a f text
gains_four a b c d f s t u v text p q r w e = gains_all a b f s (t ++ (u ++ v)) text p (gains_three b c d f t u v _ q r w refl) e

-- what the prover tries where a text is written in parts
pub ruleset chains = (gains_all, gains_three, gains_four)

-- a text was written, and then, unless the call failed, the rest of a text
pub then_all : {X E : Type 0} (r : Result X E) (old mid new : Output) (s t text : List ℕ) → Gains old mid s → OnOk r (Gains mid new t) → text ≡ s ++ t → OnOk r (Gains old new text)
then_all (Ok x) old mid new s t text p q e = gains_all old mid new s t text p q e
then_all (Err x) old mid new s t text p q e = q

-- nothing was written
pub gains_nothing : (w : Output) → Gains w w []
gains_nothing (Whole a) = Appends-nil a
gains_nothing (Through i a) = (refl, Appends-nil a)
gains_nothing (Front a n) = λ short. (refl, sym (overlaid_nothing n a.now), omega arith)

-- the parts that a copy leaves in a buffer
overlaid_parts : (n at fit end : ℕ) (t a : List ℕ) → at ≡ min n (length a) → fit ≡ min (length t) (length a - at) → end ≡ at + fit → take at a ++ (take fit t ++ drop end a) ≡ overlaid n t a
overlaid_parts n zero zero zero t [] p q r = refl
overlaid_parts n zero zero (suc end) t [] p q r = absurd (omega (arith, r))
overlaid_parts n zero (suc fit) end t [] p q r = absurd (omega (arith, q))
overlaid_parts n (suc at) fit end t [] p q r = absurd (omega (arith, p))
overlaid_parts zero zero zero zero [] (x ∷ a) p q r = refl
overlaid_parts zero zero zero zero (y ∷ t) (x ∷ a) p q r = absurd (omega (arith, q))
overlaid_parts zero zero zero (suc end) t (x ∷ a) p q r = absurd (omega (arith, r))
overlaid_parts zero zero (suc fit) zero t (x ∷ a) p q r = absurd (omega (arith, r))
overlaid_parts zero zero (suc fit) (suc end) [] (x ∷ a) p q r = absurd (omega (arith, q))
overlaid_parts zero zero (suc fit) (suc end) (y ∷ t) (x ∷ a) p q r = ap (λ l. y ∷ l) (overlaid_parts zero zero fit end t a (omega arith) (omega (arith, q)) (omega (arith, r)))
overlaid_parts zero (suc at) fit end t (x ∷ a) p q r = absurd (omega (arith, p))
overlaid_parts (suc n) zero fit end t (x ∷ a) p q r = absurd (omega (arith, p))
overlaid_parts (suc n) (suc at) fit zero t (x ∷ a) p q r = absurd (omega (arith, r))
overlaid_parts (suc n) (suc at) fit (suc end) t (x ∷ a) p q r = ap (λ l. x ∷ l) (overlaid_parts n at fit end t a (omega (arith, p)) (omega (arith, q)) (omega (arith, r)))

-- a text that was stored in a buffer, as far as there is room
pub overlaid_stored : (n at fit end : ℕ) (t a rest : List ℕ) → at ≡ min n (length a) → fit ≡ min (length t) (length a - at) → end ≡ at + fit → rest ≡ drop end a
    → take at a ++ (take fit t ++ rest) ≡ overlaid n t a
overlaid_stored n at fit end t a rest p q r s = subst (λ x. take at a ++ (take fit t ++ x) ≡ overlaid n t a) (sym s) (overlaid_parts n at fit end t a p q r)
