-- What holds of one value only, and steps to an end that go one way only.
use Rattle.std.proofs.Common.{◌≡◌, ◌↔◌, ◌<◌, ℕ, zero, suc, List, [], ◌∷◌, Result, Ok, Err, refl, subst, arith}

-- a value with this property, and there is no other
pub record OnlyOne {A : Type 0} (Is : A → Type 0) : Type 0 where
  pub value : A
  pub is : Is value
  pub only : (other : A) → Is other → other ≡ value

-- what is equal to a given value
pub only_given : {A : Type 0} (x : A) → OnlyOne (λ y. y ≡ x)
only_given x = record { value = x; is = refl; only = λ other e. e }

-- a property that holds where such a one does
pub only_like : {A : Type 0} {Is Has : A → Type 0} → ((x : A) → Is x ↔ Has x) → OnlyOne Is → OnlyOne Has
only_like same one = record { value = one.value; is = (same one.value).0 one.is; only = λ other h. one.only other ((same other).1 h) }

-- Runs from a place s to an end. At the front of each place is an item x, with a y that says where the next place is; or
-- the end e. One thing only is there, and the next place is smaller.
module _ {S X Y E : Type 0} (size : S → ℕ) (next : S → Y → S) (IsFront : S → Result (X × Y) E → Type 0) (IsRun : S → List X → E → Type 0)
    (end : (s : S) (e : E) → IsRun s [] e ↔ IsFront s (Err e))
    (more : (s : S) (x : X) (xs : List X) (e : E) → IsRun s (x ∷ xs) e ↔ ((y : Y) × IsFront s (Ok (x, y)) × IsRun (next s y) xs e))
    (front : (s : S) → OnlyOne (IsFront s))
    (smaller : (s : S) (x : X) (y : Y) → IsFront s (Ok (x, y)) → size (next s y) < size s) where
  abbrev Runs : S → List X × E → Type 0
  Runs s run = IsRun s run.0 run.1

  -- where the end is at the front, the run is empty
  at_end : (s : S) (e : E) → ((f : Result (X × Y) E) → IsFront s f → f ≡ Err e) → (xs : List X) (f : E) → IsRun s xs f → ◌≡◌ {A = List X × E} (xs, f) ([], e)
  at_end s e only [] f run = let ends : f ≡ e = cc (only (Err f) ((end s f).0 run)) in λ i. ([], ends i)
  at_end s e only (x ∷ xs) f run = let (y, first, rest) = (more s x xs f).0 run in absurd (cc (only (Ok (x, y)) first))

  -- where an item is, the run is this item and the one after it
  at_item : (s : S) (x : X) (y : Y) → ((f : Result (X × Y) E) → IsFront s f → f ≡ Ok (x, y)) → (rest : OnlyOne (Runs (next s y))) (xs : List X) (e : E) → IsRun s xs e → ◌≡◌ {A = List X × E} (xs, e) (x ∷ rest.value.0, rest.value.1)
  at_item s x y only rest [] e run = absurd (cc (only (Err e) ((end s e).0 run)))
  at_item s x y only rest (z ∷ xs) e run =
      let (w, first, after) = (more s z xs e).0 run in
      let same : ◌≡◌ {A = X × Y} (z, w) (x, y) = cc (only (Ok (z, w)) first) in
      let others = rest.only (xs, e) (subst (λ p. IsRun (next s p.1) xs e) same after) in
      λ i. ((same i).0 ∷ (others i).0, (others i).1)

  -- there is one run, by what is at the front and the runs from smaller places
  by_front : (s : S) (f : Result (X × Y) E) → IsFront s f → ((g : Result (X × Y) E) → IsFront s g → g ≡ f) → ((t : S) → size t < size s → OnlyOne (Runs t)) → OnlyOne (Runs s)
  by_front s (Err e) is only rest = record { value = ([], e); is = (end s e).1 is; only = λ run h. at_end s e only run.0 run.1 h }
  by_front s (Ok (x, y)) is only rest =
      let r = rest (next s y) (smaller s x y is) in
      record { value = (x ∷ r.value.0, r.value.1); is = (more s x r.value.0 r.value.1).1 (y, is, r.is); only = λ run h. at_item s x y only r run.0 run.1 h }

  -- there is one from each place below k
  below : (k : ℕ) (s : S) → size s < k → OnlyOne (Runs s)
  below zero s h = absurd (omega (arith, h))
  below (suc k) s h = by_front s (front s).value (front s).is (front s).only (λ t less. below k t (omega (arith, h, less)))

  -- there is one run from each place
  pub one_run : (s : S) → OnlyOne (Runs s)
  one_run s = below (suc (size s)) s (omega arith)
