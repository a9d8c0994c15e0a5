-- Lists that are copied one element at a time.
use Rattle.std.proofs.Common.{◌≡◌, Bool, true, Result, Ok, Err, List, [], ◌∷◌, ◌++◌, map, true≢false, refl, sym, subst, ap₂, ◌∙◌}
use Rattle.std.specs.Prelude.{IfOk}
use Rattle.std.proofs.lemmas.List.{map-append}
use Rattle.std.specs.Cmp.{IsEquivalence, first_so, second_so}
use Rattle.std.specs.Cmp.Derive.{both_true}
use Rattle.std.specs.Cmp.Lexicographic.{pointwise, lists_equiv}
use Rattle.link_base.specs.Table.{Leaf, Case, Other}
use Rattle.link_base.specs.Lift.{lift}

-- two elements of a nested list are equal if they are equal as attributes
pub one_leaf : (a b : Leaf) → lift a ≡ lift b → a ≡ b
one_leaf (Case k v) (Case l w) e = cc
one_leaf (Case k v) (Other g q) e = cc
one_leaf (Other f p) (Case l w) e = cc
one_leaf (Other f p) (Other g q) e = cc

-- one more element with the same meaning
pub same_more : {A M : Type 0} (means : A → M) (xs ys : List A) (x y : A) → map means xs ≡ map means ys → means x ≡ means y
    → map means (xs ++ x ∷ []) ≡ map means (ys ++ y ∷ [])
same_more means xs ys x y h e =
    map-append means xs (x ∷ []) ∙ ap₂ (λ ms m. ms ++ m ∷ []) h e ∙ sym (map-append means ys (y ∷ []))

-- one more element that is equal
pub equal_more : {A : Type 0} (E : A → A → Bool) (xs ys : List A) (x y : A) → pointwise E xs ys ≡ true → E x y ≡ true
    → pointwise E (xs ++ x ∷ []) (ys ++ y ∷ []) ≡ true
equal_more E [] [] x y h e = both_true e refl
equal_more E [] (b ∷ ys) x y h e = absurd (true≢false (sym h))
equal_more E (a ∷ xs) [] x y h e = absurd (true≢false (sym h))
equal_more E (a ∷ xs) (b ∷ ys) x y h e =
    both_true (first_so (E a b) (pointwise E xs ys) h) (equal_more E xs ys x y (second_so (E a b) (pointwise E xs ys) h) e)

-- ---- lists that are copied in one piece

itself : {A : Type 0} {E : A → A → Bool} → IsEquivalence E → (xs ys : List A) → xs ≡ ys → pointwise E xs ys ≡ true
itself {E = E} law xs ys e = subst (λ zs. pointwise E xs zs ≡ true) e ((lists_equiv law).refl xs)

-- a copy of a list, unless an allocation failed
pub same_copy : {A X Y : Type 0} {E : A → A → Bool} → IsEquivalence E → (r : Result X Y) (items : X → List A) (xs : List A)
    → IfOk r (λ v. items v ≡ xs) → IfOk r (λ v. pointwise E (items v) xs ≡ true)
same_copy law (Ok v) items xs e = itself law (items v) xs e
same_copy law (Err y) items xs e = tt
