-- What a run on several files rests on: the greatest of two statuses, one name more, and all names.
use Rattle.std.proofs.Common.{◌≡◌, ◌<◌, ◌≤◌, ℕ, max, cond, List, [], ◌∷◌, ◌++◌, map, take, drop, length, sym, ap, ◌∙◌, arith, take_all}
use Rattle.std.proofs.lemmas.List.{map-append, take-append-drop, append-nil}
use Rattle.std.specs.declared.cmp.Ordering.{Ordering}
use Rattle.std.specs.declared.cmp.Ordering.TheVariants.{Less, Equal, Greater}
use Rattle.std.specs.Ordering.{MatchOrdering, nat_cmp, is_lt, ord_max}
use Rattle.std.specs.Cmp.{ranks}

greater : (a b : ℕ) (o : Ordering) → MatchOrdering o (b < a) (b ≡ a) (a < b) → cond (is_lt o) a b ≡ max a b
greater a b Less h = omega (arith, h)
greater a b Equal h = omega (arith, h)
greater a b Greater h = omega (arith, h)

pub greatest : (a b : ℕ) → ord_max nat_cmp a b ≡ max a b
greatest a b = greater a b (nat_cmp b a) (ranks b a)

pub one_name : {A B : Type 0} (f : A → B) (xs ys : List A) (x : A) (y : B) → ys ≡ xs ++ x ∷ [] → f x ≡ y → map f ys ≡ map f xs ++ y ∷ []
one_name f xs ys x y is same = ap (map f) is ∙ map-append f xs (x ∷ []) ∙ ap (λ z. map f xs ++ z ∷ []) same

-- all names: those before an index, and the others
pub all_names : {A B : Type 0} (f : A → B) (n : ℕ) (xs : List A) → map f xs ≡ map f (take n xs) ++ map f (drop n xs)
all_names f n xs = ap (map f) (sym (take-append-drop n xs)) ∙ map-append f (take n xs) (drop n xs)

-- those before an index that none is behind
pub no_others : {A B : Type 0} (f : A → B) (n : ℕ) (xs : List A) → length xs ≤ n → map f xs ≡ map f (take n xs) ++ []
no_others f n xs end = ap (map f) (sym (take_all n xs end)) ∙ sym (append-nil (map f (take n xs)))
