-- Entries in places: one more, and the entry before others.
use Rattle.std.proofs.Common.{◌≡◌, ℕ, ◌+◌, ◌<◌, List, [], ◌∷◌, ◌++◌, length, refl, ap, ◌∙◌, arith, set}
use Rattle.std.specs.List.{AllZip}
use Rattle.std.proofs.lemmas.List.{set_comm}
use Rattle.link_entries.specs.declared.entry.Entry.{Entry}
use Rattle.link_entries.specs.Entry.{placed}
use Rattle.link_entries.specs.Flat.{indexed}

-- several entries, and more after them
pub placed-append : (old : List Entry) (i : ℕ) (es more : List Entry) → placed old i (es ++ more) ≡ placed (placed old i es) (i + length es) more
placed-append old i [] more = let here : i ≡ i + 0 = omega arith in ap (λ n. placed old n more) here
placed-append old i (e ∷ es) more =
    let next : i + 1 + length es ≡ i + length (e ∷ es) = omega arith in
    placed-append (set old i e) (i + 1) es more ∙ ap (λ n. placed (placed (set old i e) (i + 1) es) n more) next

-- one more
pub placed_more : (old : List Entry) (i : ℕ) (es : List Entry) (e : Entry) → placed old i (es ++ e ∷ []) ≡ set (placed old i es) (i + length es) e
placed_more old i es e = placed-append old i es (e ∷ [])

-- the entry before others may be stored after them
pub placed_before : (old : List Entry) (i j : ℕ) (e : Entry) (es : List Entry) → i < j → set (placed old j es) i e ≡ placed (set old i e) j es
placed_before old i j e [] h = refl
placed_before old i j e (x ∷ es) h =
    placed_before (set old j x) i (j + 1) e es (omega arith)
    ∙ ap (λ t. placed t (j + 1) es) (set_comm old j i x e (λ same. omega arith))

pub indexed_more : {A : Type 0} (f : ℕ → A → Entry) (i : ℕ) (xs : List A) (x : A) → indexed f i (xs ++ x ∷ []) ≡ indexed f i xs ++ f (i + length xs) x ∷ []
indexed_more f i [] x = let here : i ≡ i + 0 = omega arith in ap (λ n. f n x ∷ []) here
indexed_more f i (y ∷ xs) x =
    let next : i + 1 + length xs ≡ i + length (y ∷ xs) = omega arith in
    ap (λ t. f i y ∷ t) (indexed_more f (i + 1) xs x ∙ ap (λ n. indexed f (i + 1) xs ++ f n x ∷ []) next)

pub length-indexed : {A : Type 0} (f : ℕ → A → Entry) (i : ℕ) (xs : List A) → length (indexed f i xs) ≡ length xs
length-indexed f i [] = refl
length-indexed f i (x ∷ xs) = let more = length-indexed f (i + 1) xs in omega arith

-- one pair more
pub zip_more : {A B : Type 0} (R : A → B → Type 0) (xs : List A) (ys : List B) (x : A) (y : B) → AllZip R xs ys → R x y → AllZip R (xs ++ x ∷ []) (ys ++ y ∷ [])
zip_more R [] [] x y h r = (r, tt)
zip_more R (z ∷ xs) (w ∷ ys) x y h r = (h.0, zip_more R xs ys x y h.1 r)
zip_more R xs ys x y h r = absurd h
