-- Tests of equality that decide a relation: of two parts, of options, and of lists.
use Rattle.std.proofs.Common.{◌≡◌, ◌&&◌, Bool, true, false, List, [], ◌∷◌, map, Option, Some, None, refl, sym, ap, ap₂, true≢false}
use Rattle.std.specs.Bool.{Decides, beq}
use Rattle.std.specs.Cmp.{booleans_Decides}
use Rattle.std.specs.Cmp.Lexicographic.{pointwise}
use Rattle.std.specs.Option.{option_eq, option_map}

pub two : {P Q : Type 0} (r s : Bool) → Decides r P → Decides s Q → Decides (r && s) (P × Q)
two true s d e = (λ h. (d.0 refl, e.0 h), λ h. e.1 h.1)
two false s d e = (λ h. absurd (true≢false (sym h)), λ h. d.1 h.0)

-- identical options
pub same : {T : Type 0} {E : T → T → Bool} → ((x y : T) → Decides (E x y) (x ≡ y)) → (x y : Option T) → Decides (option_eq E x y) (x ≡ y)
same d None None = (λ _. refl, λ _. refl)
same d None (Some y) = (λ h. absurd (true≢false (sym h)), λ h. absurd cc)
same d (Some x) None = (λ h. absurd (true≢false (sym h)), λ h. absurd cc)
same d (Some x) (Some y) = (λ h. ap Some ((d x y).0 h), λ h. let e : x ≡ y = cc in (d x y).1 e)

-- a flag is equal to itself
pub optional_same : (flag : Option Bool) → option_eq beq flag flag ≡ true
optional_same flag = (same booleans_Decides flag flag).1 refl

-- options that look the same
pub options : {T U : Type 0} {E : T → T → Bool} (view : T → U) → ((x y : T) → Decides (E x y) (view x ≡ view y)) → (x y : Option T) → Decides (option_eq E x y) (option_map view x ≡ option_map view y)
options view d None None = (λ _. refl, λ _. refl)
options view d None (Some y) = (λ h. absurd (true≢false (sym h)), λ h. absurd cc)
options view d (Some x) None = (λ h. absurd (true≢false (sym h)), λ h. absurd cc)
options view d (Some x) (Some y) = (λ h. ap Some ((d x y).0 h), λ h. let e : view x ≡ view y = cc in (d x y).1 e)

-- lists whose elements look the same
pub lists : {T U : Type 0} {E : T → T → Bool} (view : T → U) → ((x y : T) → Decides (E x y) (view x ≡ view y)) → (xs ys : List T) → Decides (pointwise E xs ys) (map view xs ≡ map view ys)
lists view d [] [] = (λ _. refl, λ _. refl)
lists view d [] (y ∷ ys) = (λ h. absurd (true≢false (sym h)), λ h. absurd cc)
lists view d (x ∷ xs) [] = (λ h. absurd (true≢false (sym h)), λ h. absurd cc)
lists {E = E} view d (x ∷ xs) (y ∷ ys) =
    let both = two (E x y) (pointwise E xs ys) (d x y) (lists view d xs ys) in (
      λ h. ap₂ (λ v vs. v ∷ vs) (both.0 h).0 (both.0 h).1,
      λ h. let e : view x ≡ view y = cc in let es : map view xs ≡ map view ys = cc in both.1 (e, es),
    )
