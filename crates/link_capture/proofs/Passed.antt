-- Options that were read.
use Rattle.std.proofs.Common.{◌≡◌, ℕ, ◌==◌, Bool, true, false, List, [], ◌∷◌, ◌++◌, Option, Some, refl, sym, subst, if◌then◌else◌}
use Rattle.std.specs.Option.{option_or}
use Rattle.link_capture.specs.declared.error.InputError.{InputError}
use Rattle.link_capture.specs.declared.order.Order.{Order}
use Rattle.link_capture.specs.Options.{Coded, BeginsWithOption, AreOptions, first_value}

-- options lead from the bytes s to the bytes `rest`
abbrev pub Passed : Order → List ℕ → List Coded → List ℕ → Type 0
Passed order s [] rest = s ≡ rest
Passed order s (o ∷ options) rest = (next : List ℕ) × BeginsWithOption order s o next × Passed order next options rest

-- one more option
pub passed_more : (order : Order) (s : List ℕ) (options : List Coded) (o : Coded) (rest after : List ℕ) → Passed order s options rest → BeginsWithOption order rest o after → Passed order s (options ++ o ∷ []) after
passed_more order s [] o rest after p b = (after, subst (λ t. BeginsWithOption order t o after) (sym p) b, refl)
passed_more order s (x ∷ options) o rest after (next, first, p) b = (next, first, passed_more order next options o rest after p b)

-- the end
pub passed_end : (order : Order) (s : List ℕ) (options : List Coded) (rest : List ℕ) (fault : Option InputError) → Passed order s options rest → AreOptions order rest [] fault → AreOptions order s options fault
passed_end order s [] rest fault p e = subst (λ t. AreOptions order t [] fault) (sym p) e
passed_end order s (x ∷ options) rest fault (next, first, p) e = (next, first, passed_end order next options rest fault p e)

either_if : (b : Bool) (v : List ℕ) (r s t : Option (List ℕ)) → s ≡ option_or r t → (if b then Some v else s) ≡ option_or (if b then Some v else r) t
either_if true v r s t e = refl
either_if false v r s t e = e

-- the first option with a code, with one more option after it
pub first_more : (code : ℕ) (options : List Coded) (o : Coded) → first_value code (options ++ o ∷ []) ≡ option_or (first_value code options) (first_value code (o ∷ []))
first_more code [] o = refl
first_more code (x ∷ options) o = either_if (x.0 == code) x.1 (first_value code options) (first_value code (options ++ o ∷ [])) (first_value code (o ∷ [])) (first_more code options o)
