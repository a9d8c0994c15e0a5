-- The results of checks: whether attributes and lists decode, without their values.
use Rattle.std.specs.Prelude.{◌≡◌, ◌⊎◌, ℕ, List, [], ◌++◌, length, Result, Ok, Err}
use Rattle.std.specs.List.{AllZip, AllByRecursion}
use Rattle.link_base.specs.declared.wire.fault.DecodeFault.{DecodeFault}
use Rattle.link_base.specs.declared.wire.fault.ListFault.{ListFault}
use Rattle.link_base.specs.Frame.{Frame, IsComplete, AreFrames, bytes_of_frames}
use Rattle.link_base.specs.Wire.{Reading, Wire, FirstFault, FrameGives}

-- `given` holds for some value, or for the error
abbrev pub Checks : {V : Type 0} → (Result V DecodeFault → Type 0) → Result (Unit {0}) DecodeFault → Type 0
Checks {V} given (Ok u) = (v : V) × given (Ok v)
Checks given (Err f) = given (Err f)

-- s decodes to n values, or this is its first error
abbrev pub ListChecks : {V : Type 0} → Reading V → List ℕ → Result ℕ ListFault → Type 0
ListChecks {V} gives s (Ok n) = (vs : List V) × Wire gives s vs × (n ≡ length vs)
ListChecks gives s (Err e) = FirstFault gives s e.at e.fault

-- s starts with frames that decode to these values, and `rest` follows; if it is not empty, all of them are complete
pub record Begins {V : Type 0} (gives : Reading V) (s : List ℕ) (vs : List V) (rest : List ℕ) : Type 0 where
  pub frames : List Frame
  pub string : s ≡ bytes_of_frames frames ++ rest
  pub all : ((rest ≡ []) × AreFrames frames) ⊎ AllByRecursion IsComplete frames
  pub values : AllZip (λ x v. FrameGives gives x (Ok v)) frames vs

-- s starts with n attributes that decode, and `rest` follows
abbrev pub Passes : {V : Type 0} → Reading V → List ℕ → ℕ → List ℕ → Type 0
Passes {V} gives s n rest = (vs : List V) × Begins gives s vs rest × (n ≡ length vs)

-- every attribute with this `nla_type` and a payload of n bytes decodes
abbrev pub AllDecode : {V : Type 0} → Reading V → ℕ → ℕ → Type 0
AllDecode {V} gives f n = (p : List ℕ) → length p ≡ n → (v : V) × gives f p (Ok v)
