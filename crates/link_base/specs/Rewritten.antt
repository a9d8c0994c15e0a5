-- Lists and attributes that are re-encoded in one pass.
use Rattle.std.specs.Prelude.{◌≡◌, ◌<◌, ◌≤◌, ℕ, Bool, IsTrue, List, ◌++◌, length, Option, Some, None, Result, Ok, Err}
use Rattle.std.specs.List.{AllByRecursion}
use Rattle.link_base.specs.declared.wire.fault.DecodeError.{DecodeError}
use Rattle.link_base.specs.declared.wire.fault.RewriteError.{RewriteError}
use Rattle.link_base.specs.declared.wire.fault.RewriteError.TheVariants as errors
use Rattle.link_base.specs.Frame.{Frame, IsComplete, BeginsWith, bytes_of_frames, max_payload}
use Rattle.link_base.specs.Wire.{Wire, FirstFault, FrameGives}
use Rattle.link_base.specs.Table.{Table, AttrValue, Gives, Rewriting, TakesMemory, Fits, written_payload, written_frame}
use Rattle.link_base.specs.Answers.{Fails, OverwritesFront, IsFirstUnfit}

-- the rewriting of s is in the first n bytes of the buffer, and the rest of the buffer is unchanged
pub record RewrittenInto (table : Table) (s old new : List ℕ) (n : ℕ) : Type 0 where
  pub out : List ℕ
  pub is : Rewriting table s out
  pub len : n ≡ length out
  pub written : OverwritesFront old new out

-- s decodes, and value i, zero-based, is the first that does not fit
abbrev pub IsUnfitAt : Table → List ℕ → ℕ → Type 0
IsUnfitAt table s i = (vs : List AttrValue) × Wire (Gives table) s vs × IsFirstUnfit vs i

-- s decodes, and one of its values does not fit
pub record IsUnfit (table : Table) (s : List ℕ) : Type 0 where
  pub first : ℕ
  pub is : IsUnfitAt table s first

-- P holds of what the call returned; or the error is the first one in s, or the first value that does not fit, unless
-- it is `Memory`
abbrev pub AnswersBy : {X : Type 0} → Table → List ℕ → (X → Type 0) → Result X RewriteError → Type 0
AnswersBy table s P (Ok x) = P x
AnswersBy table s P (Err (errors.Fault at fault)) = FirstFault (Gives table) s at fault
AnswersBy table s P (Err (errors.TooLong i)) = IsUnfitAt table s i
AnswersBy table s P (Err (errors.Memory e)) = Unit {0}

-- one of the attributes of s has a type whose values may be heap-allocated, and each attribute before it decodes, so
-- that it is not after the first error
pub record NeedsMemory (table : Table) (s : List ℕ) : Type 0 where
  pub front : List Frame
  pub rest : List ℕ
  pub string : s ≡ bytes_of_frames front ++ rest
  pub complete : AllByRecursion IsComplete front
  pub values : AllByRecursion (λ x. (v : AttrValue) × FrameGives (Gives table) x (Ok v)) front
  pub frame : Frame
  pub here : BeginsWith rest frame
  pub takes : TakesMemory table frame.kind_field

-- if the decoded value is wanted and fits, the buffer has space for it
abbrev pub HasRoom : Table → ℕ → List ℕ → Bool → List ℕ → Type 0
HasRoom table f p wanted old = (v : AttrValue) → Gives table f p (Ok v) → IsTrue wanted → Fits v → length (written_frame v) ≤ length old

-- the decoded value is wanted and fits, its frame is in the first n bytes of the buffer, and the rest is unchanged
pub record FrameWritten (table : Table) (f : ℕ) (p : List ℕ) (wanted : Bool) (old new : List ℕ) (n : ℕ) : Type 0 where
  pub value : AttrValue
  pub given : Gives table f p (Ok value)
  pub is_wanted : IsTrue wanted
  pub fits : Fits value
  pub written : OverwritesFront old new (written_frame value)
  pub len : n ≡ length (written_frame value)

-- the decoded value is not wanted or does not fit, and the buffer is unchanged
pub record FrameLeft (table : Table) (f : ℕ) (p : List ℕ) (wanted : Bool) (old new : List ℕ) : Type 0 where
  pub value : AttrValue
  pub given : Gives table f p (Ok value)
  pub unfit : IsTrue wanted → max_payload < length (written_payload value)
  pub same : new ≡ old

-- the decoded value was written or left out; or the attribute has this error, unless it is `Memory`, and the buffer is
-- unchanged
abbrev pub PutsFrame : Table → ℕ → List ℕ → Bool → List ℕ → List ℕ → Result (Option ℕ) DecodeError → Type 0
PutsFrame table f p wanted old new (Ok (Some n)) = FrameWritten table f p wanted old new n
PutsFrame table f p wanted old new (Ok None) = FrameLeft table f p wanted old new
PutsFrame table f p wanted old new (Err e) = Fails e (Gives table f p) × (new ≡ old)
