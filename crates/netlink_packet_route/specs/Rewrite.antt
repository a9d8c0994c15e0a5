-- Results of re-encoding a list.
use Rattle.std.specs.Prelude.{◌≡◌, ◌↔◌, ℕ, ◌<◌, ◌≤◌, List, map, length, take, Option, Some, None, Result, Ok, Err}
use Rattle.std.specs.Global.{Vec}
use Rattle.std.specs.List.{AllByRecursion}
use Rattle.link_base.specs.declared.wire.fault.RewriteError.{RewriteError}
use Rattle.link_base.specs.declared.wire.fault.RewriteError.TheVariants as errors
use Rattle.link_base.specs.Wire.{Wire}
use Rattle.link_base.specs.Table.{Table, AttrValue, Gives, Canonical, Rewriting, Fits, written_list, cut}
use Rattle.link_base.specs.Answers.{OverwritesFront}
use Rattle.link_base.specs.Frame.{pad}
use Rattle.link_base.specs.Rewritten.{AnswersBy}

-- unless an allocation failed, the call fails with `Fault` if and only if P does not hold
abbrev pub RewriteFaultUnless : {X : Type 0} → Result X RewriteError → Type 0 → Type 0
RewriteFaultUnless (Ok x) P = P
RewriteFaultUnless (Err (errors.Fault at fault)) P = ¬ P
RewriteFaultUnless (Err (errors.TooLong i)) P = P
RewriteFaultUnless (Err (errors.Memory e)) P = Unit {0}

-- unless an allocation failed, the call fails with `TooLong` if and only if P holds
abbrev pub TooLongIff : {X : Type 0} → Result X RewriteError → Type 0 → Type 0
TooLongIff (Ok x) P = ¬ P
TooLongIff (Err (errors.Fault at fault)) P = ¬ P
TooLongIff (Err (errors.TooLong i)) P = P
TooLongIff (Err (errors.Memory e)) P = Unit {0}

-- if P holds, the call succeeds, and Q holds of what it returned, unless an allocation failed
abbrev pub SucceedsIf : {X : Type 0} → Type 0 → (X → Type 0) → Result X RewriteError → Type 0
SucceedsIf P Q (Ok x) = P → Q x
SucceedsIf P Q (Err (errors.Fault at fault)) = ¬ P
SucceedsIf P Q (Err (errors.TooLong i)) = ¬ P
SucceedsIf P Q (Err (errors.Memory e)) = Unit {0}

-- the re-encoded list; or why there is none
abbrev pub RewriteAnswers : Table → List ℕ → Result (Vec ℕ) RewriteError → Type 0
RewriteAnswers table s result = AnswersBy table s (λ out. Rewriting table s out.items) result

-- s decodes to vs, all of them fit, and out is their encoding
pub record WritesValues (table : Table) (s : List ℕ) (vs : List AttrValue) (out : List ℕ) : Type 0 where
  pub wire : Wire (Gives table) s vs
  pub fit : AllByRecursion Fits vs
  pub written : out ≡ written_list vs

-- the decoded values and their encoding; or why there are none
abbrev pub ReadAndWritten : {X : Type 0} → (X → List AttrValue) → Table → List ℕ → Result (X × Vec ℕ) RewriteError → Type 0
ReadAndWritten view table s result = AnswersBy table s (λ read. WritesValues table s (view read.0) read.1.items) result

-- t decodes to the values of s, with CAN controller names truncated
abbrev pub ReadsBack : Table → List ℕ → List ℕ → Type 0
ReadsBack table s t = (vs : List AttrValue) → Wire (Gives table) s vs → Wire (Gives table) t (map cut vs)

-- re-encoding t gives a canonical list; re-encoding that list gives the same bytes, and only these
pub record Converges (table : Table) (t : List ℕ) : Type 0 where
  pub second : List ℕ
  pub is : Rewriting table t second
  pub canonical : Canonical table second
  pub own : Rewriting table second second
  pub only : (w : List ℕ) → Rewriting table second w → w ≡ second

-- t is what `rewrite` returns for s: the re-encoded list, with the properties that every re-encoded list has
pub record IsRewritten (table : Table) (s t : List ℕ) : Type 0 where
  pub rewriting : Rewriting table s t
  pub same : (t ≡ s) ↔ Canonical table s
  pub no_longer : length t ≤ pad (length s)
  pub back : ReadsBack table s t
  pub converges : Converges table t

-- text is in the first n bytes of the new buffer, which is otherwise equal to the old buffer; n is its length
pub record StandsInFront (old new text : List ℕ) (n : ℕ) : Type 0 where
  pub count : n ≡ length text
  pub room : length text ≤ length old
  pub written : OverwritesFront old new text

-- the first n bytes of the new buffer are the re-encoded list, and the rest of the buffer is unchanged
pub record Rewrites (table : Table) (s old new : List ℕ) (n : ℕ) : Type 0 where
  pub text : List ℕ
  pub is : IsRewritten table s text
  pub put : StandsInFront old new text n

-- the re-encoded list has more than `room` bytes
pub record HasNoRoom (table : Table) (s : List ℕ) (room : ℕ) : Type 0 where
  pub text : List ℕ
  pub is : IsRewritten table s text
  pub more : room < length text

-- the re-encoded list, at the start of the caller's buffer; or why there is none
abbrev pub RewriteStreamingAnswers : Table → List ℕ → List ℕ → List ℕ → Result ℕ RewriteError → Type 0
RewriteStreamingAnswers table s old new result = AnswersBy table s (Rewrites table s old new) result

-- the re-encoded list, at the start of the caller's buffer, or that the buffer is too small for it
abbrev pub WritesOrLacksRoom : Table → List ℕ → List ℕ → List ℕ → Option ℕ → Type 0
WritesOrLacksRoom table s old new (Some n) = Rewrites table s old new n
WritesOrLacksRoom table s old new None = HasNoRoom table s (length old)

-- the re-encoded list in the caller's buffer, or that the buffer is too small; or why there is no re-encoded list
abbrev pub RewriteToSliceAnswers : Table → List ℕ → List ℕ → List ℕ → Result (Option ℕ) RewriteError → Type 0
RewriteToSliceAnswers table s old new result = AnswersBy table s (WritesOrLacksRoom table s old new) result

-- the bytes of s are at the start of the new buffer, or the old one is shorter than s
abbrev pub KeepsOrLacksRoom : List ℕ → List ℕ → List ℕ → Option ℕ → Type 0
KeepsOrLacksRoom s old new (Some n) = take n new ≡ s
KeepsOrLacksRoom s old new None = length old < length s

-- if nothing was written, then P holds
abbrev pub UnlessWritten : Result (Option ℕ) RewriteError → Type 0 → Type 0
UnlessWritten (Ok (Some n)) P = Unit {0}
UnlessWritten (Ok None) P = P
UnlessWritten (Err e) P = P
