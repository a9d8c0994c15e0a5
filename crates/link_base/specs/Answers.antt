-- Results of functions.
use Rattle.std.specs.Prelude.{◌≡◌, ℕ, ◌-◌, ◌<◌, ◌^◌, min, List, ◌∷◌, ◌++◌, length, drop, Result, Ok, Err}
use Rattle.std.specs.List.{AllByRecursion}
use Rattle.std.specs.Global.{Vec}
use Rattle.link_base.specs.declared.wire.fault.Cause.{Cause}
use Rattle.link_base.specs.declared.wire.fault.DecodeFault.{DecodeFault}
use Rattle.link_base.specs.declared.wire.fault.DecodeFault.TheVariants as faults
use Rattle.link_base.specs.declared.wire.fault.DecodeError.{DecodeError}
use Rattle.link_base.specs.declared.wire.fault.DecodeError.TheVariants as errors
use Rattle.link_base.specs.declared.wire.fault.ListError.{ListError}
use Rattle.link_base.specs.declared.wire.fault.ListError.TheVariants as list_errors
use Rattle.link_base.specs.declared.wire.fault.WriteError.{WriteError}
use Rattle.link_base.specs.declared.wire.fault.WriteError.TheVariants as write_errors
use Rattle.link_base.specs.declared.wire.fault.RewriteError.{RewriteError}
use Rattle.link_base.specs.declared.wire.fault.RewriteError.TheVariants as rewrite_errors
use Rattle.link_base.specs.Frame.{max_payload}
use Rattle.link_base.specs.Wire.{Reading, Wire, FirstFault}
use Rattle.link_base.specs.Table.{AttrValue, written_payload, written_list, Fits, nested_fault}

-- ---- parsing one value

-- the error of a payload that is malformed for this cause
abbrev pub refused : Cause → DecodeError
refused c = errors.Fault (faults.Payload c)

-- the result of parsing one payload
abbrev pub payload_result : {A : Type 0} → Result A Cause → Result A DecodeError
payload_result (Ok a) = Ok a
payload_result (Err c) = Err (refused c)

-- a parsed value, as what it represents
abbrev pub read_as : {X A : Type 0} → (X → A) → Result X DecodeError → Result A DecodeError
read_as view (Ok x) = Ok (view x)
read_as view (Err e) = Err e

-- `given` holds for the error, unless it is `Memory`
abbrev pub Fails : {V : Type 0} → DecodeError → (Result V DecodeFault → Type 0) → Type 0
Fails (errors.Fault f) given = given (Err f)
Fails (errors.Memory e) given = Unit {0}

-- `given` holds for the parsed value or for the error, unless it is `Memory`
abbrev pub Answers : {X V : Type 0} → (X → V) → Result X DecodeError → (Result V DecodeFault → Type 0) → Type 0
Answers view (Ok x) given = given (Ok (view x))
Answers view (Err e) given = Fails e given

-- a value, or a cause as an error without an attribute type
abbrev pub unkinded : {A : Type 0} → Result A Cause → Result A DecodeFault
unkinded (Ok a) = Ok a
unkinded (Err c) = Err (faults.Payload c)

-- the result of parsing one payload is `stated`, unless it is `Memory`
abbrev pub PayloadAnswers : {X A : Type 0} → (X → A) → Result X DecodeError → Result A Cause → Type 0
PayloadAnswers view result stated = Answers view result (λ r. r ≡ unkinded stated)

-- if the call failed with `Memory`, then P holds
abbrev pub OnMemory : {X : Type 0} → Result X DecodeError → Type 0 → Type 0
OnMemory (Ok x) P = Unit {0}
OnMemory (Err (errors.Fault f)) P = Unit {0}
OnMemory (Err (errors.Memory e)) P = P

-- adds the attribute type to the error of a payload
abbrev pub value_fault : ℕ → DecodeFault → DecodeFault
value_fault kind (faults.Payload c) = faults.Value kind c
value_fault kind f = f

-- adds the attribute type to the error of a payload, unless it is `Memory`
abbrev pub value_error : ℕ → DecodeError → DecodeError
value_error kind (errors.Memory e) = errors.Memory e
value_error kind (errors.Fault f) = errors.Fault (value_fault kind f)

-- the result of parsing a payload, with the attribute type added to its error
abbrev pub under_kind : {A : Type 0} → ℕ → Result A DecodeError → Result A DecodeError
under_kind kind (Ok a) = Ok a
under_kind kind (Err e) = Err (value_error kind e)

-- ---- parsing a list

-- the error is the first one in s, unless it is `Memory`
abbrev pub ListFails : {V : Type 0} → ListError → Reading V → List ℕ → Type 0
ListFails (list_errors.Fault at f) gives s = FirstFault gives s at f
ListFails (list_errors.Memory e) gives s = Unit {0}

-- s decodes to the values, or the error is the first one in s, unless it is `Memory`
abbrev pub ListAnswers : {X V : Type 0} → (X → List V) → Result X ListError → Reading V → List ℕ → Type 0
ListAnswers view (Ok x) gives s = Wire gives s (view x)
ListAnswers view (Err e) gives s = ListFails e gives s

-- unless an allocation failed, the call fails with `Fault` if and only if P does not hold
abbrev pub ListFaultUnless : {X : Type 0} → Result X ListError → Type 0 → Type 0
ListFaultUnless (Ok x) P = P
ListFaultUnless (Err (list_errors.Fault at f)) P = ¬ P
ListFaultUnless (Err (list_errors.Memory e)) P = Unit {0}

-- if the call failed with `Memory`, then P holds
abbrev pub OnListMemory : {X : Type 0} → Result X ListError → Type 0 → Type 0
OnListMemory (Ok x) P = Unit {0}
OnListMemory (Err (list_errors.Fault at f)) P = Unit {0}
OnListMemory (Err (list_errors.Memory e)) P = P

-- the error of a list in which the frame at this offset has this error
abbrev pub list_error : ℕ → DecodeError → ListError
list_error at (errors.Memory e) = list_errors.Memory e
list_error at (errors.Fault f) = list_errors.Fault at f

-- the error of an attribute of this type whose nested list has this error
abbrev pub nested_error : ℕ → ListError → DecodeError
nested_error kind (list_errors.Memory e) = errors.Memory e
nested_error kind (list_errors.Fault at f) = errors.Fault (nested_fault kind f)

-- ---- writing

-- saturates at `usize::MAX`
abbrev pub capped : ℕ → ℕ
capped n = min n (2 ^ 64 - 1)

-- the new bytes start with `text`; the rest is unchanged
abbrev pub OverwritesFront : List ℕ → List ℕ → List ℕ → Type 0
OverwritesFront old new text = new ≡ text ++ drop (length text) old

-- all values fit, and n is the length of the written list
abbrev pub IsMeasured : List AttrValue → ℕ → Type 0
IsMeasured vs n = AllByRecursion Fits vs × (n ≡ capped (length (written_list vs)))

-- the first i values fit, and value i, zero-based, does not
pub record IsFirstUnfit (vs : List AttrValue) (i : ℕ) : Type 0 where
  pub before : List AttrValue
  pub value : AttrValue
  pub after : List AttrValue
  pub values : vs ≡ before ++ value ∷ after
  pub place : i ≡ length before
  pub fit : AllByRecursion Fits before
  pub unfit : max_payload < length (written_payload value)

-- all values fit, and the output is the written list; or value i is the first that does not fit; or the error is
-- `Memory`, all values fit, and there is at least one
abbrev pub WriteAnswers : List AttrValue → Result (Vec ℕ) WriteError → Type 0
WriteAnswers vs (Ok out) = AllByRecursion Fits vs × (out.items ≡ written_list vs)
WriteAnswers vs (Err (write_errors.TooLong i)) = IsFirstUnfit vs i
WriteAnswers vs (Err (write_errors.Memory e)) = AllByRecursion Fits vs × (0 < length vs)

-- ---- re-encoding

-- the error of re-encoding a list, for the error of reading it
abbrev pub of_reading : ListError → RewriteError
of_reading (list_errors.Memory e) = rewrite_errors.Memory e
of_reading (list_errors.Fault at f) = rewrite_errors.Fault at f

-- the error of re-encoding a list, for the error of writing its values
abbrev pub of_writing : WriteError → RewriteError
of_writing (write_errors.Memory e) = rewrite_errors.Memory e
of_writing (write_errors.TooLong i) = rewrite_errors.TooLong i

-- if the call failed with `Memory`, then P holds
abbrev pub OnRewriteMemory : {X : Type 0} → Result X RewriteError → Type 0 → Type 0
OnRewriteMemory (Ok x) P = Unit {0}
OnRewriteMemory (Err (rewrite_errors.Fault at fault)) P = Unit {0}
OnRewriteMemory (Err (rewrite_errors.TooLong i)) P = Unit {0}
OnRewriteMemory (Err (rewrite_errors.Memory e)) P = P
