-- Return values of the functions, and what they leave in the caller's buffers.
use Rattle.std.specs.Prelude.{◌≡◌, ◌≢◌, ℕ, ℤ, ◌*◌, ◌<◌, ◌≤◌, List, ◌++◌, length, take, drop, Some, None, Result, Ok, Err}
use Rattle.netlink_packet_route.specs.declared.link.DecodeFault.{DecodeFault}
use Rattle.netlink_packet_route.specs.Frame.{pad, frame_fault}
use Rattle.netlink_packet_route.specs.Wire.{Wire, FirstFault}
use Rattle.netlink_packet_route.specs.Table.{Table, AttrValue, Gives, Canonical}
use Rattle.netlink_packet_route.specs.Rewritten.{IsUnfit, NeedsMemory}
use Rattle.netlink_packet_route.specs.declared.family.Family.{Family}
use Rattle.netlink_packet_route.specs.declared.link.RewriteError.{RewriteError}
use Rattle.netlink_packet_route.specs.declared.link.RewriteError.TheVariants as errors
use Rattle.netlink_packet_route.specs.Family.{family_number, table_of}
use Rattle.netlink_packet_route.specs.Rewrite.{StandsInFront, Rewrites, HasNoRoom}
use Rattle.netlink_packet_route.specs.Report.{Reports}
use Rattle.link_entries.specs.declared.entry.Entry.{Entry}
use Rattle.link_entries.specs.Flat.{Flat}
use Rattle.link_entries.specs.Finding.{Finds, FindsIn}
use Rattle.nlroute_ffi.specs.declared.refusal.Refusal.{Refusal}
use Rattle.nlroute_ffi.specs.declared.refusal.Refusal.TheVariants.{Fault, TooLong, Memory, NoRoom, NoFamily, Absent}
use Rattle.nlroute_ffi.specs.Numbers.{code_of}

-- the return value of a call with this result
abbrev pub AnswersWith : (Result ℕ Refusal → Type 0) → ℤ → Type 0
AnswersWith says answer = (result : Result ℕ Refusal) × says result × (answer ≡ code_of result)

-- the return value: as `says` specifies for the attribute set with this number; -5 if there is none
pub data AnswersBy (number : ℕ) (says : Family → Result ℕ Refusal → Type 0) (answer : ℤ) : Type 0 where
  Known : ((family : Family) × (number ≡ family_number family) × AnswersWith (says family) answer) → AnswersBy number says answer
  Unknown : ((family : Family) → number ≢ family_number family) → answer ≡ code_of (Err NoFamily) → AnswersBy number says answer

-- the same, as `says` specifies for the table of the attribute set
abbrev pub AnswersFor : ℕ → (Table → Result ℕ Refusal → Type 0) → ℤ → Type 0
AnswersFor number says answer = AnswersBy number (λ family. says (table_of family)) answer

-- ---- counting

-- s has a first decode error
abbrev pub HasFault : Table → List ℕ → Type 0
HasFault table s = (at : ℕ) × (fault : DecodeFault) × FirstFault (Gives table) s at fault

-- the number of values; or why there is none
abbrev pub CountAnswers : List ℕ → Table → Result ℕ Refusal → Type 0
CountAnswers s table (Ok n) = (vs : List AttrValue) × Wire (Gives table) s vs × (n ≡ length vs)
CountAnswers s table (Err Fault) = HasFault table s
CountAnswers s table (Err refusal) = ⊥

-- ---- entries

-- the number of entries of the list, which has at least two bytes for each; or why there is none
abbrev pub PlacesAnswers : List ℕ → Family → Result ℕ Refusal → Type 0
PlacesAnswers s family (Ok n) = (es : List Entry) × Flat (table_of family) s es × (n ≡ length es) × (2 * n ≤ length s)
PlacesAnswers s family (Err Fault) = HasFault (table_of family) s
PlacesAnswers s family (Err refusal) = ⊥

-- the entries of the list are in the first places, and the other places are unchanged; or why not. NoRoom: there are more
-- entries than places, and the places hold the first of them
abbrev pub ValuesAnswers : List ℕ → List Entry → List Entry → Family → Result ℕ Refusal → Type 0
ValuesAnswers s old new family (Ok n) = (es : List Entry) × Flat (table_of family) s es × (n ≡ length es) × (n ≤ length old) × (new ≡ es ++ drop n old)
ValuesAnswers s old new family (Err Fault) = HasFault (table_of family) s × (new ≡ old)
ValuesAnswers s old new family (Err NoRoom) = (es : List Entry) × Flat (table_of family) s es × (length old < length es) × (new ≡ take (length old) es)
ValuesAnswers s old new family (Err refusal) = ⊥

-- the entry of the last attribute of type k; or why there is none
abbrev pub FindAnswers : List ℕ → ℕ → Entry → Family → Result ℕ Refusal → Type 0
FindAnswers s k value family (Ok n) = (n ≡ 0) × Finds (table_of family) k s (Ok (Some value))
FindAnswers s k value family (Err Fault) = HasFault (table_of family) s
FindAnswers s k value family (Err Absent) = Finds (table_of family) k s (Ok None)
FindAnswers s k value family (Err refusal) = ⊥

-- the entry of the last element i of the last attribute of type k; or why there is none
abbrev pub FindInAnswers : List ℕ → ℕ → ℕ → Entry → Family → Result ℕ Refusal → Type 0
FindInAnswers s k i value family (Ok n) = (n ≡ 0) × FindsIn (table_of family) k i s (Ok (Some value))
FindInAnswers s k i value family (Err Fault) = HasFault (table_of family) s
FindInAnswers s k i value family (Err Absent) = FindsIn (table_of family) k i s (Ok None)
FindInAnswers s k i value family (Err refusal) = ⊥

-- ---- checking

-- s is canonical, as a list of the attribute set with this number
abbrev pub IsCanonicalFor : ℕ → List ℕ → Type 0
IsCanonicalFor number s = (family : Family) × (number ≡ family_number family) × Canonical (table_of family) s

-- ---- re-encoding

-- the error code for an error of re-encoding a list
abbrev pub refusal_of : RewriteError → Refusal
refusal_of (errors.Fault at fault) = Fault
refusal_of (errors.TooLong i) = TooLong
refusal_of (errors.Memory e) = Memory

-- the first n bytes of the buffer are the re-encoded list, the rest is unchanged; or why not
abbrev pub RewriteAnswers : List ℕ → List ℕ → List ℕ → Table → Result ℕ Refusal → Type 0
RewriteAnswers s old new table (Ok n) = Rewrites table s old new n
RewriteAnswers s old new table (Err Fault) = HasFault table s
RewriteAnswers s old new table (Err TooLong) = IsUnfit table s
RewriteAnswers s old new table (Err Memory) = frame_fault s ≡ None
RewriteAnswers s old new table (Err NoRoom) = HasNoRoom table s (length old)
RewriteAnswers s old new table (Err refusal) = ⊥

-- as RewriteAnswers, with two differences. NoRoom: the buffer is shorter than s, rounded up to a multiple of four.
-- Memory: only if some attribute that does not follow the first error has a type whose values are heap-allocated
abbrev pub StreamingAnswers : List ℕ → List ℕ → List ℕ → Table → Result ℕ Refusal → Type 0
StreamingAnswers s old new table (Ok n) = Rewrites table s old new n
StreamingAnswers s old new table (Err Fault) = HasFault table s
StreamingAnswers s old new table (Err TooLong) = IsUnfit table s
StreamingAnswers s old new table (Err Memory) = NeedsMemory table s
StreamingAnswers s old new table (Err NoRoom) = length old < pad (length s)
StreamingAnswers s old new table (Err refusal) = ⊥

-- ---- the report

-- the first n bytes of the buffer are the program's output for the input, and `status` is its exit status; or why not.
-- Memory: for every input, as each output is an allocated text before it is copied to the buffer
abbrev pub ReportAnswers : List ℕ → List ℕ → List ℕ → ℕ → Table → Result ℕ Refusal → Type 0
ReportAnswers text old new status table (Ok n) = (out : List ℕ) × Reports table text out status × StandsInFront old new out n
ReportAnswers text old new status table (Err Memory) = Unit {0}
ReportAnswers text old new status table (Err NoRoom) = (out : List ℕ) × (code : ℕ) × Reports table text out code × (length old < length out)
ReportAnswers text old new status table (Err refusal) = ⊥
