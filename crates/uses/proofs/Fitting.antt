-- Values that fit, and the attribute at the start of a list.
use Rattle.std.proofs.Common.{◌≡◌, ℕ, Bool, true, false, cond, List, [], ◌∷◌, ◌++◌, length, take, drop, length-append, refl, sym, ap, subst, ◌∙◌, arith}
use Rattle.std.specs.Prelude.{nat_lt, Some, None, Result, Ok, Err}
use Rattle.std.specs.List.{AllByRecursion, AllZip}
use Rattle.std.specs.Global.{Vec}
use Rattle.std.proofs.lemmas.List.{take_at, take-append-drop}
use Rattle.std.proofs.lemmas.Bool.{cond-false, ltb-false, le-ltb}
use Rattle.netlink_packet_route.proofs.Rewritten.{none_unfit, begins}
use Rattle.netlink_packet_route.specs.Answers.{ListFaultUnless, OnListMemory, OnRewriteMemory}
use Rattle.netlink_packet_route.specs.Frame.{Frame, AreFrames, IsFrame, IsComplete, bytes_of_frames, frame_fault}
use Rattle.netlink_packet_route.specs.Number.{number}
use Rattle.netlink_packet_route.specs.Rewrite.{RewriteAnswers, Converges}
use Rattle.netlink_packet_route.specs.Table.{Table, AttrValue, Decodes, Fits, Gives, Rewriting, written_list}
use Rattle.netlink_packet_route.specs.Wire.{Reading, FrameGives, Wire, Reads, FirstFault}
use Rattle.netlink_packet_route.specs.declared.link.Cause.{Cause}
use Rattle.netlink_packet_route.specs.declared.link.DecodeFault.{DecodeFault}
use Rattle.netlink_packet_route.specs.declared.link.ListError.{ListError}
use Rattle.netlink_packet_route.specs.declared.link.ListError.TheVariants as list_errors
use Rattle.netlink_packet_route.specs.declared.link.RewriteError.{RewriteError}
use Rattle.netlink_packet_route.specs.declared.link.RewriteError.TheVariants as errors

-- a result is not both
apart : {A E : Type 0} (a : A) (e : E) (r : Result A E) → r ≡ Ok a → r ≡ Err e → ⊥
apart a e r p q = cc

-- a result is one value
one_value : {A E : Type 0} (a b : A) (r : Result A E) → r ≡ Ok a → r ≡ Ok b → a ≡ b
one_value a b r p q = cc

-- strings read in one way only
abbrev pub OneReading : Type 0
OneReading = (table : Table) (s : List ℕ) (q r : Result (List AttrValue) (ℕ × DecodeFault))
    → Reads (Gives table) s q → Reads (Gives table) s r → q ≡ r

-- a string that converges is refused for want of memory alone
pub converged : (table : Table) (s t : List ℕ) (e : RewriteError)
    → OneReading → Converges table t → RewriteAnswers table t (Err e) → RewriteAnswers table s (Err e)
converged table s t (errors.Memory e) only h a = tt
converged table s t (errors.Fault at fault) only h a =
    absurd (apart h.is.values (at, fault) (Ok h.is.values) refl (only table t (Ok h.is.values) (Err (at, fault)) h.is.wire a))
converged table s t (errors.TooLong i) only h a =
    let same : h.is.values ≡ a.0 = one_value h.is.values a.0 (Ok h.is.values) refl (only table t (Ok h.is.values) (Ok a.0) h.is.wire a.1) in
    let fit : AllByRecursion Fits a.0 = subst (AllByRecursion Fits) same h.is.fit in
    absurd (none_unfit a.0 i fit a.2)

-- ---- when memory is needed

none_starts : frame_fault [] ≡ None → ⊥
none_starts h = cc

starts_by : (table : Table) (s t : List ℕ) (vs : List AttrValue) → Wire (Gives table) s vs → t ≡ written_list vs → frame_fault t ≡ None → frame_fault s ≡ None
starts_by table s t [] w is h = absurd (none_starts (subst (λ x. frame_fault x ≡ None) is h))
starts_by table s t (v ∷ vs) w is h = begins (Gives table) s (v ∷ vs) w (omega arith)

-- a re-encoded list starts with an attribute only if its input does
pub starts : (table : Table) (s t : List ℕ) (e : RewriteError) → Rewriting table s t
    → OnRewriteMemory {X = Vec ℕ} (Err e) (frame_fault t ≡ None) → OnRewriteMemory {X = Vec ℕ} (Err e) (frame_fault s ≡ None)
starts table s t (errors.Memory e) r h = starts_by table s t r.values r.wire r.string h
starts table s t (errors.Fault at fault) r h = tt
starts table s t (errors.TooLong i) r h = tt

-- of the three tests of a header, none holds
no_test : (a b c : Bool) (x y z : Cause) → cond a (Some x) (cond b (Some y) (cond c (Some z) None)) ≡ None → (a ≡ false) × (b ≡ false) × (c ≡ false)
no_test true b c x y z e = absurd cc
no_test false true c x y z e = absurd cc
no_test false false true x y z e = absurd cc
no_test false false false x y z e = (refl, refl, refl)

-- bytes that start with an attribute, and others after them
longer : (a b : List ℕ) → frame_fault a ≡ None → frame_fault (a ++ b) ≡ None
longer [] b e = absurd cc
longer (x ∷ []) b e = absurd cc
longer (x ∷ y ∷ r) b e =
    let s = x ∷ y ∷ r in
    let t = s ++ b in
    let n = number (take 2 s) in
    let tests = no_test (nat_lt (length s) 4) (nat_lt n 4) (nat_lt (length s) n) _ _ _ e in
    let size = length-append s b in
    cond-false (nat_lt (length t) 4) _ _ (le-ltb (length t) 4 (omega (arith, size, ltb-false (length s) 4 tests.0)))
    ∙ cond-false (nat_lt n 4) _ _ tests.1
    ∙ cond-false (nat_lt (length t) n) _ _ (le-ltb (length t) n (omega (arith, size, ltb-false (length s) n tests.2)))

is_frame : (x : Frame) → IsComplete x → IsFrame x
is_frame x c = record { kind_field = c.kind_field; payload = c.payload; padding = omega (arith, c.padding) }

are_frames : (xs : List Frame) → AllByRecursion IsComplete xs → AreFrames xs
are_frames [] c = tt
are_frames (x ∷ []) c = is_frame x c.0
are_frames (x ∷ y ∷ xs) c = (c.0, are_frames (y ∷ xs) c.1)

values_of : {V : Type 0} (gives : Reading V) (xs : List Frame) → AllByRecursion (λ x. (v : V) × FrameGives gives x (Ok v)) xs
    → (vs : List V) × AllZip (λ x v. FrameGives gives x (Ok v)) xs vs
values_of gives [] each = ([], tt)
values_of gives (x ∷ xs) each = let rest = values_of gives xs each.1 in (each.0.0 ∷ rest.0, (each.0.1, rest.1))

-- what precedes the first error decodes
front_decodes : (table : Table) (s : List ℕ) (at : ℕ) (fault : DecodeFault) → FirstFault (Gives table) s at fault → Decodes table (take at s)
front_decodes table s at fault f =
    let values = values_of (Gives table) f.front f.values in
    let string : take at s ≡ bytes_of_frames f.front = ap (take at) f.string ∙ take_at (bytes_of_frames f.front) f.rest at (sym f.offset) in
    record {
      values = values.0;
      wire = record { frames = f.front; string = record { frames = are_frames f.front f.complete; string = string }; values = values.1 };
    }

-- so parsing it can only fail if an allocation fails, and then the list starts with an attribute
pub front_fails : {X : Type 0} (table : Table) (s front : List ℕ) (at : ℕ) (fault : DecodeFault) (r : Result X ListError) (e : ListError) → r ≡ Err e → FirstFault (Gives table) s at fault → front ≡ take at s
    → ListFaultUnless r (Decodes table front) → OnListMemory r (frame_fault front ≡ None) → frame_fault s ≡ None
front_fails table s front at fault (Ok x) e failed first is reads h = absurd cc
front_fails table s front at fault (Err (list_errors.Fault i f)) e failed first is reads h = absurd (reads (subst (Decodes table) (sym is) (front_decodes table s at fault first)))
front_fails table s front at fault (Err (list_errors.Memory m)) e failed first is reads h =
    ap frame_fault (sym (take-append-drop at s)) ∙ longer (take at s) (drop at s) (subst (λ x. frame_fault x ≡ None) is h)
