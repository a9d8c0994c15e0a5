-- What holds of a rewriting in a lawful table.
use Rattle.std.proofs.Common.{◌≡◌, ◌↔◌, ℕ, ◌<◌, ◌≤◌, List, [], ◌∷◌, ◌++◌, length, take, drop, map, Option, Some, None, Result, Ok, Err, refl, sym, ap, subst, ◌∙◌, arith}
use Rattle.std.specs.List.{AllZip, AllByRecursion}
use Rattle.std.proofs.lemmas.List.{length-append, take_at}
use Rattle.link_base.specs.Number.{IsBytes}
use Rattle.link_base.specs.Frame.{Frame, AreFrames, frame_bytes, pad, bytes_of_frames, frame_fault, max_payload}
use Rattle.link_base.specs.Wire.{Reading, FrameGives, Wire}
use Rattle.link_base.specs.Table.{Table, AttrValue, Gives, Fits, Decodes, Canonical, Rewriting, cut, written_payload, written_list}
use Rattle.link_base.specs.Lawful.{IsLawful}
use Rattle.link_base.specs.Rewritten.{AnswersBy, RewrittenInto, IsUnfit}
use Rattle.link_base.specs.Answers.{IsFirstUnfit, WriteAnswers, OnRewriteMemory, of_writing}
use Rattle.link_base.specs.declared.wire.fault.WriteError.{WriteError}
use Rattle.link_base.specs.declared.wire.fault.WriteError.TheVariants as write_errors
use Rattle.link_base.specs.declared.wire.fault.RewriteError.{RewriteError}
use Rattle.link_base.specs.declared.wire.fault.RewriteError.TheVariants as errors
use Rattle.link_base.proofs.Cuts.{AreFrames-head}
use Rattle.link_base.proofs.FrameBytes.{frame_fault-frame, length-frame_bytes}
use Rattle.link_base.proofs.Readings.{one_values, not_both}
use Rattle.link_base.proofs.Rewritings.{fixed_iff_canonical, never_longer, reads_back, second, second_canonical, third, one_rewriting, canonical_reads, canonical_stays}
use Rattle.netlink_packet_route.specs.Rewrite.{RewriteFaultUnless, TooLongIff, SucceedsIf, WritesValues, ReadsBack, Converges, IsRewritten, Rewrites, WritesOrLacksRoom, KeepsOrLacksRoom}

-- a string that reads as some value begins with a frame
begins_by : {V : Type 0} (gives : Reading V) (xs : List Frame) (vs : List V) → AreFrames xs → AllZip (λ x v. FrameGives gives x (Ok v)) xs vs → 0 < length vs → frame_fault (bytes_of_frames xs) ≡ None
begins_by gives xs [] are read some = absurd (omega arith)
begins_by gives [] (v ∷ vs) are read some = absurd read
begins_by gives (x ∷ xs) (v ∷ vs) are read some = frame_fault-frame x (bytes_of_frames xs) (AreFrames-head x xs are)

pub begins : {V : Type 0} (gives : Reading V) (s : List ℕ) (vs : List V) → Wire gives s vs → 0 < length vs → frame_fault s ≡ None
begins gives s vs w some = ap frame_fault w.string.string ∙ begins_by gives w.frames vs w.string.frames w.values some

-- values that were read and written are a rewriting
pub rewriting : {table : Table} {s t : List ℕ} {vs : List AttrValue} → WritesValues table s vs t → Rewriting table s t
rewriting {vs} w = record {
  values = vs;
  wire = w.wire;
  fit = w.fit;
  string = w.written;
}

-- what stands in front of a buffer is the rewriting
pub front_rewriting : {table : Table} {s old new : List ℕ} {n : ℕ} → RewrittenInto table s old new n → Rewriting table s (take n new)
front_rewriting {table} {s} {old} {new} {n} r = subst (Rewriting table s) (sym (ap (take n) r.written ∙ take_at r.out (drop (length r.out) old) n (sym r.len))) r.is

module _ {table : Table} (law : IsLawful table) (s : List ℕ) (hs : IsBytes s) (t : List ℕ) (r : Rewriting table s t) where
  pub same_iff : (t ≡ s) ↔ Canonical table s
  same_iff = fixed_iff_canonical law.reading law.holding law.writing s t hs r

  pub no_longer : length t ≤ pad (length s)
  no_longer = never_longer law.reading law.holding law.writing s t hs r

  pub back : ReadsBack table s t
  back vs w = subst (λ us. Wire (Gives table) t (map cut us)) (one_values law.reading s r.values vs r.wire w) (reads_back law.reading law.holding law.writing s t hs r)

  pub converges : Converges table t
  converges =
      let own = third law.reading law.holding law.writing s t hs r in
      record {
        second = written_list (map cut r.values);
        is = second law.reading law.holding law.writing s t hs r;
        canonical = second_canonical law.reading law.holding law.writing s t hs r;
        own = own;
        only = λ w q. one_rewriting law.reading law.holding law.writing (written_list (map cut r.values)) w (written_list (map cut r.values)) q own;
      }

-- ---- which error, and when

-- what holds of all elements holds of one in the middle
middle : {X : Type 0} (P : X → Type 0) (before : List X) (x : X) (after : List X) → AllByRecursion P (before ++ x ∷ after) → P x
middle P [] x after h = h.0
middle P (y ∷ before) x after h = middle P before x after h.1

-- where all values fit, none is the first that does not
pub none_unfit : (vs : List AttrValue) (i : ℕ) → AllByRecursion Fits vs → IsFirstUnfit vs i → ⊥
none_unfit vs i fit u =
    let fits : length (written_payload u.value) ≤ max_payload = middle Fits u.before u.value u.after (subst (AllByRecursion Fits) u.values fit) in
    omega (arith, u.unfit)

-- the values of a string, which all fit
pub record HasFitting (table : Table) (s : List ℕ) : Type 0 where
  pub values : List AttrValue
  pub wire : Wire (Gives table) s values
  pub fit : AllByRecursion Fits values

pub fitting : {table : Table} {s t : List ℕ} → Rewriting table s t → HasFitting table s
fitting r = record { values = r.values; wire = r.wire; fit = r.fit }

-- Which error there is does not depend on what a call returns if it succeeds, if that implies that the values all fit.
module _ {X : Type 0} {table : Table} (law : IsLawful table) (s : List ℕ) (P : X → Type 0) (has : (x : X) → P x → HasFitting table s) where
  pub fault_unless : (r : Result X RewriteError) → AnswersBy table s P r → RewriteFaultUnless r (Decodes table s)
  fault_unless (Ok x) h = let f = has x h in record { values = f.values; wire = f.wire }
  fault_unless (Err (errors.Fault at fault)) first = λ d. not_both law.reading s d.values at fault d.wire first
  fault_unless (Err (errors.TooLong i)) u = record { values = u.0; wire = u.1 }
  fault_unless (Err (errors.Memory e)) any = tt

  pub too_long_iff : (r : Result X RewriteError) → AnswersBy table s P r → TooLongIff r (IsUnfit table s)
  too_long_iff (Ok x) h = let f = has x h in λ u. none_unfit u.is.0 u.first (subst (AllByRecursion Fits) (one_values law.reading s f.values u.is.0 f.wire u.is.1) f.fit) u.is.2
  too_long_iff (Err (errors.Fault at fault)) first = λ u. not_both law.reading s u.is.0 at fault u.is.1 first
  too_long_iff (Err (errors.TooLong i)) u = record { first = i; is = u }
  too_long_iff (Err (errors.Memory e)) any = tt

  -- a canonical string is not rejected
  pub succeeds_if : IsBytes s → (Q : X → Type 0) → ((x : X) → P x → Canonical table s → Q x) → (r : Result X RewriteError) → AnswersBy table s P r → SucceedsIf (Canonical table s) Q r
  succeeds_if hs Q stays (Ok x) h = stays x h
  succeeds_if hs Q stays (Err (errors.Fault at fault)) first = λ c.
      let read = canonical_reads law.reading law.holding law.writing s hs c in
      not_both law.reading s read.0 at fault read.1 first
  succeeds_if hs Q stays (Err (errors.TooLong i)) u = λ c. none_unfit u.0 i (canonical_stays law.reading law.holding law.writing s u.0 hs c u.1).1 u.2
  succeeds_if hs Q stays (Err (errors.Memory e)) any = tt

-- ---- what was rewritten

-- a rewriting has the properties that every rewriting has
pub is_rewritten : {table : Table} (law : IsLawful table) (s : List ℕ) (hs : IsBytes s) (t : List ℕ) → Rewriting table s t → IsRewritten table s t
is_rewritten law s hs t r = record {
  rewriting = r;
  same = same_iff law s hs t r;
  no_longer = no_longer law s hs t r;
  back = back law s hs t r;
  converges = converges law s hs t r;
}

-- what is written for values that were read and all fit
pub rewritten : {table : Table} (law : IsLawful table) (s : List ℕ) (hs : IsBytes s) (vs : List AttrValue) → Wire (Gives table) s vs → AllByRecursion Fits vs → IsRewritten table s (written_list vs)
rewritten law s hs vs w fit = is_rewritten law s hs (written_list vs) (rewriting (record { wire = w; fit = fit; written = refl }))

-- what was written one attribute at a time, into a buffer that is long enough
pub streamed : {table : Table} (law : IsLawful table) (s : List ℕ) (hs : IsBytes s) (old new : List ℕ) → pad (length s) ≤ length old → (r : Result ℕ RewriteError) → AnswersBy table s (RewrittenInto table s old new) r
    → AnswersBy table s (Rewrites table s old new) r
streamed law s hs old new long (Ok n) w =
    let is = is_rewritten law s hs w.out w.is in
    record {
      text = w.out;
      is = is;
      put = record { count = w.len; room = omega (arith, is.no_longer, long); written = w.written };
    }
streamed law s hs old new long (Err (errors.Fault at fault)) first = first
streamed law s hs old new long (Err (errors.TooLong i)) u = u
streamed law s hs old new long (Err (errors.Memory e)) any = any

-- what was written into a buffer that may be too short
module _ (table : Table) (s old new : List ℕ) where
  pub fitting_in : (m : Option ℕ) → WritesOrLacksRoom table s old new m → HasFitting table s
  fitting_in (Some n) w = fitting w.is.rewriting
  fitting_in None w = fitting w.is.rewriting

  pub kept_in : (m : Option ℕ) → WritesOrLacksRoom table s old new m → Canonical table s → KeepsOrLacksRoom s old new m
  kept_in (Some n) w canonical = ap (take n) w.put.written ∙ take_at w.text (drop (length w.text) old) n (sym w.put.count) ∙ w.is.same.1 canonical
  kept_in None w canonical = omega (arith, w.more, ap length (w.is.same.1 canonical))

-- an allocation failed while values were written, of which there is at least one
pub memory_of_writing : {X : Type 0} (vs : List AttrValue) (r : Result X RewriteError) (e : WriteError) (P : Type 0) → r ≡ Err (of_writing e) → WriteAnswers vs (Err e) → (0 < length vs → P) → OnRewriteMemory r P
memory_of_writing vs r (write_errors.TooLong i) P is h some = rw is tt
memory_of_writing vs r (write_errors.Memory e) P is h some = rw is (some h.1)

-- a string has no more values than bytes
no_more : {V : Type 0} (gives : Reading V) (xs : List Frame) (vs : List V) → AllZip (λ x v. FrameGives gives x (Ok v)) xs vs → length vs ≤ length (bytes_of_frames xs)
no_more gives [] [] read = omega arith
no_more gives [] (v ∷ vs) read = absurd read
no_more gives (x ∷ xs) [] read = absurd read
no_more gives (x ∷ xs) (v ∷ vs) read = omega (arith, no_more gives xs vs read.1, length-append (frame_bytes x) (bytes_of_frames xs), length-frame_bytes x)

pub no_more_values : {V : Type 0} (gives : Reading V) (s : List ℕ) (vs : List V) → Wire gives s vs → length vs ≤ length s
no_more_values gives s vs w = omega (arith, ap length w.string.string, no_more gives w.frames vs w.values)
