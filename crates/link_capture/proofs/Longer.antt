-- What is read of an input, if more bytes follow.
use Rattle.std.proofs.Common.{◌≢◌, ◌≤◌, ℕ, ◌+◌, false, List, [], ◌∷◌, ◌++◌, length, drop, Some, sym, ap, subst, ◌∙◌, arith, inl, inr, true≢false}
use Rattle.std.proofs.lemmas.List.{drop-append-le, drop_all}
use Rattle.std.proofs.lemmas.Bool.{cases_lt}
use Rattle.link_capture.specs.declared.error.InputError.{InputError}
use Rattle.link_capture.specs.declared.error.Size.TheVariants as sizes
use Rattle.link_capture.specs.declared.form.Form.{Form}
use Rattle.link_capture.specs.declared.form.Form.TheVariants as forms
use Rattle.link_capture.specs.Front.{size_of}
use Rattle.link_capture.specs.Meaning.{UnitMeaning, State}
use Rattle.link_capture.specs.Unit.{IsUnit, IsError, Short, Cut, Start, Whole, Follows, Leads, Reads, IsFinal}
use Rattle.link_capture.proofs.Nexts.{whole_unit, whole_wrong, start_wrong}
use Rattle.link_capture.proofs.UnitsOnce.{unit_bounded}

-- any bytes may follow
follows : (more : List ℕ) → Follows false more
follows more e = absurd (true≢false (sym e))

-- no unit is called captured bytes
not_captured : (form : Form) → size_of form ≢ sizes.Captured
not_captured (forms.Blocks order) e = absurd cc
not_captured form e = absurd cc

-- an error that is final stays
error_kept : (state : State) (s more : List ℕ) (error : InputError) → IsError state s error → IsFinal error → ((s ++ more) ≢ []) × IsError state (s ++ more) error
error_kept state s more error (Short front e) final = absurd (subst IsFinal e final)
error_kept state s more error (Cut n gap front short e) final = absurd (not_captured state.form (subst IsFinal e final))
error_kept state s more error (Start front) final = start_wrong state s false error front more (follows more)
error_kept state s more error (Whole n gap front whole taken) final = whole_wrong state s n gap front false error whole taken more (follows more)

-- a unit that something follows stays
unit_kept : (state : State) (s more : List ℕ) (meaning : UnitMeaning) (size : ℕ) (next : State) → IsUnit state s meaning size next → drop size s ≢ [] → IsUnit state (s ++ more) meaning size next
unit_kept state s more meaning size next u some =
    let due : u.n + u.gap ≤ length s = elim (cases_lt size (length s)) [
      | inl less ↦ omega (arith, less, u.all)
      | inr rest ↦ absurd (some (drop_all size s rest))
    ] in
    (whole_unit state s u.n u.gap u.front false size meaning next (inr due) u.whole u.all u.taken).2 more (follows more)

-- where something is left after units, something is there before them
some_before : (state : State) (at : ℕ) (s : List ℕ) (units : List UnitMeaning) (last : State) (end : ℕ) (left : List ℕ) → Leads state at s units last end left → left ≢ [] → s ≢ []
some_before state at s [] last end left (_, _, is) some e = some (is ∙ e)
some_before state at s (meaning ∷ units) last end left (next, (size, unit, leads)) some e = let b = unit_bounded state s meaning size next unit in omega (arith, b.0, b.1, ap length e)

-- units that something follows stay
leads_kept : (state : State) (at : ℕ) (s more : List ℕ) (units : List UnitMeaning) (last : State) (end : ℕ) (left : List ℕ) → Leads state at s units last end left → left ≢ [] → Leads state at (s ++ more) units last end (left ++ more)
leads_kept state at s more [] last end left (same, offset, is) some = (same, offset, ap (λ t. t ++ more) is)
leads_kept state at s more (meaning ∷ units) last end left (next, (size, unit, leads)) some = (
  next,
  (
    size,
    unit_kept state s more meaning size next unit (some_before next (at + size) (drop size s) units last end left leads some),
    subst (λ t. Leads next (at + size) t units last end (left ++ more)) (sym (drop-append-le size s more (unit_bounded state s meaning size next unit).1))
        (leads_kept next (at + size) (drop size s) more units last end left leads some),
  ),
)

-- a reading that ends in a final error is one of each longer input
pub reads_kept : (form : Form) (s more : List ℕ) (units : List UnitMeaning) (fault : ℕ × InputError) → Reads form s units (Some fault) → IsFinal fault.1 → Reads form (s ++ more) units (Some fault)
reads_kept form s more units fault r final =
    let kept = error_kept r.last r.left more fault.1 r.ends.2 final in
    record { last = r.last; end = r.end; left = r.left ++ more; leads = leads_kept _ 0 s more units r.last r.end r.left r.leads r.ends.0; ends = (kept.0, r.ends.1, kept.1) }
