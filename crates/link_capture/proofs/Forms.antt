-- The first bytes of a file tell its form.
use Rattle.std.proofs.Common.{◌≡◌, ◌≢◌, Bool, true, false, true≢false, ◌&&◌, ◌||◌, ℕ, List, ◌++◌, Option, Some, None, Result, Ok, Err, refl, sym, ap, ap₂, subst, ◌∙◌, ⊎_elim, if◌then◌else◌}
use Rattle.std.proofs.lemmas.Bool.{and_parts, cases_Bool, or_cases, or_parts}
use Rattle.link_capture.specs.declared.form.Form.{Form}
use Rattle.link_capture.specs.declared.other_format.OtherFormat.{OtherFormat}
use Rattle.link_capture.specs.declared.other_format.OtherFormat.TheVariants.{Messages}
use Rattle.link_capture.specs.Form.{magics, form_by_magic, form_by, form_of, form_of_others, begins_magic, is_open, needs_more}
use Rattle.link_capture.specs.Messages.{is_stream, begins_stream}
use Rattle.link_capture.proofs.Magics.{same_known}
use Rattle.link_capture.proofs.Magics as magic
use Rattle.link_capture.proofs.Streams.{same_stream, begun_stream}

-- what bytes are that start with no magic number
abbrev lines_unless : Bool → Result (Option Form) OtherFormat
lines_unless stream = if stream then Err Messages else Ok None

-- what a magic number tells stays, and bytes without one stay what they are
same_form : (file : Result (Option Form) OtherFormat) (s more : List ℕ) → (is_open file && begins_stream s) ≡ false → form_by file (s ++ more) ≡ form_by file s
same_form (Ok None) s more h = ap lines_unless (same_stream s more h)
same_form (Ok (Some form)) s more h = refl
same_form (Err format) s more h = refl

-- what follows does not change the form that is known
pub form_kept : (s more : List ℕ) → needs_more s ≡ false → form_of (s ++ more) ≡ form_of s
form_kept s more h =
    let parts = or_parts (begins_magic s) (is_open (form_by_magic magics s) && begins_stream s) h in
    ap (λ file. form_by file (s ++ more)) (same_known s more parts.0) ∙ same_form (form_by_magic magics s) s more parts.1

-- they tell nothing, and with what follows they may
abbrev IsBegun : List ℕ → Type 0
IsBegun s = (form_of s ≡ Ok None) × ((more : List ℕ) × (form_of (s ++ more) ≢ Ok None))

opened : (file : Result (Option Form) OtherFormat) → is_open file ≡ true → file ≡ Ok None
opened (Ok None) h = refl
opened (Ok (Some form)) h = absurd (true≢false (sym h))
opened (Err format) h = absurd (true≢false (sym h))

known_form : (file : Result (Option Form) OtherFormat) (s : List ℕ) → file ≢ Ok None → form_by file s ≢ Ok None
known_form (Ok None) s h e = h refl
known_form (Ok (Some form)) s h e = h e
known_form (Err format) s h e = h e

is_lines : (stream : Bool) → stream ≡ false → lines_unless stream ≡ Ok None
is_lines stream e = ap lines_unless e

is_known : (file : Result (Option Form) OtherFormat) → file ≡ Err Messages → file ≢ Ok None
is_known file is e = true≢false (ap is_open (sym e ∙ is))

-- bytes that begin a magic number, or a stream, tell nothing yet
pub begun : (s : List ℕ) → needs_more s ≡ true → IsBegun s
begun s h = ⊎_elim by_magic by_stream (or_cases (begins_magic s) (is_open (form_by_magic magics s) && begins_stream s) h)
  where
    by_magic : begins_magic s ≡ true → IsBegun s
    by_magic h =
        let (none, lines, (more, known)) = magic.begun s h in (ap (λ file. form_by file s) none ∙ is_lines (is_stream s) lines, (more, known_form (form_by_magic magics (s ++ more)) (s ++ more) known))

    by_stream : (is_open (form_by_magic magics s) && begins_stream s) ≡ true → IsBegun s
    by_stream h =
        let parts = and_parts (is_open (form_by_magic magics s)) (begins_stream s) h in
        let none = opened (form_by_magic magics s) parts.0 in
        let (lines, (more, stream)) = begun_stream s parts.1 in
        ⊎_elim
        (λ begins. by_magic begins)
        (λ last. (ap (λ file. form_by file s) none ∙ is_lines (is_stream s) lines, (more, is_known (form_of (s ++ more)) (ap (λ file. form_by file (s ++ more)) (same_known s more last ∙ none) ∙ ap lines_unless stream))))
        (cases_Bool (begins_magic s))
