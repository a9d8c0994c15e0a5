-- The first bytes of an input tell its form.
use Rattle.std.proofs.Common.{◌≡◌, ◌<◌, ◌≤◌, ◌⊎◌, ℕ, Bool, true, false, if◌then◌else◌, inl, inr, List, [], ◌∷◌, ◌++◌, length, Option, Some, None, Result, Ok, Err, IfOk, OnOk, refl, sym, ap, subst, ◌∙◌, arith, append_assoc}
use Rattle.std.proofs.lemmas.List.{append-nil}
use Rattle.std.specs.Result.{result_map_both}
use Rattle.std.specs.Io.KnownBytes.{Appends, Consumes, Keeps, IsAtEnd}
use Rattle.std.proofs.KnownBytes.{Appends-nil, Appends-trans, Appends-kept, Consumes-trans}
use Rattle.link_capture.specs.declared.form.Form.{Form}
use Rattle.link_capture.specs.declared.other_format.OtherFormat.{OtherFormat}
use Rattle.link_capture.specs.Form.{needs_more}
use Rattle.link_capture.proofs.Forms.{form_kept}
use Rattle.program.specs.Printing.{FlushesOrFails}
use Rattle.show_lines.specs.Show.{ShowsAll}
use Rattle.show_lines.specs.Run as lines
use Rattle.show_lines.specs.Pieces.{IfWritten}
use Rattle.show_lines.specs.declared.running.Stop.{Stop}
use Rattle.show_lines.specs.declared.running.Stop.TheVariants as stops
use Rattle.show_captures.specs.Run.{RunsCapture, RunsFrom, Runs, RunsFor, ShowsForm, ShowsFile, ShowsInput, MayFollow, input_form, status_of}
use Rattle.show_captures.specs.Shower.{InputShower}

-- what follows bytes that tell the form does not change it
form_known : (raw : Bool) (first rest : List ℕ) → needs_more first ≡ false → input_form raw (first ++ rest) ≡ input_form raw first
form_known true first rest h = refl
form_known false first rest h = form_kept first rest h

-- nothing more was read
empty_left : (t : Option (List ℕ)) (text : List ℕ) → Consumes (Some []) t text → text ≡ []
empty_left None text h = absurd h
empty_left (Some left) [] h = refl
empty_left (Some left) (b ∷ text) h = absurd (omega (arith, ap length h))

-- nothing follows all bytes
all_of : (s : Option (List ℕ)) (first more : List ℕ) → IsAtEnd s → MayFollow s more → first ++ more ≡ first
all_of s first more end may = ap (λ m. first ++ m) (may end) ∙ append-nil first

-- what follows does not change the form that is known, by bytes that are all or that tell it
same_form : (raw is_last : Bool) (first more : List ℕ) (s : Option (List ℕ)) → (is_last ≡ true → IsAtEnd s) → (is_last ≡ false → needs_more first ≡ false) → MayFollow s more → input_form raw (first ++ more) ≡ input_form raw first
same_form raw true first more s ends tells may = ap (input_form raw) (all_of s first more (ends refl) may)
same_form raw false first more s ends tells may = form_known raw first more (tells refl)

small_status : (file : Result (Option Form) OtherFormat) (whole : Bool) → status_of file whole < 3
small_status (Ok form) true = omega arith
small_status (Ok form) false = omega arith
small_status (Err format) whole = omega arith

module _ {shower : InputShower} where
  pub from_capture : (form : Form) (first : List ℕ) (r s w v : Option (List ℕ)) (whole : Bool) → RunsCapture shower.units form first r s w v whole → RunsFrom shower (Some form) first r s w v whole
  from_capture form first r s w v whole h =
      record { text = h.text; out = h.out; read = h.read; shows = h.shows; written = h.written }

  pub from_lines : (first : List ℕ) (r s w v : Option (List ℕ)) (whole : Bool) → lines.Runs shower.lines first r s w v whole → RunsFrom shower None first r s w v whole
  from_lines first r s w v whole h = record {
    text = h.text;
    out = h.out;
    read = h.read;
    shows = λ more may. subst (λ l. ShowsAll shower.lines (first ++ l) h.out whole) (sym (all_of s h.text more h.end may)) h.shown;
    written = h.written;
  }

  module _ (raw : Bool) (form : Option Form) (first : List ℕ) (r s t w v u : Option (List ℕ)) (whole : Bool) (is : input_form raw first ≡ Ok form) where
    -- the first bytes are not all
    pub runs_on : Consumes r s first → Keeps w v → needs_more first ≡ false → RunsFrom shower form first s t v u whole → RunsFor shower raw r t w u (if whole then 0 else 1)
    runs_on read keeps tells h =
        let run : Runs shower raw r t w u whole = record {
          text = first ++ h.text;
          out = h.out;
          read = Consumes-trans r s t first h.text read h.read;
          shows = λ more may. subst (λ l. ShowsInput shower raw l h.out whole) (sym (append_assoc first h.text more))
              (subst (λ f. ShowsFile shower f (first ++ (h.text ++ more)) h.out whole) (sym (form_known raw first (h.text ++ more) tells ∙ is)) (h.shows more may));
          written = Appends-trans w v u [] h.out (Appends-kept w w v [] (Appends-nil w) keeps) h.written;
        } in
        (whole, (run, sym (ap (λ f. status_of f whole) (form_known raw first h.text tells ∙ is))))

    -- the first bytes are all
    pub runs_out : Consumes r s first → IsAtEnd s → Keeps w v → RunsFrom shower form first (Some []) t v u whole → RunsFor shower raw r s w u (if whole then 0 else 1)
    runs_out read end keeps h =
        let run : Runs shower raw r s w u whole = record {
          text = first;
          out = h.out;
          read = read;
          shows = λ more may. subst (λ l. ShowsInput shower raw l h.out whole) (sym (all_of s first more end may))
              (subst (λ f. ShowsFile shower f first h.out whole) (sym is) (subst (λ l. ShowsForm shower form l h.out whole) nothing (h.shows [] (λ e. refl))));
          written = Appends-trans w v u [] h.out (Appends-kept w w v [] (Appends-nil w) keeps) h.written;
        } in
        (whole, (run, sym (ap (λ f. status_of f whole) is)))
      where
        nothing : first ++ (h.text ++ []) ≡ first
        nothing = ap (λ l. first ++ (l ++ [])) (empty_left t h.text h.read) ∙ append-nil first

  -- the first bytes tell another format, and may be all
  pub runs_other : (raw is_last : Bool) (format : OtherFormat) (first : List ℕ) (r s w v u : Option (List ℕ)) → input_form raw first ≡ Err format → Consumes r s first → (is_last ≡ true → IsAtEnd s) → (is_last ≡ false → needs_more first ≡ false) → Keeps w v → Appends v u (shower.units.formats format)
      → RunsFor shower raw r s w u 2
  runs_other raw is_last format first r s w v u is read ends tells keeps written =
      let out = shower.units.formats format in
      let run : Runs shower raw r s w u false = record {
        text = first;
        out = out;
        read = read;
        shows = λ more may. subst (λ f. ShowsFile shower f (first ++ more) out false) (sym (same_form raw is_last first more s ends tells may ∙ is)) (refl, refl);
        written = Appends-trans w v u [] out (Appends-kept w w v [] (Appends-nil w) keeps) written;
      } in
      (false, (run, sym (ap (λ f. status_of f false) is)))

  -- the buffer is written, and the result is the status
  pub runs_for : (raw : Bool) (r t w v u : Option (List ℕ)) (status result : ℕ) (failed : Bool) → RunsFor shower raw r t w v status → FlushesOrFails v u status result failed → result < 3 → RunsFor shower raw r t w u result
  runs_for raw r t w v u status result failed (whole, (h, e)) (inl (is, keeps)) small =
      let run : Runs shower raw r t w u whole = record { text = h.text; out = h.out; read = h.read; shows = h.shows; written = Appends-kept w v u h.out h.written keeps } in (whole, (run, is ∙ e))
  runs_for raw r t w v u status result failed h (inr fails) small = absurd (omega (arith, fails.0, small))

  -- a status of 3 or more is that of a failed write
  pub fails_to_flush : (raw : Bool) (r t w v u : Option (List ℕ)) (status result : ℕ) (failed : Bool) → RunsFor shower raw r t w v status → FlushesOrFails v u status result failed → 3 ≤ result → (result ≡ 5) × (failed ≡ true)
  fails_to_flush raw r t w v u status result failed (whole, (h, e)) (inl (is, keeps)) big = absurd (omega (arith, big, is, e, small_status (input_form raw h.text) whole))
  fails_to_flush raw r t w v u status result failed h (inr fails) big = fails

-- ---- the exit status in place of what a run returns

pub status_ok : {X : Type 0} (f : X → ℕ) (P : X → Type 0) (Q : ℕ → Type 0) (r : Result X Stop) (s : Result ℕ Stop) → s ≡ result_map_both f (λ stop. stop) r → ((x : X) → P x → Q (f x)) → IfOk r P → IfOk s Q
status_ok f P Q (Ok x) s e g h = subst (λ a. IfOk a Q) (sym e) (g x h)
status_ok f P Q (Err stop) s e g h = subst (λ a. IfOk a Q) (sym e) tt

pub status_other : {X : Type 0} (n : ℕ) (P : Type 0) (Q : ℕ → Type 0) (r : Result X Stop) (s : Result ℕ Stop) → s ≡ result_map_both (λ _. n) (λ stop. stop) r → (P → Q n) → OnOk r P → IfOk s Q
status_other n P Q (Ok x) s e g h = subst (λ a. IfOk a Q) (sym e) (g h)
status_other n P Q (Err stop) s e g h = subst (λ a. IfOk a Q) (sym e) tt

pub status_written : {X : Type 0} (f : X → ℕ) (P Q : Type 0) (r : Result X Stop) (s : Result ℕ Stop) → s ≡ result_map_both f (λ stop. stop) r → (P → Q) → IfWritten r P → IfWritten s Q
status_written f P Q (Ok x) s e g h = subst (λ a. IfWritten a Q) (sym e) (g h)
status_written f P Q (Err stops.Memory) s e g h = subst (λ a. IfWritten a Q) (sym e) (g h)
status_written f P Q (Err stops.Reader) s e g h = subst (λ a. IfWritten a Q) (sym e) (g h)
status_written f P Q (Err stops.Writer) s e g h = subst (λ a. IfWritten a Q) (sym e) tt
