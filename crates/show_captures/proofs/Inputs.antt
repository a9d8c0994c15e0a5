-- An input that was read in pieces.
use Rattle.std.proofs.Common.{◌≡◌, ℕ, Bool, true, false, ◌&&◌, List, [], ◌++◌, Option, sym, subst, ◌∙◌, append_assoc}
use Rattle.std.specs.Io.KnownBytes.{Appends, Consumes, Keeps, IsAtEnd}
use Rattle.std.proofs.KnownBytes.{Appends-nil, Appends-trans, Appends-kept, Consumes-nil, Consumes-trans}
use Rattle.std.proofs.lemmas.List.{append-nil}
use Rattle.link_capture.specs.declared.form.Form.{Form}
use Rattle.link_capture.specs.Unit.{Leads}
use Rattle.show_captures.specs.declared.place.Place.{Place}
use Rattle.show_captures.specs.Event.{ShowsCapture}
use Rattle.show_captures.specs.Progress.{Passes, Finishes, ReadsOn, start_of}
use Rattle.show_captures.specs.Run.{RunsCapture}
use Rattle.show_captures.specs.Shower.{UnitShower}
use Rattle.show_captures.proofs.Passing.{passes_none, passes_both, passes_longer, passes_last, finishes_both}

-- what was read, and `first` before it, has passed, but for what is held
pub record Went (shower : UnitShower) (form : Form) (first held : List ℕ) (place : Place) (r s w v : Option (List ℕ)) (whole : Bool) : Type 0 where
  pub text : List ℕ
  pub out : List ℕ
  pub read : Consumes r s text
  pub passes : Passes shower false (start_of form) place (first ++ text) held out whole
  pub written : Appends w v out

module _ {shower : UnitShower} {form : Form} where
  -- nothing is read after `first`
  pub went_none : (first held : List ℕ) (place : Place) (r w : Option (List ℕ)) → place ≡ start_of form → held ≡ first → Went shower form first held place r r w w true
  went_none first held place r w start same = record {
    text = [];
    out = [];
    read = Consumes-nil r;
    passes = subst (λ p. Passes shower false (start_of form) p (first ++ []) held [] true) (sym start)
        (subst (λ l. Passes shower false (start_of form) (start_of form) l held [] true) (same ∙ sym (append-nil first)) (passes_none false (start_of form) held));
    written = Appends-nil w;
  }

  -- some units pass, and then a piece is read
  pub went_on : (first held kept after : List ℕ) (a b : Place) (r s t w v u x : Option (List ℕ)) (whole well is_last : Bool) (n : ℕ) → Went shower form first held a r s w v whole → is_last ≡ false
      → ((out : List ℕ) × Passes shower is_last a b held kept out well × Appends v u out) → Keeps u x → ReadsOn kept after s t n → Went shower form first after b r t w x (whole && well)
  went_on first held kept after a b r s t w v u x whole well is_last n g more_follow h keeps more =
      let passed = passes_both false (start_of form) a b (first ++ g.text) held kept g.out h.0 whole well g.passes (subst (λ l. Passes shower l a b held kept h.0 well) more_follow h.1) in
      let longer = passes_longer (start_of form) b (first ++ g.text) kept more.0 (g.out ++ h.0) (whole && well) passed in
      record {
        text = g.text ++ more.0;
        out = g.out ++ h.0;
        read = Consumes-trans r s t g.text more.0 g.read more.2;
        passes = subst (λ l. Passes shower false (start_of form) b l after (g.out ++ h.0) (whole && well)) (append_assoc first g.text more.0)
            (subst (λ l. Passes shower false (start_of form) b ((first ++ g.text) ++ more.0) l (g.out ++ h.0) (whole && well)) (sym more.1) longer);
        written = Appends-kept w u x (g.out ++ h.0) (Appends-trans w v u g.out h.0 g.written h.2) keeps;
      }

  -- the end of an input shows all of it
  shows_all : (is_last : Bool) (first text more out : List ℕ) (whole : Bool) → (is_last ≡ true → more ≡ []) → Finishes shower is_last (start_of form) (first ++ text) out whole → ShowsCapture shower form (first ++ (text ++ more)) out whole
  shows_all is_last first text more out whole follows f = record {
    units = f.passes.units;
    fault = f.fault;
    reads = record {
      last = f.last.capture;
      end = f.last.at;
      left = f.left ++ more;
      leads = subst (λ l. Leads (start_of form).capture 0 l f.passes.units f.last.capture f.last.at (f.left ++ more)) (append_assoc first text more) (f.passes.leads more follows);
      ends = f.ends more follows;
    };
    lines = f.lines;
    well = f.well;
    each = f.passes.each;
    joined = f.joined;
    all = f.all;
  }

  pub went_all : (first held : List ℕ) (a : Place) (r s w v u : Option (List ℕ)) (whole well is_last : Bool) → Went shower form first held a r s w v whole → (is_last ≡ true → IsAtEnd s) → ((out : List ℕ) × Finishes shower is_last a held out well × Appends v u out)
      → RunsCapture shower form first r s w u (whole && well)
  went_all first held a r s w v u whole well is_last g at_end h = record {
    text = g.text;
    out = g.out ++ h.0;
    read = g.read;
    shows = λ more may. shows_all is_last first g.text more (g.out ++ h.0) (whole && well) (λ e. may (at_end e))
        (finishes_both is_last (start_of form) a (first ++ g.text) held g.out h.0 whole well (passes_last is_last (start_of form) a (first ++ g.text) held g.out whole g.passes) h.1);
    written = Appends-trans w v u g.out h.0 g.written h.2;
  }
