-- Units that were shown one after another.
use Rattle.std.proofs.Common.{◌≡◌, ◌≢◌, Some, ◌≤◌, ℕ, ◌+◌, Bool, true, false, true≢false, ◌&&◌, List, [], ◌∷◌, ◌++◌, length, drop, refl, sym, ap, ap₂, subst, ◌∙◌, append_assoc}
use Rattle.std.specs.List.{list_all, AllZip}
use Rattle.std.proofs.Math.Bool.{and_assoc}
use Rattle.std.proofs.lemmas.List.{drop-append-le}
use Rattle.std.proofs.lemmas.Grind.{flat_map-append}
use Rattle.link_capture.specs.declared.error.InputError.{InputError}
use Rattle.link_capture.specs.Meaning.{UnitMeaning, State}
use Rattle.link_capture.specs.Unit.{Leads, IsUnit, IsError, Follows}
use Rattle.link_show.specs.List.{EachShown}
use Rattle.link_show.proofs.Listing.{and_false, each_none, each_more}
use Rattle.show_captures.specs.declared.place.Place.{Place}
use Rattle.show_captures.specs.Event.{ShowsUnit, counted, packets_in, packets_to, end_line, is_well}
use Rattle.show_captures.specs.Progress.{Passes, Finishes, Counts}
use Rattle.show_captures.specs.Shower.{UnitShower}

-- ---- units after units

pub leads_both : (a : State) (i : ℕ) (s : List ℕ) (xs : List UnitMeaning) (b : State) (j : ℕ) (t : List ℕ) (ys : List UnitMeaning) (c : State) (k : ℕ) (u : List ℕ) → Leads a i s xs b j t → Leads b j t ys c k u → Leads a i s (xs ++ ys) c k u
leads_both a i s [] b j t ys c k u (same, at, left) h = subst (λ n. Leads a n s ys c k u) at (subst (λ l. Leads a j l ys c k u) left (subst (λ x. Leads x j t ys c k u) same h))
leads_both a i s (x ∷ xs) b j t ys c k u (next, (size, unit, rest)) h = (next, (size, unit, leads_both next (i + size) (drop size s) xs b j t ys c k u rest h))

pub packets_both : (n : ℕ) (xs ys : List UnitMeaning) → packets_in n (xs ++ ys) ≡ packets_in (packets_in n xs) ys
packets_both n [] ys = refl
packets_both n (x ∷ xs) ys = packets_both (packets_to n x) xs ys

pub counted_both : (n : ℕ) (xs ys : List UnitMeaning) → counted n (xs ++ ys) ≡ counted n xs ++ counted (packets_in n xs) ys
counted_both n [] ys = refl
counted_both n (x ∷ xs) ys = ap (λ l. (n, x) ∷ l) (counted_both (packets_to n x) xs ys)

module _ {X : Type 0} (shows : X → List ℕ → Bool → Type 0) where
  zip_both : (xs ys : List X) (a b : List (List ℕ × Bool)) → AllZip (λ x r. shows x r.0 r.1) xs a → AllZip (λ x r. shows x r.0 r.1) ys b → AllZip (λ x r. shows x r.0 r.1) (xs ++ ys) (a ++ b)
  zip_both [] ys [] b h k = k
  zip_both [] ys (r ∷ a) b h k = absurd h
  zip_both (x ∷ xs) ys [] b h k = absurd h
  zip_both (x ∷ xs) ys (r ∷ a) b h k = (h.0, zip_both xs ys a b h.1 k)

  all_both : (a b : List (List ℕ × Bool)) → list_all (λ r. r.1) (a ++ b) ≡ (list_all (λ r. r.1) a && list_all (λ r. r.1) b)
  all_both [] b = refl
  all_both (r ∷ a) b = ap (λ w. r.1 && w) (all_both a b) ∙ sym (and_assoc r.1 (list_all (λ r. r.1) a) (list_all (λ r. r.1) b))

  pub each_both : (xs ys : List X) (s t : List ℕ) (v w : Bool) → EachShown shows xs s v → EachShown shows ys t w → EachShown shows (xs ++ ys) (s ++ t) (v && w)
  each_both xs ys s t v w h k = record {
    answers = h.answers ++ k.answers;
    each = zip_both xs ys h.answers k.answers h.each k.each;
    joined = ap₂ (λ a b. a ++ b) h.joined k.joined ∙ sym (flat_map-append (λ r. r.0) h.answers k.answers);
    all = ap₂ (λ a b. a && b) h.all k.all ∙ sym (all_both h.answers k.answers);
  }

module _ {shower : UnitShower} where
  -- nothing passes
  pub passes_none : (is_last : Bool) (place : Place) (s : List ℕ) → Passes shower is_last place place s s [] true
  passes_none is_last place s = record { units = []; leads = λ more follows. (refl, refl, refl); packets = refl; each = each_none (ShowsUnit shower) }

  -- units, and then others
  pub passes_both : (is_last : Bool) (a b c : Place) (s t u p q : List ℕ) (v w : Bool) → Passes shower is_last a b s t p v → Passes shower is_last b c t u q w → Passes shower is_last a c s u (p ++ q) (v && w)
  passes_both is_last a b c s t u p q v w h k = record {
    units = h.units ++ k.units;
    leads = λ more follows. leads_both a.capture a.at (s ++ more) h.units b.capture b.at (t ++ more) k.units c.capture c.at (u ++ more) (h.leads more follows) (k.leads more follows);
    packets = k.packets ∙ ap (λ n. packets_in n k.units) h.packets ∙ sym (packets_both a.packets h.units k.units);
    each = subst (λ l. EachShown (ShowsUnit shower) l (p ++ q) (v && w)) (sym (counted_both a.packets h.units k.units))
        (each_both (ShowsUnit shower) (counted a.packets h.units) (counted (packets_in a.packets h.units) k.units) p q v w h.each (subst (λ n. EachShown (ShowsUnit shower) (counted n k.units) q w) h.packets k.each));
  }

  -- one unit
  pub passes_one : (is_last : Bool) (a b c : Place) (s out : List ℕ) (n : ℕ) (meaning : UnitMeaning) (well : Bool) → (b.at ≡ a.at) × (b.packets ≡ a.packets) → n ≤ length s → ((more : List ℕ) → Follows is_last more → IsUnit a.capture (s ++ more) meaning n b.capture)
      → Counts meaning n b c → ShowsUnit shower (a.packets, meaning) out well → Passes shower is_last a c s (drop n s) out well
  passes_one is_last a b c s out n meaning well same within unit counts shown = record {
    units = meaning ∷ [];
    leads = λ more follows. (b.capture, (n, unit more follows, (counts.capture, counts.at ∙ ap (λ i. i + n) same.0, sym (drop-append-le n s more within))));
    packets = counts.packets ∙ ap (λ k. packets_to k meaning) same.1;
    each = one (each_more (ShowsUnit shower) [] [] (a.packets, meaning) out true well (each_none (ShowsUnit shower)) shown);
  }
    where
      one : EachShown (ShowsUnit shower) ((a.packets, meaning) ∷ []) out (true && well) → EachShown (ShowsUnit shower) ((a.packets, meaning) ∷ []) out well
      one h = h

  -- more bytes follow those that passed
  pub passes_longer : (a b : Place) (s t piece out : List ℕ) (well : Bool) → Passes shower false a b s t out well → Passes shower false a b (s ++ piece) (t ++ piece) out well
  passes_longer a b s t piece out well h = record {
    units = h.units;
    leads = λ more follows. subst (λ l. Leads a.capture a.at l h.units b.capture b.at ((t ++ piece) ++ more)) (sym (append_assoc s piece more))
        (subst (λ l. Leads a.capture a.at (s ++ (piece ++ more)) h.units b.capture b.at l) (sym (append_assoc t piece more)) (h.leads (piece ++ more) (λ e. absurd (true≢false (sym e)))));
    packets = h.packets;
    each = h.each;
  }

  -- units that pass whatever follows pass too where nothing does
  pub passes_last : (is_last : Bool) (a b : Place) (s t out : List ℕ) (well : Bool) → Passes shower false a b s t out well → Passes shower is_last a b s t out well
  passes_last is_last a b s t out well h = record { units = h.units; leads = λ more follows. h.leads more (λ e. absurd (true≢false (sym e))); packets = h.packets; each = h.each }

  -- units, and then the end
  pub finishes_both : (is_last : Bool) (a b : Place) (s t p q : List ℕ) (v w : Bool) → Passes shower is_last a b s t p v → Finishes shower is_last b t q w → Finishes shower is_last a s (p ++ q) (v && w)
  finishes_both is_last a b s t p q v w h k = record {
    last = k.last;
    left = k.left;
    lines = p ++ k.lines;
    well = v && k.well;
    passes = passes_both is_last a b k.last s t k.left p k.lines v k.well h k.passes;
    fault = k.fault;
    ends = k.ends;
    joined = ap (λ l. p ++ l) k.joined ∙ sym (append_assoc p k.lines (end_line shower k.fault));
    all = ap (λ x. v && x) k.all ∙ sym (and_assoc v k.well (is_well k.fault));
  }

  -- units, and then an error
  pub finishes_wrong : (is_last : Bool) (a b : Place) (s t out : List ℕ) (error : InputError) (well : Bool) → Passes shower is_last a b s t out well → ((more : List ℕ) → Follows is_last more → ((t ++ more) ≢ []) × IsError b.capture (t ++ more) error)
      → Finishes shower is_last a s (out ++ end_line shower (Some (b.at, error))) false
  finishes_wrong is_last a b s t out error well h wrong = record {
    last = b;
    left = t;
    lines = out;
    well = well;
    passes = h;
    fault = Some (b.at, error);
    ends = λ more follows. let e = wrong more follows in (e.0, refl, e.1);
    joined = refl;
    all = sym (and_false well);
  }
