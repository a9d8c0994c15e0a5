-- The first bytes of an input, while they do not tell its form.
use Rattle.std.proofs.Common.{◌≡◌, ◌≤◌, ℕ, Bool, true, List, [], ◌++◌, Option, length, refl, sym, ap, subst, ◌∙◌, arith}
use Rattle.std.specs.Io.KnownBytes.{Consumes, IsAtEnd}
use Rattle.std.proofs.KnownBytes.{Consumes-trans}
use Rattle.link_capture.specs.Form.{needs_more}
use Rattle.show_captures.specs.Progress.{AreFirst, ReadsOn}

-- the bytes are too few to tell the form
pub record MayBegin (s : List ℕ) : Type 0 where
  pub begins : needs_more s ≡ true

pub none_begin : (s : List ℕ) → s ≡ [] → MayBegin s
none_begin s e = record { begins = subst (λ l. needs_more l ≡ true) (sym e) refl }

pub may_begin : (s l : List ℕ) (more : Bool) → more ≡ true → more ≡ needs_more l → l ≡ s → MayBegin s
may_begin s l more needs h same = record { begins = sym (ap needs_more same) ∙ (sym h ∙ needs) }

-- one more read
pub read_more : (held after : List ℕ) (r s t : Option (List ℕ)) (n : ℕ) → Consumes r s held → ReadsOn held after s t n → Consumes r t after
read_more held after r s t n before h = subst (Consumes r t) (sym h.1) (Consumes-trans r s t held h.0 before h.2)

-- the last read
pub are_first : (held after : List ℕ) (s t : Option (List ℕ)) (n most : ℕ) → MayBegin held → ReadsOn held after s t n → n ≤ most → AreFirst most after
are_first held after s t n most begun h few = record { before = held; piece = h.0; joined = h.1; begins = begun.begins; few = omega (arith, h.3, few) }
