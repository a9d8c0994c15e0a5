-- What entries encode to, one entry at a time.
use Rattle.std.proofs.Common.{◌≡◌, cond, ℕ, ◌+◌, ◌/◌, ◌%◌, ◌≤◌, replicate, List, [], ◌∷◌, ◌++◌, length, Result, Ok, Err, sym, ap, ap₂, subst, ◌∙◌, arith, append_assoc}
use Rattle.std.proofs.lemmas.List.{append-nil}
use Rattle.link_base.specs.Number.{bytes_of}
use Rattle.std.proofs.lemmas.Bool.{le-leb}
use Rattle.link_base.specs.Frame.{frame_bytes, gap, max_payload}
use Rattle.link_base.specs.Wire.{whole}
use Rattle.link_entries.specs.declared.misfit.Misfit.{Misfit}
use Rattle.link_entries.specs.declared.misfit.Misfit.TheVariants.{TooLong}
use Rattle.link_entries.specs.Encoded.{Encoding, alone, before, fitted}

-- these bytes of i entries, then what the others encode to
abbrev pub after : List ℕ → ℕ → Encoding → Encoding
after text i (Ok s) = Ok (text ++ s)
after text i (Err e) = Err (i + e.0, e.1)

-- one entry more
pub after-more : (text s : List ℕ) (i : ℕ) (others : Encoding) → after text i (before (Ok s) others) ≡ after (text ++ s) (i + 1) others
after-more text s i (Ok t) = ap Ok (sym (append_assoc text s t))
after-more text s i (Err e) = let same : i + (e.0 + 1) ≡ i + 1 + e.0 = omega arith in ap (λ n. Err (n, e.1)) same

-- the whole, after these bytes of i entries
pub record Reached (whole : Encoding) (text : List ℕ) (i : ℕ) (others : Encoding) : Type 0 where
  pub is : whole ≡ after text i others

pub reached_more : (whole others : Encoding) (text s : List ℕ) (i : ℕ) (here : Encoding) → Reached whole text i (before here others) → here ≡ Ok s → Reached whole (text ++ s) (i + 1) others
reached_more whole others text s i here h e = record { is = h.is ∙ ap (λ x. after text i (before x others)) e ∙ after-more text s i others }

-- an entry that cannot be written
pub reached_error : (whole others : Encoding) (text : List ℕ) (i j : ℕ) (misfit : Misfit) (here : Encoding) → Reached whole text i (before here others) → here ≡ Err (j, misfit) → whole ≡ Err (i + j, misfit)
reached_error whole others text i j misfit here h e = h.is ∙ ap (λ x. after text i (before x others)) e

-- no entries more
pub reached_all : (whole others : Encoding) (text : List ℕ) (i : ℕ) → Reached whole text i others → others ≡ Ok [] → whole ≡ Ok text
reached_all whole others text i h e = h.is ∙ ap (after text i) e ∙ ap Ok (append-nil text)

-- ---- attributes

-- only the two low bytes of an `nla_type` are written
pub frame_low : (f : ℕ) (p : List ℕ) → frame_bytes (whole (f % 65536) p) ≡ frame_bytes (whole f p)
frame_low f p = ap (λ b. bytes_of 2 (4 + length p) ++ (b ++ (p ++ replicate (gap p) 0))) (low f)
  where
    low : (f : ℕ) → bytes_of 2 (f % 65536) ≡ bytes_of 2 f
    low f = let one : f % 65536 % 256 ≡ f % 256 = omega arith in let two : f % 65536 / 256 % 256 ≡ f / 256 % 256 = omega arith in ap₂ (λ a b. a ∷ b ∷ []) one two

-- an entry that adds nothing
pub reached_skip : (whole others : Encoding) (text : List ℕ) (i : ℕ) (here : Encoding) → Reached whole text i (before here others) → here ≡ Ok [] → Reached whole text (i + 1) others
reached_skip whole others text i here h e = subst (λ t. Reached whole t (i + 1) others) (append-nil text) (reached_more whole others text [] i here h e)

-- ---- attributes with their elements

module _ (f : ℕ) (own : Result (List ℕ) Misfit) (others : Encoding) where
  pub fitted_all : (p t : List ℕ) → own ≡ Ok p → others ≡ Ok t → length (p ++ t) ≤ max_payload → fitted f (before (alone own) others) ≡ Ok (frame_bytes (whole f (p ++ t)))
  fitted_all p t e e' short = ap₂ (λ r s. fitted f (before (alone r) s)) e e' ∙ ap (λ b. cond b (Ok (frame_bytes (whole f (p ++ t)))) (Err (0, TooLong))) (le-leb (length (p ++ t)) max_payload short)

-- the same entries after these, in another form
pub reached_by : (whole others same : Encoding) (text : List ℕ) (i : ℕ) → Reached whole text i others → others ≡ same → Reached whole text i same
reached_by whole others same text i h e = record { is = h.is ∙ ap (after text i) e }
