-- The front of a text in a buffer, and the NUL after it.
use Rattle.std.proofs.Common.{◌≡◌, ℕ, zero, suc, ◌-◌, ◌^◌, ◌<◌, ◌≢◌, min, List, [], ◌∷◌, ◌++◌, length, take, drop, slice_set, sym, ap, ◌∙◌, arith, take-append-drop, length-append, length-take, length-drop}
use Rattle.std.proofs.lemmas.List.{drop_all, nil_from_length}
use Rattle.link_show.specs.Gained.{overlaid_length}
use Rattle.link_show.specs.Sink.{overlaid, Counts}
use Rattle.nlroute_ffi.specs.Buffers.{cut_text}

-- the front of the text is stored before the last byte of a buffer, and then a NUL behind it
pub nul_stored : (words : List ℕ) (b : ℕ) (rest : List ℕ) (k : ℕ) → k ≡ min (length words) (length rest)
    → slice_set (overlaid 0 words (take (length rest) (b ∷ rest)) ++ drop (length rest) (b ∷ rest)) k 0 ≡ take (length rest) words ++ (0 ∷ drop (length words) rest)
nul_stored words b [] zero e = ap (λ l. 0 ∷ l) (sym (drop_all (length words) [] (omega arith)))
nul_stored words b [] (suc k) e = absurd (omega (arith, e))
nul_stored [] b (r ∷ rest) zero e = ap (λ l. 0 ∷ l) (take-append-drop (length rest) (r ∷ rest))
nul_stored [] b (r ∷ rest) (suc k) e = absurd (omega (arith, e))
nul_stored (w ∷ words) b (r ∷ rest) zero e = absurd (omega (arith, e))
nul_stored (w ∷ words) b (r ∷ rest) (suc k) e = ap (λ l. w ∷ l) (nul_stored words r rest k (omega (arith, e)))

-- a buffer keeps its length
whole_length : (words old front : List ℕ) (room : ℕ) → front ≡ overlaid 0 words (take room old) → room ≡ length old - 1 → length (front ++ drop room old) ≡ length old
whole_length words old front room stored e =
    omega (arith, length-append front (drop room old), ap length stored, overlaid_length 0 words (take room old), length-take room old, length-drop room old, e)

-- the front of a text and the NUL, in a buffer with room for a byte
pub cut_stored : (words old front : List ℕ) (room count k : ℕ) → front ≡ overlaid 0 words (take room old) → room ≡ length old - 1 → room < 2 ^ 64 → Counts 0 words count → k ≡ min count room → length (front ++ drop room old) ≢ 0
    → slice_set (front ++ drop room old) k 0 ≡ cut_text words old
cut_stored words [] front room count k stored e fits counted at some = absurd (some (whole_length words [] front room stored e))
cut_stored words (b ∷ rest) front room count k stored e fits counted at some =
    let same : room ≡ length rest = omega (arith, e) in
    ap (λ f. slice_set (f ++ drop room (b ∷ rest)) k 0) stored ∙ ap (λ r. slice_set (overlaid 0 words (take r (b ∷ rest)) ++ drop r (b ∷ rest)) k 0) same
    ∙ nul_stored words b rest k (omega (arith, at, same, counted, fits))

-- a buffer without room
pub cut_nothing : (words old front : List ℕ) (room : ℕ) → front ≡ overlaid 0 words (take room old) → room ≡ length old - 1 → length (front ++ drop room old) ≡ 0 → front ++ drop room old ≡ cut_text words old
cut_nothing words [] front room stored e none = nil_from_length (front ++ drop room []) none
cut_nothing words (b ∷ rest) front room stored e none = absurd (omega (arith, none, whole_length words (b ∷ rest) front room stored e))
