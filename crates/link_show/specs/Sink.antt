-- What is written to a sink.
use Rattle.std.specs.Prelude.{◌≡◌, ℕ, zero, suc, ◌+◌, ◌-◌, ◌^◌, ◌≤◌, min, List, [], ◌∷◌, length, Option}
use Rattle.std.specs.Borrow.{GName, MutBor}
use Rattle.std.specs.Io.KnownBytes.{Appends}

-- all bytes that were written, if they are known; or those that a writer behind this reference has or is to get; or a buffer with
-- the first of them, and how many there were
pub data Output : Type 0 where
  Whole : Option (List ℕ) → Output
  Through : GName → Option (List ℕ) → Output
  Front : MutBor (List ℕ) → ℕ → Output

-- a buffer with a text from place n on, as far as there is room
abbrev pub overlaid : ℕ → List ℕ → List ℕ → List ℕ
overlaid n text [] = []
overlaid zero [] (b ∷ buffer) = b ∷ buffer
overlaid zero (t ∷ text) (b ∷ buffer) = t ∷ overlaid zero text buffer
overlaid (suc n) text (b ∷ buffer) = b ∷ overlaid n text buffer

-- the greatest `usize`
abbrev pub greatest : ℕ
greatest = 2 ^ 64 - 1

-- the count m is n and the length of the text; it stops at the greatest `usize`
abbrev pub Counts : ℕ → List ℕ → ℕ → Type 0
Counts n text m = min m greatest ≡ min (n + length text) greatest

-- a text was written, and nothing else
abbrev pub Gains : Output → Output → List ℕ → Type 0
Gains (Whole old) (Whole new) text = Appends old new text
Gains (Through a old) (Through b new) text = (b ≡ a) × Appends old new text
Gains (Front old n) (Front new m) text =
    length old.now ≤ greatest → (new.ghost_name ≡ old.ghost_name) × (new.now ≡ overlaid n text old.now) × Counts n text m
Gains old new text = ⊥
