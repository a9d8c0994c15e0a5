-- Texts in a caller's buffer.
use Rattle.std.specs.Prelude.{◌≡◌, ℕ, ◌-◌, ◌^◌, min, List, [], ◌∷◌, ◌++◌, length, take, drop, Option, Some, None, Result, Ok, Err}
use Rattle.nlroute_ffi.specs.declared.refusal.Refusal.{Refusal}
use Rattle.nlroute_ffi.specs.declared.refusal.Refusal.TheVariants.{Absent}

-- a buffer with a text at its start, as far as there is room before a NUL, and the NUL; the rest is unchanged
abbrev pub cut_text : List ℕ → List ℕ → List ℕ
cut_text words [] = []
cut_text words (b ∷ old) = take (length old) words ++ (0 ∷ drop (length words) old)

-- the buffer has the text, and n is the length of the whole text
abbrev pub Stores : List ℕ → List ℕ → List ℕ → ℕ → Type 0
Stores words old new n = (n ≡ length words) × (new ≡ cut_text words old)

-- the buffer has the text, and n is the length of the whole text, at most the greatest `isize`
abbrev pub StoresText : List ℕ → List ℕ → List ℕ → ℕ → Type 0
StoresText words old new n = (n ≡ min (length words) (2 ^ 63 - 1)) × (new ≡ cut_text words old)

-- the buffer has the name; or there is none
abbrev pub NameAnswers : Option (List ℕ) → List ℕ → List ℕ → Result ℕ Refusal → Type 0
NameAnswers (Some name) old new (Ok n) = Stores name old new n
NameAnswers None old new (Err Absent) = Unit {0}
NameAnswers name old new result = ⊥
