-- The name field of a CAN controller.
use Rattle.std.specs.Prelude.{◌≡◌, ◌⊎◌, ℕ, ◌-◌, ◌<◌, ◌≤◌, ◌==◌, List, [], ◌∷◌, ◌++◌, length, take, replicate, if◌then◌else◌}
use Rattle.std.specs.List.{AllByRecursion}
use Rattle.std.specs.Str.{IsUtf8}
use Rattle.std.specs.Str.Lossy.{utf8_lossy}

-- the bytes before the first NUL; all bytes if there is none
abbrev pub before_nul : List ℕ → List ℕ
before_nul [] = []
before_nul (b ∷ bytes) = if b == 0 then [] else b ∷ before_nul bytes

-- the string that a name field decodes to: each maximal part that is not UTF-8 becomes U+FFFD
abbrev pub name_of : List ℕ → List ℕ
name_of field = utf8_lossy (before_nul field)

-- bytes, filled with zeros up to 16
abbrev pub zero_filled : List ℕ → List ℕ
zero_filled bytes = bytes ++ replicate (16 - length bytes) 0

-- the field that is written for a string: its first 15 bytes, then zeros
abbrev pub name_field : List ℕ → List ℕ
name_field text = zero_filled (take 15 text)

-- what the written field decodes to
abbrev pub cut_name : List ℕ → List ℕ
cut_name text = utf8_lossy (before_nul (take 15 text))

-- no byte is 0
abbrev pub HasNoNul : List ℕ → Type 0
HasNoNul bytes = AllByRecursion (λ b. 0 < b) bytes

-- UTF-8, or 15 bytes that are UTF-8 followed by a U+FFFD that is truncated after one or two bytes
abbrev pub IsCutText : List ℕ → Type 0
IsCutText bytes = IsUtf8 bytes ⊎ ((length bytes ≡ 15) × (text : List ℕ) × IsUtf8 text
    × ((bytes ≡ text ++ 0xEF ∷ []) ⊎ (bytes ≡ text ++ 0xEF ∷ 0xBF ∷ [])))

-- a name of at most 15 bytes without NUL, which may end in a truncated U+FFFD, filled with zeros up to 16
abbrev pub IsNameField : List ℕ → Type 0
IsNameField field = (bytes : List ℕ) × (field ≡ zero_filled bytes) × (length bytes ≤ 15) × HasNoNul bytes × IsCutText bytes
