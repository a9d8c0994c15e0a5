-- Texts, and what is made of them.
use Rattle.std.specs.Prelude.{ℕ, false, List, [], ◌∷◌, ◌++◌, codes}
use Rattle.std.specs.Fmt.{digits}

-- texts, the first after `first`, and each of the others after `separator`
abbrev pub after : List ℕ → List ℕ → List (List ℕ) → List ℕ
after first separator [] = []
after first separator (t ∷ texts) = first ++ (t ++ after separator separator texts)

-- texts with a separator between them
abbrev pub joined : List ℕ → List (List ℕ) → List ℕ
joined separator texts = after [] separator texts

-- a number in hexadecimal
abbrev pub hex : ℕ → List ℕ
hex n = digits 16 false n

-- a number in hexadecimal, after 0x
abbrev pub hex_number : ℕ → List ℕ
hex_number n = codes "0x" ++ hex n

-- where there could be something, and is nothing
abbrev pub empty_text : List ℕ
empty_text = codes "(empty)"

-- texts with a separator between them, or that there is none
abbrev pub list_text : List ℕ → List (List ℕ) → List ℕ
list_text separator [] = empty_text
list_text separator (t ∷ texts) = joined separator (t ∷ texts)
