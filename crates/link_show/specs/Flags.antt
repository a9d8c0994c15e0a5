-- Numbers of enums, and sets of flags, by their names.
use Rattle.std.specs.Prelude.{ℕ, ◌-◌, ◌*◌, ◌^◌, ◌==◌, ◌&&◌, Bool, not, List, [], ◌∷◌, ◌++◌, map, Option, Some, None, codes, if◌then◌else◌}
use Rattle.std.specs.Fmt.{decimal}
use Rattle.std.specs.List.{filter}
use Rattle.std.specs.Int.RustNames.{bit_and}
use Rattle.link_base.specs.Labels.{name_in}
use Rattle.link_show.specs.Text.{joined, hex_number}
use Rattle.link_show.specs.Number.{beside}

-- the number of an enum, which may have a name
abbrev pub named_text : Option (List ℕ) → ℕ → List ℕ
named_text None n = decimal n
named_text (Some name) n = beside name (decimal n)

unfoldable pub enum_text : List (ℕ × List ℕ) → ℕ → List ℕ
enum_text names n = named_text (name_in names n) n

-- the names of the bits that are set, each with its bit
abbrev pub set_names : List (ℕ × List ℕ) → ℕ → List (ℕ × List ℕ)
set_names names bits = filter (λ x. not (bit_and bits x.0 == 0)) names

-- the bits that have no name
abbrev pub unnamed : List (ℕ × List ℕ) → ℕ → ℕ
unnamed [] bits = bits
unnamed (x ∷ names) bits = unnamed names (bits - bit_and bits x.0)

-- what is left of a set of flags, as a last word
abbrev pub last_word : ℕ → List (List ℕ)
last_word left = if left == 0 then [] else hex_number left ∷ []

-- the names of the bits that are set, and what is left, as words
abbrev pub words_of : List (ℕ × List ℕ) → ℕ → ℕ → List (List ℕ)
words_of names bits left = map (λ x. x.1) (set_names names bits) ++ last_word left

-- the words of a set of flags: the names of the bits that are set, and the bits that have none
abbrev pub flag_words : List (ℕ × List ℕ) → ℕ → List (List ℕ)
flag_words names bits = words_of names bits (unnamed names bits)

-- every bit of n bytes is set, and some have no name
abbrev pub is_all : List (ℕ × List ℕ) → ℕ → ℕ → Bool
is_all names n bits = (bits == 2 ^ (8 * n) - 1) && not (unnamed names bits == 0)

-- a set of flags, of n bytes
unfoldable pub flags_text : List (ℕ × List ℕ) → ℕ → ℕ → List ℕ
flags_text names n bits =
    if bits == 0 then codes "0" else (if is_all names n bits then codes "all" else joined (codes "|") (flag_words names bits))
