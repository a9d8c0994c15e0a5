-- Arrays of numbers whose places have names, which count from 0.
use Rattle.std.specs.Prelude.{ℕ, ◌+◌, ◌==◌, List, [], ◌∷◌, ◌++◌, Option, Some, None, codes, if◌then◌else◌}
use Rattle.std.specs.Fmt.{decimal}
use Rattle.link_base.specs.declared.rows.form.ArrayOf.{ArrayOf}
use Rattle.link_base.specs.declared.rows.label.Quantity.{Quantity}
use Rattle.link_base.specs.Labels.{name_in}
use Rattle.link_show.specs.Text.{empty_text, joined}
use Rattle.link_show.specs.Number.{item_text, array_text}

-- what is before the number of place i: the name of the place, or the place in brackets, if it has none
abbrev pub place_text : Option (List ℕ) → ℕ → List ℕ
place_text None i = codes "[" ++ (decimal i ++ codes "] ")
place_text (Some name) i = name ++ codes " "

-- how many numbers are zero, as a last word
abbrev pub zeros_word : ℕ → List (List ℕ)
zeros_word zeros = if zeros == 0 then [] else (codes "(" ++ (decimal zeros ++ codes " zero)")) ∷ []

-- the numbers from place i on that are not zero, and how many are zero, with those before place i
abbrev pub counter_words : List (ℕ × List ℕ) → ArrayOf → ℕ → ℕ → List ℕ → List (List ℕ)
counter_words names a i zeros [] = zeros_word zeros
counter_words names a i zeros (n ∷ numbers) =
    if n == 0
    then counter_words names a (i + 1) (zeros + 1) numbers
    else (place_text (name_in names i) i ++ item_text a n) ∷ counter_words names a (i + 1) zeros numbers

unfoldable pub counters_text : List (ℕ × List ℕ) → ArrayOf → List ℕ → List ℕ
counters_text names a [] = empty_text
counters_text names a (n ∷ numbers) = joined (codes " ") (counter_words names a 0 0 (n ∷ numbers))

-- an array, whose places may have names
abbrev pub numbers_text : List (ℕ × List ℕ) → Quantity → ArrayOf → List ℕ → List ℕ
numbers_text [] quantity a numbers = array_text quantity a numbers
numbers_text (x ∷ names) quantity a numbers = counters_text (x ∷ names) a numbers
