-- What is on the lines of the output, in the plain form.
use Rattle.std.specs.Prelude.{◌≡◌, ◌⊎◌, ℕ, true, List, [], ◌∷◌, map}
use Rattle.std.specs.List.{flat_map, list_all, AllByRecursion}
use Rattle.netlink_packet_route.specs.Report.{line}
use Rattle.link_show.specs.Printable.{IsText}
use Rattle.show_lines.specs.Show.{AreLines, is_repeated, repeated}

-- printable ASCII and tabs
pub record IsTabbed (text : List ℕ) : Type 0 where
  pub printable : list_all is_repeated text ≡ true

-- complete lines, each printable ASCII; or printable ASCII and tabs, and from somewhere
pub record AreLinesFrom (from : List ℕ → Type 0) (out : List ℕ) : Type 0 where
  pub lines : List (List ℕ)
  pub each : AllByRecursion (λ l. IsText l ⊎ (IsTabbed l × from l)) lines
  pub cut : out ≡ flat_map line lines

-- l is one of these lines
abbrev pub IsOneOf : List (List ℕ) → List ℕ → Type 0
IsOneOf [] l = ⊥
IsOneOf (m ∷ lines) l = (l ≡ m) ⊎ IsOneOf lines l

-- complete lines, each printable ASCII; or printable ASCII and tabs, and a line of the text as it is repeated
pub record Repeats (text out : List ℕ) : Type 0 where
  pub input : List (List ℕ)
  pub cut : AreLines text input
  pub made : AreLinesFrom (IsOneOf (map repeated input)) out
