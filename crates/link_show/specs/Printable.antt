-- Lines of printable ASCII characters.
use Rattle.std.specs.Prelude.{◌≡◌, ℕ, Bool, true, ◌&&◌, List, [], ◌∷◌, ◌++◌}
use Rattle.std.specs.List.{flat_map, list_all, AllByRecursion}
use Rattle.link_base.specs.Table.{Table}
use Rattle.link_base.specs.WellFormed.{is_printable, has_text, rows_in}

-- a text of printable ASCII characters
pub record IsText (text : List ℕ) : Type 0 where
  pub printable : list_all is_printable text ≡ true

-- complete lines of printable ASCII characters: LF ends each
pub record AreTexts (out : List ℕ) : Type 0 where
  pub lines : List (List ℕ)
  pub each : AllByRecursion IsText lines
  pub cut : out ≡ flat_map (λ l. l ++ 10 ∷ []) lines

-- all names in a table are texts
abbrev pub has_texts : Table → Bool
has_texts table = list_all (λ r. has_text r && list_all has_text (rows_in r.class)) table
