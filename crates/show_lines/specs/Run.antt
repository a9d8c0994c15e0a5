-- What is read of an input of lines, and written.
use Rattle.std.specs.Prelude.{ℕ, Bool, List, ◌++◌, Option}
use Rattle.std.specs.Io.KnownBytes.{Appends, Consumes, IsAtEnd}
use Rattle.show_lines.specs.Show.{Shower, ShowsAll}

-- the rest of the reader was read up to its end, and the output for it, behind `first`, was written
pub record Runs (shows : Shower) (first : List ℕ) (left_before left_after held_before held_after : Option (List ℕ)) (whole : Bool) : Type 0 where
  pub text : List ℕ
  pub out : List ℕ
  pub read : Consumes left_before left_after text
  pub end : IsAtEnd left_after
  pub shown : ShowsAll shows (first ++ text) out whole
  pub written : Appends held_before held_after out
