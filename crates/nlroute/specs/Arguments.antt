-- The command-line arguments.
use Rattle.std.specs.Prelude.{List, [], ◌∷◌, Option, Some, None}

-- the argument after the program's name, if there is exactly one
abbrev pub only_behind_program : {A : Type 0} → List A → Option A
only_behind_program (program ∷ argument ∷ []) = Some argument
only_behind_program _ = None
