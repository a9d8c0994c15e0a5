-- What standard error was told.
use Rattle.std.specs.Prelude.{◌≡◌, ℕ, Bool, false, List, Option}
use Rattle.std.specs.Io.KnownBytes.{Appends}
use Rattle.program.specs.declared.watched.Watched.{Watched}
use Rattle.program.specs.Watched.{watched_inner, has_failed}

-- what was written to it, if that is known, and whether that failed
abbrev pub Told : Type 0
Told = Option (List ℕ) × Bool

abbrev pub told : {E : Type 0} → (E → Option (List ℕ)) → Watched E → Told
told contents errors = (contents (watched_inner errors), has_failed errors)

-- unless it has failed, it was told this text
abbrev pub Tells : Told → Told → List ℕ → Type 0
Tells told_before told_after text = told_after.1 ≡ false → (told_before.1 ≡ false) × Appends told_before.0 told_after.0 text
