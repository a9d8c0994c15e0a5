-- What is written when a run stops early.
use Rattle.std.specs.Prelude.{◌≡◌, ◌⊎◌, ◌≤◌, ℕ, Bool, true, List, ◌++◌, Option}
use Rattle.std.specs.Io.KnownBytes.{Appends}
use Rattle.program.specs.Printing.{PrintsOrFails}
use Rattle.show_lines.specs.declared.running.Stop.{Stop}
use Rattle.show_lines.specs.declared.running.Stop.TheVariants.{Memory, Reader, Writer}
use Rattle.show_lines.specs.Pieces.{ArePieces}

-- the last words of a run that stopped early, with its exit status: `ends` if an allocation failed, and what `breaks` says if a
-- read failed; none, if the writer failed
abbrev pub EndsBy : List ℕ → (List ℕ → ℕ → Type 0) → Stop → ℕ → Option (List ℕ) → Option (List ℕ) → Bool → Type 0
EndsBy ends breaks Memory status held_before held_after failed = PrintsOrFails held_before held_after ends 4 status failed
EndsBy ends breaks Reader status held_before held_after failed =
    ((text : List ℕ) × breaks text status × (3 ≤ status) × Appends held_before held_after text) ⊎ ((status ≡ 5) × (failed ≡ true))
EndsBy ends breaks Writer status held_before held_after failed = (status ≡ 5) × (failed ≡ true)

-- the last words of a run with this exit status
abbrev pub AreLast : List ℕ → (List ℕ → ℕ → Type 0) → List ℕ → ℕ → Type 0
AreLast ends breaks text status = ((text ≡ ends) × (status ≡ 4)) ⊎ breaks text status

-- pieces of the output were written, and then the last words of a run that stopped early; or the writer failed
abbrev pub StopsEarly : (List ℕ → Type 0) → List ℕ → (List ℕ → ℕ → Type 0) → ℕ → Option (List ℕ) → Option (List ℕ) → Bool → Type 0
StopsEarly piece ends breaks status held_before held_after failed =
    ((out : List ℕ) × ArePieces piece out × ((text : List ℕ) × AreLast ends breaks text status × Appends held_before held_after (out ++ text)))
    ⊎ ((status ≡ 5) × (failed ≡ true))
