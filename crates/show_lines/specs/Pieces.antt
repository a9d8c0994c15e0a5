-- What was written if a run stops early: whole pieces.
use Rattle.std.specs.Prelude.{◌≡◌, ℕ, List, [], ◌++◌, Option, Result, Ok, Err}
use Rattle.std.specs.Io.KnownBytes.{Appends}
use Rattle.show_lines.specs.declared.running.Stop.{Stop}
use Rattle.show_lines.specs.declared.running.Stop.TheVariants.{Memory, Reader, Writer}

-- zero or more pieces, one after another
pub data ArePieces (piece : List ℕ → Type 0) : List ℕ → Type 0 where
  NoPiece : (out : List ℕ) → out ≡ [] → ArePieces piece out
  Begins : (out first rest : List ℕ) → piece first → ArePieces piece rest → out ≡ first ++ rest → ArePieces piece out

-- zero or more pieces were written
abbrev pub AddsPieces : (List ℕ → Type 0) → Option (List ℕ) → Option (List ℕ) → Type 0
AddsPieces piece held_before held_after = (out : List ℕ) × ArePieces piece out × Appends held_before held_after out

-- unless the writer failed, P holds
abbrev pub IfWritten : {X : Type 0} → Result X Stop → Type 0 → Type 0
IfWritten (Ok x) P = P
IfWritten (Err Memory) P = P
IfWritten (Err Reader) P = P
IfWritten (Err Writer) P = Unit {0}

-- if a call stopped, and not since the writer failed, P holds
abbrev pub OnStop : {X : Type 0} → Result X Stop → Type 0 → Type 0
OnStop (Ok x) P = Unit {0}
OnStop (Err Memory) P = P
OnStop (Err Reader) P = P
OnStop (Err Writer) P = Unit {0}

-- zero or more bytes were written
abbrev pub Grows : Option (List ℕ) → Option (List ℕ) → Type 0
Grows = AddsPieces (λ _. Unit {0})
