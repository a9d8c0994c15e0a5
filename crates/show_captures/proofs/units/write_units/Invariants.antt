use Rattle.std.proofs.Common.{◌≤◌, ◌-◌, List, ℕ, length, drop}
use Rattle.std.specs.Io.KnownBytes.{Appends}
use Rattle.show_captures.specs.Progress.{Passes}
use Rattle.show_lines.specs.Pieces.{AddsPieces}
use Rattle.show_captures.proofs.units.write_units.Given as goal

abbrev pub invariant-loop-error : goal.invariant-loop-error
invariant-loop-error g l =
    (l.used ≤ length l.bytes) × ((out : List ℕ) × Passes (g.S.ShowUnits.units l.shown) l.is_last l.initial.place l.place l.bytes (drop l.used l.bytes) out l.well × Appends (g.W.Write.contents l.initial.writer) (g.W.Write.contents l.writer) out)
    × AddsPieces (g.S.ShowLines.piece l.shown) (g.W.Write.contents l.initial.writer) (g.W.Write.contents l.writer)

abbrev pub decreases-loop-error : goal.decreases-loop-error
decreases-loop-error g l = length l.bytes - l.used
