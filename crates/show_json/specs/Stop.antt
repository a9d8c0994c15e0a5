-- Failures of documents, as those of a run; and the document of an error that ends an input.
use Rattle.std.specs.Prelude.{◌≡◌, ◌⊎◌, ℕ, Bool, List, [], Option, None, Result, Ok, Err, codes}
use Rattle.program.specs.Printing.{PrintsOrFails}
use Rattle.link_json.specs.Doc.{Field}
use Rattle.show_json.specs.Line.{fault_line}
use Rattle.link_json.specs.declared.messages.Failure.{Failure}
use Rattle.link_json.specs.declared.messages.Failure.TheVariants as failures
use Rattle.show_lines.specs.declared.running.Stop.{Stop}
use Rattle.show_lines.specs.declared.running.Stop.TheVariants as stops

abbrev pub stopped : {X : Type 0} → Result X Failure → Result X Stop
stopped (Ok x) = Ok x
stopped (Err failures.Memory) = Err stops.Memory
stopped (Err failures.Writer) = Err stops.Writer

-- the document with this error was written, and the exit status is 5; or memory did not suffice for it, nothing was written, and
-- the status is 4; or the writer failed
abbrev pub EndsWithFault : List Field → List ℕ → ℕ → Option (List ℕ) → Option (List ℕ) → Bool → Type 0
EndsWithFault place text status held_before held_after failed =
    PrintsOrFails held_before held_after (fault_line place None text) 5 status failed ⊎ PrintsOrFails held_before held_after [] 4 status failed

-- what is written last if a read failed, with the exit status: the document that says so; nothing, if memory does not suffice for it
abbrev pub breaks_json : List Field → List ℕ → ℕ → Type 0
breaks_json place text status = ((text ≡ fault_line place None (codes "read fault")) × (status ≡ 5)) ⊎ ((text ≡ []) × (status ≡ 4))
