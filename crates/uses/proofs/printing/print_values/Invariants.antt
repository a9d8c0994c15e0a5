use Rattle.std.proofs.Common.{take}
use Rattle.uses.specs.Printing.{PrintsLines}
use Rattle.uses.proofs.printing.print_values.Given as goal

abbrev pub invariant-loop-value : goal.invariant-loop-value
invariant-loop-value g l = PrintsLines g.F.Debug.debug_output (take l.value-index l.values) (g.W.Write.contents l.fn.writer) (g.W.Write.contents l.writer)
