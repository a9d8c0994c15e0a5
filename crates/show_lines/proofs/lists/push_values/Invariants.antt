use Rattle.std.proofs.Common.{string_bytes}
use Rattle.show_lines.specs.List.{AddsLines}
use Rattle.show_lines.proofs.lists.push_values.Given as goal

abbrev pub invariant-loop-value : goal.invariant-loop-value
invariant-loop-value g l = AddsLines l.indent l.value-index (string_bytes l.initial.text) (string_bytes l.text)
