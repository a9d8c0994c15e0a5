use Rattle.std.proofs.Common.{◌-◌, length, string_bytes}
use Rattle.show_lines.specs.List.{Adds}
use Rattle.show_lines.proofs.Links.{ShownTo}
use Rattle.show_lines.proofs.messages.push_messages.Given as goal

abbrev pub invariant-loop-message : goal.invariant-loop-message
invariant-loop-message l = Adds (ShownTo l.buffer l.at) (string_bytes l.initial.text) (string_bytes l.text) l.whole

abbrev pub decreases-loop-message : goal.decreases-loop-message
decreases-loop-message l = length l.buffer - l.at
