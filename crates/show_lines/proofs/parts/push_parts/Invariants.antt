use Rattle.std.proofs.Common.{map, take, string_bytes}
use Rattle.link_messages.specs.Link.{part_of}
use Rattle.show_lines.specs.List.{Adds}
use Rattle.show_lines.specs.Messages.{ShowsParts}
use Rattle.show_lines.proofs.parts.push_parts.Given as goal

abbrev pub invariant-loop-part : goal.invariant-loop-part
invariant-loop-part l = Adds (ShowsParts l.indent (map part_of (take l.part-index l.parts))) (string_bytes l.initial.text) (string_bytes l.text) l.whole
