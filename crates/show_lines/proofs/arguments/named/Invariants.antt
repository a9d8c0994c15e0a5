use Rattle.std.proofs.Common.{◌≡◌, map, string_bytes, take}
use Rattle.show_lines.proofs.arguments.named.Given as goal

abbrev pub invariant-loop-name : goal.invariant-loop-name
invariant-loop-name l = map string_bytes l.files.items ≡ map (λ s. s.now) (take l.name-index l.names)
