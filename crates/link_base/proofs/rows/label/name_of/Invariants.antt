use Rattle.std.proofs.Common.{◌≡◌, drop}
use Rattle.link_base.specs.Labels.{names_in, name_in}
use Rattle.link_base.proofs.rows.label.name_of.Given as goal

abbrev pub invariant-loop-name : goal.invariant-loop-name
invariant-loop-name l = name_in (names_in (drop l.name-index l.names)) l.number ≡ name_in (names_in l.names) l.number
