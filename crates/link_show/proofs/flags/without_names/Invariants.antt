use Rattle.std.proofs.Common.{◌≡◌, drop}
use Rattle.link_base.specs.Labels.{names_in}
use Rattle.link_show.specs.Flags.{unnamed}
use Rattle.link_show.proofs.flags.without_names.Given as goal

abbrev pub invariant-loop-name : goal.invariant-loop-name
invariant-loop-name l = unnamed (names_in (drop l.name-index l.names)) l.left ≡ unnamed (names_in l.names) l.bits
