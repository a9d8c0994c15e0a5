use Rattle.std.proofs.Common.{◌≡◌, drop}
use Rattle.link_base.specs.Labels.{names_in}
use Rattle.nlroute_ffi.specs.Lookup.{number_in}
use Rattle.nlroute_ffi.proofs.lookup.number_in.Given as goal

abbrev pub invariant-loop-named : goal.invariant-loop-named
invariant-loop-named l = number_in (names_in (drop l.named-index l.names)) l.name ≡ number_in (names_in l.names) l.name
