use Rattle.std.proofs.Common.{◌≡◌, ◌≤◌, ℕ, drop}
use Rattle.link_base.specs.Labels.{names_in, name_in}
use Rattle.link_show.proofs.counters.names_from.Given as goal

abbrev pub invariant-loop-i : goal.invariant-loop-i
invariant-loop-i l = (k : ℕ) → l.place ≤ k → name_in (names_in (drop l.i l.names)) k ≡ name_in (names_in l.names) k
