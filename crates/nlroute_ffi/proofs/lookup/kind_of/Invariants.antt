use Rattle.std.proofs.Common.{◌≢◌, ◌<◌, ℕ, Some}
use Rattle.nlroute_ffi.specs.Lookup.{name_at}
use Rattle.nlroute_ffi.proofs.lookup.kind_of.Given as goal

abbrev pub invariant-loop-kind : goal.invariant-loop-kind
invariant-loop-kind g l = (j : ℕ) → j < l.kind → name_at (g.S.AttributeSet.rows l.set) j ≢ Some l.name
