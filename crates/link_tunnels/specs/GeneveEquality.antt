-- `==` on the struct of a GENEVE device compares every field.
use Rattle.std.specs.Prelude.{ℕ, ◌==◌, ◌&&◌, refl}
use Rattle.link_base.specs.Equality.{IsThorough, wrapped, pairs, numbers}
use Rattle.link_tunnels.specs.declared.geneve_port_range.GenevePortRange.{GenevePortRange}

pub geneve_port_ranges : IsThorough (λ (a b : GenevePortRange). a.low == b.low && a.high == b.high) (λ (a : GenevePortRange). a)
geneve_port_ranges = wrapped (λ (r : GenevePortRange). (r.low, r.high)) (λ (x : ℕ × ℕ). record { low = x.0; high = x.1 }) (λ _. refl) (pairs numbers numbers)
