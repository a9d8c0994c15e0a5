-- `==` on the structs of a VXLAN device compares every field.
use Rattle.std.specs.Prelude.{ℕ, ◌==◌, ◌&&◌, refl}
use Rattle.link_base.specs.Equality.{IsThorough, wrapped, pairs, numbers}
use Rattle.link_tunnels.specs.declared.vxlan_port_range.VxlanPortRange.{VxlanPortRange}
use Rattle.link_tunnels.specs.declared.vxlan_header.VxlanHeader.{VxlanHeader}

pub port_ranges : IsThorough (λ (a b : VxlanPortRange). a.low == b.low && a.high == b.high) (λ (a : VxlanPortRange). a)
port_ranges = wrapped (λ (r : VxlanPortRange). (r.low, r.high)) (λ (x : ℕ × ℕ). record { low = x.0; high = x.1 }) (λ _. refl) (pairs numbers numbers)

pub headers : IsThorough (λ (a b : VxlanHeader). a.vx_flags == b.vx_flags && a.vx_vni == b.vx_vni) (λ (a : VxlanHeader). a)
headers = wrapped (λ (h : VxlanHeader). (h.vx_flags, h.vx_vni)) (λ (x : ℕ × ℕ). record { vx_flags = x.0; vx_vni = x.1 }) (λ _. refl) (pairs numbers numbers)
