-- `==` on the structs of a bridge compares every field.
use Rattle.std.specs.Prelude.{ℕ, List, nat_eq, ◌==◌, ◌&&◌, refl}
use Rattle.std.specs.Cmp.Lexicographic.{pointwise}
use Rattle.link_base.specs.Equality.{IsThorough, wrapped, pairs, numbers, octets}
use Rattle.link_bridge.specs.declared.bridge.id.BridgeId.{BridgeId}
use Rattle.link_bridge.specs.declared.bridge_boolopt.BridgeBooleanOptions.{BridgeBooleanOptions}
use Rattle.link_bridge.specs.declared.af_spec.vlan_info.BridgeVlanInfo.{BridgeVlanInfo}

pub ids : IsThorough (λ (a b : BridgeId). a.priority == b.priority && pointwise nat_eq a.address b.address) (λ (a : BridgeId). a)
ids = wrapped (λ (id : BridgeId). (id.priority, id.address)) (λ (x : ℕ × List ℕ). record { priority = x.0; address = x.1 }) (λ _. refl) (pairs numbers octets)

pub options : IsThorough (λ (a b : BridgeBooleanOptions). a.value.0 == b.value.0 && a.mask.0 == b.mask.0) (λ (a : BridgeBooleanOptions). a)
options = wrapped
    (λ (o : BridgeBooleanOptions). (o.value.0, o.mask.0))
    (λ (x : ℕ × ℕ). record { value = record { 0 = x.0 }; mask = record { 0 = x.1 } })
    (λ _. refl) (pairs numbers numbers)

pub vlan_infos : IsThorough (λ (a b : BridgeVlanInfo). a.flags.0 == b.flags.0 && a.vid == b.vid) (λ (a : BridgeVlanInfo). a)
vlan_infos = wrapped
    (λ (i : BridgeVlanInfo). (i.flags.0, i.vid))
    (λ (x : ℕ × ℕ). record { flags = record { 0 = x.0 }; vid = x.1 })
    (λ _. refl) (pairs numbers numbers)
