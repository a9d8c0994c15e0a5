-- The protocols of VLAN tags: their names, and their EtherTypes.
use Rattle.std.specs.Prelude.{ℕ, [], ◌∷◌, codes}
use Rattle.link_base.specs.declared.names.vlan_protocol.VlanProtocol.{VlanProtocol}
use Rattle.link_base.specs.declared.names.vlan_protocol.VlanProtocol.TheVariants.{Ieee8021Q, Ieee8021Ad}
use Rattle.link_base.specs.Named.{Naming, label, Bare, AnyCase}

-- ETH_P_8021Q and ETH_P_8021AD; every other number becomes 802.1Q, so that none is displayed as a number
abbrev pub vlan_protocols : Naming VlanProtocol
vlan_protocols = record {
  labels = label Ieee8021Q (codes "802.1Q") 0x8100 ∷ label Ieee8021Ad (codes "802.1ad") 0x88A8 ∷ [];
  further = [];
  other = λ d. Ieee8021Q;
  other_text = Bare;
  accepted = AnyCase;
}

-- the EtherType of a protocol
abbrev pub protocol_number : VlanProtocol → ℕ
protocol_number Ieee8021Q = 0x8100
protocol_number Ieee8021Ad = 0x88A8
