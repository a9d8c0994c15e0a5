use Rattle.std.proofs.Common.{refl, inl, inr}
use Rattle.link_base.specs.declared.names.vlan_protocol.VlanProtocol.{VlanProtocol}
use Rattle.link_base.specs.declared.names.vlan_protocol.VlanProtocol.TheVariants.{Ieee8021Q, Ieee8021Ad}
use Rattle.link_base.specs.Named.{Accepts, text_of}
use Rattle.link_base.specs.Protocol.{vlan_protocols, protocol_number}
use Rattle.link_base.proofs.Naming as naming
use Rattle.link_base.proofs.names.named_laws.vlan_protocol.Goals as goal

-- the `Display` output of a protocol is accepted for it
accepted : (p : VlanProtocol) → Accepts vlan_protocols (text_of vlan_protocols.labels (protocol_number p)) p
accepted Ieee8021Q = inl (refl, refl)
accepted Ieee8021Ad = inr (inl (refl, refl))

pub returns-clause-text : goal.returns-clause-text
returns-clause-text c = λ p r read. naming.reads_as vlan_protocols refl _ p r (accepted p) read

pub returns-clause-one : goal.returns-clause-one
returns-clause-one c = λ text p q a b. naming.one_text vlan_protocols refl text p q a b
