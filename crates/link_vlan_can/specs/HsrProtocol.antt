-- The protocols of HSR and PRP devices.
use Rattle.std.specs.Prelude.{[], ◌∷◌, codes, refl}
use Rattle.link_base.specs.Named.{Naming, Seen, Listed, Free, IsSeen, label, Bare, NoText}
use Rattle.link_vlan_can.specs.declared.hsr.HsrProtocol.{HsrProtocol}
use Rattle.link_vlan_can.specs.declared.hsr.HsrProtocol.TheVariants as protocols

-- HSR_PROTOCOL_HSR and HSR_PROTOCOL_PRP; any other number is `Other`. No name is parsed
abbrev pub hsr_protocol_names : Naming HsrProtocol
hsr_protocol_names = record {
  labels = label protocols.Hsr (codes "hsr") 0 ∷ label protocols.Prp (codes "prp") 1 ∷ [];
  further = [];
  other = protocols.Other;
  other_text = Bare;
  accepted = NoText;
}

-- the number of a protocol: `Listed` for a named variant, `Free` for `Other`
abbrev pub hsr_protocol_seen : HsrProtocol → Seen
hsr_protocol_seen protocols.Hsr = Listed 0
hsr_protocol_seen protocols.Prp = Listed 1
hsr_protocol_seen (protocols.Other d) = Free d

-- every value is a named variant or `Other`
pub hsr_protocol_cases : (p : HsrProtocol) → IsSeen hsr_protocol_names p (hsr_protocol_seen p)
hsr_protocol_cases protocols.Hsr = (refl, refl)
hsr_protocol_cases protocols.Prp = (refl, refl)
hsr_protocol_cases (protocols.Other d) = refl
