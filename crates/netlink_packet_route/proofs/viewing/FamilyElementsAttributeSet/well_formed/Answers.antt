use Rattle.link_base.proofs.Coherence.{elements_formed}
use Rattle.netlink_packet_route.specs.Family.{table_of}
use Rattle.netlink_packet_route.proofs.Families.{families_formed}
use Rattle.netlink_packet_route.proofs.viewing.FamilyElementsAttributeSet.well_formed.Goals as goal

pub returns : goal.returns
returns c =
    let set = c.args.self.now in
    elements_formed (table_of set.family) set.list (families_formed set.family)
