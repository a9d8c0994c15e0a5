use Rattle.netlink_packet_route.specs.Views.{family_in}
use Rattle.netlink_packet_route.proofs.Families.{families_formed}
use Rattle.netlink_packet_route.proofs.viewing.FamilySetAttributeSet.well_formed.Goals as goal

pub returns : goal.returns
returns c = families_formed (family_in c.args.self.now)
