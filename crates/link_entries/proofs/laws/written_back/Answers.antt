use Rattle.netlink_packet_route.proofs.Families.{families_formed}
use Rattle.netlink_packet_route.specs.Family.{table_of}
use Rattle.link_entries.proofs.BackLists.{flat_back}
use Rattle.link_entries.proofs.laws.written_back.Goals as goal

pub returns : goal.returns
returns c = λ family. flat_back (table_of family) (families_formed family)
