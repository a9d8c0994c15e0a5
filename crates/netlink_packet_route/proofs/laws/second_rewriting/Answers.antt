use Rattle.std.proofs.Common.{subst}
use Rattle.link_base.specs.Table.{Canonical}
use Rattle.link_base.proofs.TableLaws.{lawful}
use Rattle.link_base.proofs.Rewritings as lists
use Rattle.netlink_packet_route.specs.Family.{table_of}
use Rattle.netlink_packet_route.proofs.laws.second_rewriting.Goals as goal

pub returns : goal.returns
returns c = λ family t u s r.
    let law = lawful (table_of family) in
    subst (λ w. Canonical (table_of family) w) (lists.one_rewriting law.reading law.holding law.writing t s.second u s.is r) s.canonical
