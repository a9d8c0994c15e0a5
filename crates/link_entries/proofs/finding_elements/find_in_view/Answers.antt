use Rattle.std.proofs.Common.{Some, subst}
use Rattle.link_base.specs.Viewed.{set_of, buffer_in}
use Rattle.netlink_packet_route.specs.Family.{table_of}
use Rattle.netlink_packet_route.specs.Views.{family_in}
use Rattle.link_entries.specs.Finding.{IsElementFound}
use Rattle.link_entries.proofs.finding_elements.find_in_view.Goals as goal

pub returns-in-Some : goal.returns-in-Some
returns-in-Some c =
    let (items, walk, last) = c.in-Some.ensures.last in
    let x = c.in-Some.value in
    let result = c.find_in_value.result in
    let found = subst (λ s. IsElementFound (table_of (family_in s)) (Some (c.in-Some.at, buffer_in x)) c.args.inner result) c.in-Some.ensures.set c.find_in_value.ensures in
    (items, walk, subst (λ o. IsElementFound (table_of (family_in (set_of c.args.list))) o c.args.inner result) last found)
