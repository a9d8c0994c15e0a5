use Rattle.std.proofs.Common.{[], ◌∷◌, refl}
use Rattle.link_base.specs.Viewed.{set_in, buffer_in}
use Rattle.netlink_packet_route.specs.Family.{table_of}
use Rattle.netlink_packet_route.specs.Views.{family_in}
use Rattle.link_entries.proofs.LastOf.{only_place}
use Rattle.link_entries.proofs.finding.entry_of.Goals as goal

pub returns : goal.returns
returns c =
    let x = c.args.value.now in
    let old = c.blank.result ∷ [] in
    only_place (table_of (family_in (set_in x))) (c.args.at, buffer_in x) old c.put_group.new.places _ c.put_group.result refl c.put_group.ensures
