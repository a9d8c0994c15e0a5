use Rattle.std.proofs.Common.{refl}
use Rattle.std.specs.Option.{option_copied}
use Rattle.netlink_packet_route.specs.declared.family.Family.TheVariants.{Link}
use Rattle.link_messages.specs.Finding.{stretch_of}
use Rattle.link_messages.specs.Held.{context_of, levels}
use Rattle.link_show.specs.Held.{ShowsSet}
use Rattle.link_show.specs.Message.{two, ShowsLink}
use Rattle.link_show.proofs.MessageLines.{writes_after}
use Rattle.link_show.proofs.links.write_link.Goals as goal

pub returns : goal.returns
returns g c =
    let h = c.args.header.now in
    let list = stretch_of c.args.list in
    writes_after c.write_set.result (ShowsSet c.args.options levels (context_of h.family) two list.0 Link list.1) (ShowsLink c.args.options h list) _ _ _ _ c.in_ok-write_link_line.ensures
    (λ lines well shown. (option_copied c.link_name.result, c.link_name.ensures, lines, shown, refl)) c.write_set.ensures
