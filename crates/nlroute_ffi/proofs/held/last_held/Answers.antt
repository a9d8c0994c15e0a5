use Rattle.std.proofs.Common.{◌∷◌, refl, subst}
use Rattle.netlink_packet_route.specs.declared.family.Family.TheVariants.{Link}
use Rattle.link_messages.specs.Finding.{Stretch}
use Rattle.link_messages.specs.Held.{levels}
use Rattle.link_messages.specs.Lists.{lists_only}
use Rattle.link_messages.specs.Shown.{Shows}
use Rattle.nlroute_ffi.proofs.held.last_held.Goals as goal

pub returns : goal.returns
returns c =
    let (held, shown, kept) = c.in-Ok.ensures in
    let list : Stretch = (0, c.args.list.now) in
    let shows = subst (λ x. Shows lists_only levels x 0 Link list held c.in-Ok.field-0) c.of_message.ensures shown in
    ((Link, list) ∷ held, (held, c.in-Ok.field-0, shows, refl), kept.found)
