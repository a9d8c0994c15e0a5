use Rattle.netlink_packet_route.proofs.Reported.{attr_more}
use Rattle.netlink_packet_route.proofs.reporting.value_text.Goals as goal

pub loop-value-preserved : goal.loop-value-preserved
loop-value-preserved g c =
    attr_more g.F.Meaning.means c.args.values.now c.loop-value.value-index c.value-item.result c.kind.result c.value_len.result _ _ c.requires c.loop-value-test.true c.value-item.is c.kind.ensures c.value_len.ensures c.loop-value.invariant c.in_ok-push_attr.ensures
