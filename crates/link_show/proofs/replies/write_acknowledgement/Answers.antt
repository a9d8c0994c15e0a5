use Rattle.std.proofs.Common.{◌++◌, refl}
use Rattle.netlink_packet_route.specs.declared.family.Family.TheVariants.{Reply}
use Rattle.link_show.specs.List.{Writes}
use Rattle.link_messages.specs.Held.{context_of, levels}
use Rattle.link_show.specs.Held.{ShowsSet}
use Rattle.link_show.specs.Message.{two, ShowsReply, outcome_line}
use Rattle.link_show.specs.Gained.{gains_more}
use Rattle.link_show.proofs.MessageLines.{if_ok}
use Rattle.link_show.proofs.replies.write_acknowledgement.Goals as goal

pub returns : goal.returns
returns g c =
    let output = g.W.Sink.output in
    let a = c.args.reply.now in
    let old = output c.args.writer.now in
    let mid = output c.write_outcome.new.writer in
    let new = output c.write_set.new.writer in
    if_ok (Writes (ShowsSet c.args.options levels (context_of 0) two a.list.at Reply a.list.bytes.now) mid new) (Writes (ShowsReply c.args.options a) old new) c.write_set.result
    (λ well (lines, is, written). (outcome_line a ++ lines, (lines, is, refl), gains_more old mid new (outcome_line a) lines c.in_ok-write_outcome.ensures written)) c.write_set.ensures
