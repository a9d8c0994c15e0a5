use Rattle.std.proofs.Common.{[], refl}
use Rattle.link_messages.specs.Message.{Stand}
use Rattle.link_show.specs.Gained.{gains_nothing, gains_more}
use Rattle.link_show.specs.Message.{ShowsMessage, ShowsEnd, Ended, Done}
use Rattle.link_show.proofs.Listing.{shown_none}
use Rattle.link_show.proofs.MessageLines.{messages_more, messages_end, messages_all}
use Rattle.link_show.proofs.messages.write_messages.Goals as goal

pub loop-message-init : goal.loop-message-init
loop-message-init g c = let w = g.W.Sink.output c.args.writer.now in shown_none (ShowsMessage c.args.options) (λ messages. Stand c.args.buffer.now 0 messages 0) w refl (gains_nothing w)

pub loop-message-preserved : goal.loop-message-preserved
loop-message-preserved g c =
    messages_more gains_more c.args.buffer.now c.loop-message.at _ _ _ c.loop-message.whole c.loop-message.invariant c.in-Ok-Some.message c.in_ok-well.well (rw c.in-Ok-Some.field-0-is at c.in-Ok-Some.ensures)
    c.if-message-eq-NLMSG_DONE.false c.in_ok-well.ensures

pub returns-then-message-eq-NLMSG_DONE : goal.returns-then-message-eq-NLMSG_DONE
returns-then-message-eq-NLMSG_DONE g c =
    let (out, shown, written) = c.in_ok-well.ensures in
    messages_end gains_more c.args.buffer.now c.loop-message.at _ _ _ c.loop-message.whole c.loop-message.invariant (ShowsEnd c.args.options c.args.buffer.now) c.in_ok-well.well
    (out, Done c.in-Ok-Some.message (rw c.in-Ok-Some.field-0-is at c.in-Ok-Some.ensures) c.if-message-eq-NLMSG_DONE.true shown, written)

pub returns-in-Ok-None : goal.returns-in-Ok-None
returns-in-Ok-None g c =
    messages_all gains_more c.args.buffer.now c.loop-message.at _ _ _ c.loop-message.whole c.loop-message.invariant (ShowsEnd c.args.options c.args.buffer.now)
    ([], Ended (rw c.in-Ok-None.field-0-is at c.in-Ok-None.ensures) refl refl, gains_nothing (g.W.Sink.output c.loop-message.writer))

pub returns-in-Err : goal.returns-in-Err
returns-in-Err g c =
    messages_end gains_more c.args.buffer.now c.loop-message.at _ _ _ c.loop-message.whole c.loop-message.invariant (ShowsEnd c.args.options c.args.buffer.now) c.in_ok-sound-in-Err.sound
    (c.in_ok-sound-in-Err.ensures c.args.options)
