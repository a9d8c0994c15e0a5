use Rattle.std.proofs.Common.{[], ◌∷◌, true, refl}
use Rattle.std.proofs.KnownBytes.{Appends-nil}
use Rattle.link_messages.specs.Message.{Stand}
use Rattle.link_show.proofs.Listing.{shown_none}
use Rattle.link_show.proofs.MessageLines.{messages_more, messages_end, messages_all}
use Rattle.link_json.specs.Message.{ShowsMessage, ShowsEnd, Ended, Empty, Done, whole_document}
use Rattle.link_json.proofs.DocumentParts.{prints_more, one_line}
use Rattle.link_json.proofs.messages.write_documents.Goals as goal

pub loop-message-init : goal.loop-message-init
loop-message-init g c =
    let w = g.W.Write.contents c.args.writer.now in
    shown_none (ShowsMessage (g.P.Place.fields c.args.place.now)) (λ messages. Stand c.args.buffer.now 0 messages 0) w refl (Appends-nil w)

pub returns-in_ok-write_place-in-Ok-None-clause-shown : goal.returns-in_ok-write_place-in-Ok-None-clause-shown
returns-in_ok-write_place-in-Ok-None-clause-shown g c =
    let place = g.P.Place.fields c.args.place.now in
    messages_all prints_more c.args.buffer.now c.loop-message.at _ _ _ c.loop-message.whole c.loop-message.invariant (ShowsEnd place c.args.buffer.now)
    (whole_document place [] true ∷ [], Empty (rw c.in-Ok-None.field-0-is at c.in-Ok-None.ensures) c.if-at-eq0.true refl refl, one_line _ _ (whole_document place [] true) c.in_ok-write_place-in-Ok-None.ensures.shown)

pub returns-else-at-eq0-clause-shown : goal.returns-else-at-eq0-clause-shown
returns-else-at-eq0-clause-shown g c =
    messages_all prints_more c.args.buffer.now c.loop-message.at _ _ _ c.loop-message.whole c.loop-message.invariant (ShowsEnd (g.P.Place.fields c.args.place.now) c.args.buffer.now)
    ([], Ended (rw c.in-Ok-None.field-0-is at c.in-Ok-None.ensures) c.if-at-eq0.false refl refl, Appends-nil (g.W.Write.contents c.loop-message.writer))

pub returns-in-Err-clause-shown : goal.returns-in-Err-clause-shown
returns-in-Err-clause-shown g c =
    messages_end prints_more c.args.buffer.now c.loop-message.at _ _ _ c.loop-message.whole c.loop-message.invariant (ShowsEnd (g.P.Place.fields c.args.place.now) c.args.buffer.now)
    c.in_ok-sound-in-Err.sound c.in_ok-sound-in-Err.ensures.shown

pub returns-then-message-eq-NLMSG_DONE-clause-shown : goal.returns-then-message-eq-NLMSG_DONE-clause-shown
returns-then-message-eq-NLMSG_DONE-clause-shown g c =
    let (js, shown, written) = c.in_ok-well.ensures.shown in
    messages_end prints_more c.args.buffer.now c.loop-message.at _ _ _ c.loop-message.whole c.loop-message.invariant (ShowsEnd (g.P.Place.fields c.args.place.now) c.args.buffer.now)
    c.in_ok-well.well (js, Done c.in-Ok-Some.message (rw c.in-Ok-Some.field-0-is at c.in-Ok-Some.ensures) c.if-message-eq-NLMSG_DONE.true shown, written)

pub loop-message-preserved : goal.loop-message-preserved
loop-message-preserved g c =
    messages_more prints_more c.args.buffer.now c.loop-message.at _ _ _ c.loop-message.whole c.loop-message.invariant c.in-Ok-Some.message c.in_ok-well.well
    (rw c.in-Ok-Some.field-0-is at c.in-Ok-Some.ensures) c.if-message-eq-NLMSG_DONE.false c.in_ok-well.ensures.shown
