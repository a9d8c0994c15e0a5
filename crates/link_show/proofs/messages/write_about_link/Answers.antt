use Rattle.std.proofs.Common.{[], refl, subst}
use Rattle.std.proofs.lemmas.Bool.{iff_false}
use Rattle.link_show.specs.Message.{two, message_error_line, ShowsLink, About, General, NoLink}
use Rattle.link_show.proofs.MessageLines.{if_ok}
use Rattle.link_show.proofs.messages.write_about_link.Goals as goal

pub returns-then-is_general : goal.returns-then-is_general
returns-then-is_general g c = ([], General (c.is_general.ensures.0 c.if-is_general.true) refl refl, g.met.W.Sink.none c.args.writer.now)

pub returns-in-Ok : goal.returns-in-Ok
returns-in-Ok g c =
    let plain = iff_false c.is_general.ensures c.if-is_general.false in
    let h = c.in-Ok.header in
    if_ok _ _ c.write_link.result
    (λ well (out, shown, written). (out, About h plain c.in-Ok.ensures.0 (subst (λ list. ShowsLink c.args.options h list out well) c.in-Ok.ensures.1 shown), written)) c.write_link.ensures

pub returns-in_ok-write_message_error-in-Err : goal.returns-in_ok-write_message_error-in-Err
returns-in_ok-write_message_error-in-Err g c =
    (message_error_line two c.in-Err.error, NoLink c.in-Err.error c.requires (iff_false c.is_general.ensures c.if-is_general.false) c.in-Err.ensures refl refl, c.in_ok-write_message_error-in-Err.ensures)
