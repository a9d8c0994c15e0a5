use Rattle.std.proofs.Common.{refl}
use Rattle.link_show.specs.Message.{two, message_error_line, Reply, NoReply}
use Rattle.link_show.proofs.MessageLines.{if_ok}
use Rattle.link_show.proofs.messages.write_reply.Goals as goal

pub returns-in-Ok : goal.returns-in-Ok
returns-in-Ok g c =
    if_ok _ _ c.write_acknowledgement.result (λ well (out, shown, written). (out, Reply c.in-Ok.reply c.in-Ok.ensures shown, written))
    c.write_acknowledgement.ensures

pub returns-in_ok-write_message_error-in-Err : goal.returns-in_ok-write_message_error-in-Err
returns-in_ok-write_message_error-in-Err g c =
    (message_error_line two c.in-Err.error, NoReply c.in-Err.error c.requires c.in-Err.ensures refl refl, c.in_ok-write_message_error-in-Err.ensures)
