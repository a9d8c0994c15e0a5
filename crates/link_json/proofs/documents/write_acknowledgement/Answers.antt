use Rattle.std.proofs.Common.{◌∷◌, [], refl}
use Rattle.link_show.proofs.MessageLines.{if_ok}
use Rattle.link_json.specs.Message.{ShowsReply, ShowsBody, WritesFields, Reply, NoReply, message_error}
use Rattle.link_json.proofs.documents.write_acknowledgement.Goals as goal

pub returns-in-Ok : goal.returns-in-Ok
returns-in-Ok c =
    let a = c.in-Ok.reply in
    let old = c.args.doc.now in
    let new = c.write_reply.new.doc in
    if_ok (WritesFields (ShowsReply a) old new) (WritesFields (ShowsBody c.args.message.now) old new) c.write_reply.result (λ well s. (s.0, Reply a c.in-Ok.ensures s.1, s.2)) c.write_reply.ensures

pub returns-in_ok-write_message_error-in-Err : goal.returns-in_ok-write_message_error-in-Err
returns-in_ok-write_message_error-in-Err c =
    (message_error c.in-Err.error ∷ [], NoReply c.in-Err.error c.requires c.in-Err.ensures refl refl, c.in_ok-write_message_error-in-Err.ensures)
