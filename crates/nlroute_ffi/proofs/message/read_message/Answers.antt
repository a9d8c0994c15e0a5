use Rattle.std.proofs.Common.{inr, Ok, drop, subst}
use Rattle.link_messages.specs.Message.{NextOfAny}
use Rattle.nlroute_ffi.proofs.message.read_message.Goals as goal

pub returns-in-Ok : goal.returns-in-Ok
returns-in-Ok c =
    let is = subst (λ found. NextOfAny c.args.at (drop c.args.at c.args.bytes.now) (Ok found)) c.in-Ok-Some.field-0-is c.in-Ok-Some.ensures in
    (c.in-Ok-Some.message, is, c.in-Ok.ensures)

pub returns-in-Err-fields_of : goal.returns-in-Err-fields_of
returns-in-Err-fields_of c =
    let is = subst (λ found. NextOfAny c.args.at (drop c.args.at c.args.bytes.now) (Ok found)) c.in-Ok-Some.field-0-is c.in-Ok-Some.ensures in
    inr (c.in-Ok-Some.message, is, c.in-Err-fields_of.ensures)
