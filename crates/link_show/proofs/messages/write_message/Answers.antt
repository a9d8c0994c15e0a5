use Rattle.std.proofs.Common.{refl}
use Rattle.link_show.specs.Message.{ShowsBody, ShowsMessage}
use Rattle.link_show.proofs.MessageLines.{writes_after}
use Rattle.link_show.proofs.messages.write_message.Goals as goal

pub returns-in-2 : goal.returns-in-2
returns-in-2 g c =
    let m = c.args.message.now in
    writes_after c.write_reply.result (ShowsBody c.args.options m) (ShowsMessage c.args.options m) _ _ _ _ c.in_ok-write_first_line.ensures
    (λ out well is. record { body = out; is_body = is; joined = refl }) c.write_reply.ensures

pub returns-in_default : goal.returns-in_default
returns-in_default g c =
    let m = c.args.message.now in
    writes_after c.write_about_link.result (ShowsBody c.args.options m) (ShowsMessage c.args.options m) _ _ _ _ c.in_ok-write_first_line.ensures
    (λ out well is. record { body = out; is_body = is; joined = refl }) c.write_about_link.ensures
