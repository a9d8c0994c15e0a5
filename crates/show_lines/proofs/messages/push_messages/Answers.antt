use Rattle.std.proofs.Common.{false, true, refl, sym, string_bytes}
use Rattle.std.proofs.lemmas.List.{append-nil}
use Rattle.link_show.proofs.Listing.{and_true, and_false}
use Rattle.show_lines.specs.Messages.{Ended, Broken}
use Rattle.show_lines.proofs.Links.{none_shown, one_shown, all_shown}
use Rattle.show_lines.proofs.messages.push_messages.Goals as goal

pub loop-message-init : goal.loop-message-init
loop-message-init c = none_shown c.args.buffer.now (string_bytes c.args.text.now)

pub loop-message-preserved : goal.loop-message-preserved
loop-message-preserved c =
    one_shown c.args.buffer.now c.loop-message.at c.in-Ok-Some.message (string_bytes c.args.text.now) (string_bytes c.loop-message.text) (string_bytes c.push_message.new.text) c.loop-message.whole c.in_ok-read.read
    (λ ms stand. c.one_more.ensures c.args.buffer.now 0 c.loop-message.at ms c.in-Ok-Some.message stand (rw c.in-Ok-Some.field-0-is at c.in-Ok-Some.ensures)) c.loop-message.invariant c.in_ok-read.ensures

pub returns-in-Ok-None : goal.returns-in-Ok-None
returns-in-Ok-None c =
    let end = rw c.in-Ok-None.field-0-is at c.in-Ok-None.ensures in
    all_shown _ c.loop-message.at _ _ _ _ c.loop-message.whole true _ c.loop-message.invariant (Ended end refl refl) (sym (append-nil (string_bytes c.loop-message.text))) (sym (and_true c.loop-message.whole))

pub returns-in-Err : goal.returns-in-Err
returns-in-Err c = all_shown _ c.loop-message.at _ _ _ _ c.loop-message.whole false _ c.loop-message.invariant (Broken c.in-Err.error c.in-Err.ensures refl refl) c.in_ok-push_error-in-Err.ensures (sym (and_false c.loop-message.whole))
