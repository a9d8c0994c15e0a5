use Rattle.std.proofs.Common.{refl}
use Rattle.show_lines.specs.Messages.{AboutNone}
use Rattle.show_lines.proofs.messages.push_message.Goals as goal

pub returns-in_ok-push_error-in-Err : goal.returns-in_ok-push_error-in-Err
returns-in_ok-push_error-in-Err c = (_, AboutNone c.in-Err.error c.in-Err.ensures refl refl, c.in_ok-push_error-in-Err.ensures)
