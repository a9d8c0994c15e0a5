use Rattle.nlroute_ffi.proofs.MessageTexts.{message_printed, message_text}
use Rattle.nlroute_ffi.proofs.laws.errors_of_messages.Goals as goal

pub returns-clause-stored : goal.returns-clause-stored
returns-clause-stored c = message_printed

pub returns-clause-printed : goal.returns-clause-printed
returns-clause-printed c = message_text
