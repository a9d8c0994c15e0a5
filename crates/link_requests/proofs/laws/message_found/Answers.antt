use Rattle.link_requests.proofs.Messages.{message_found}
use Rattle.link_requests.proofs.laws.message_found.Goals as goal

pub returns : goal.returns
returns c = message_found
