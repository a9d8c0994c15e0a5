use Rattle.link_requests.proofs.Messages.{header_found}
use Rattle.link_requests.proofs.laws.header_found.Goals as goal

pub returns : goal.returns
returns c = header_found
