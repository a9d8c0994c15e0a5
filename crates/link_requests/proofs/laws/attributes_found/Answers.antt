use Rattle.link_requests.proofs.Attributes.{message_consists, list_found}
use Rattle.link_requests.proofs.laws.attributes_found.Goals as goal

pub returns-clause-message : goal.returns-clause-message
returns-clause-message c = message_consists

pub returns-clause-list : goal.returns-clause-list
returns-clause-list c = list_found
