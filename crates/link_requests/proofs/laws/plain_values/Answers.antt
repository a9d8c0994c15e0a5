use Rattle.link_requests.proofs.Plain.{plain_values}
use Rattle.link_requests.proofs.laws.plain_values.Goals as goal

pub returns : goal.returns
returns c = plain_values
