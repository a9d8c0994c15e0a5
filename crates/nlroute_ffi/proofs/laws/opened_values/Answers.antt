use Rattle.nlroute_ffi.proofs.OpenedValues.{heads_open}
use Rattle.nlroute_ffi.proofs.OpenedElements.{tails_open}
use Rattle.nlroute_ffi.proofs.laws.opened_values.Goals as goal

pub returns-clause-attributes : goal.returns-clause-attributes
returns-clause-attributes c = heads_open

pub returns-clause-elements : goal.returns-clause-elements
returns-clause-elements c = tails_open
