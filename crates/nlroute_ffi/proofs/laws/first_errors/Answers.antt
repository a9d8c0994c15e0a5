use Rattle.nlroute_ffi.proofs.FirstErrors.{list_occurs, fault_fits, stored_found, stored_printed}
use Rattle.nlroute_ffi.proofs.laws.first_errors.Goals as goal

pub returns-clause-listed : goal.returns-clause-listed
returns-clause-listed c = λ table s at fault bytes h. fault_fits fault (list_occurs table s at fault bytes h)

pub returns-clause-occurs : goal.returns-clause-occurs
returns-clause-occurs c = list_occurs

pub returns-clause-stored : goal.returns-clause-stored
returns-clause-stored c = stored_found

pub returns-clause-printed : goal.returns-clause-printed
returns-clause-printed c = stored_printed
