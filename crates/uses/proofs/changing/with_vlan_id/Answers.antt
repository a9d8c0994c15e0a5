use Rattle.std.proofs.Common.{rules}
use Rattle.uses.proofs.changing.with_vlan_id.Goals as goal

pub returns-in_err-values-clause-memory : goal.returns-in_err-values-clause-memory
returns-in_err-values-clause-memory c = search rules

pub returns-clause-changed : goal.returns-clause-changed
returns-clause-changed c = search rules

pub returns-clause-failed : goal.returns-clause-failed
returns-clause-failed c = search rules
