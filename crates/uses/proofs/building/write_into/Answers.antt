use Rattle.std.proofs.Common.{rules}
use Rattle.uses.proofs.building.write_into.Goals as goal

pub returns-then-needed-buffer-clause-failed : goal.returns-then-needed-buffer-clause-failed
returns-then-needed-buffer-clause-failed c = search rules

pub returns-then-needed-buffer-clause-too_small : goal.returns-then-needed-buffer-clause-too_small
returns-then-needed-buffer-clause-too_small c = search rules

pub returns-clause-written : goal.returns-clause-written
returns-clause-written c = search rules
