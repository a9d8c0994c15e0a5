use Rattle.std.proofs.Common.{rules}
use Rattle.uses.proofs.reading.monitoring.Goals as goal

-- src/reading.rt:61:1
pub returns-clause-found : goal.returns-clause-found
returns-clause-found c = (c.in_ok-bond.bond.items, search rules, search rules, search rules)
