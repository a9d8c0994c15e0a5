use Rattle.std.proofs.Common.{rules}
use Rattle.uses.proofs.ipoib.ipoib_mode.Goals as goal

pub returns-in-Some-clause-mode : goal.returns-in-Some-clause-mode
returns-in-Some-clause-mode c = search rules

pub returns-in-None-clause-mode : goal.returns-in-None-clause-mode
returns-in-None-clause-mode c = search rules
