use Rattle.std.proofs.Common.{refl}
use Rattle.nlshow.proofs.run_on.Goals as goal

pub returns-in-Text-clause-run : goal.returns-in-Text-clause-run
returns-in-Text-clause-run g c = rw c.in-Text.is (c.run.ensures.report, c.run.ensures.stopped)

pub returns-in-Json-clause-run : goal.returns-in-Json-clause-run
returns-in-Json-clause-run g c = rw c.in-Json.is (record { file = c.args.file }, refl, (c.run-in-Json.ensures.report, c.run-in-Json.ensures.stopped))
