use Rattle.show_captures.specs.Time.{InRange}
use Rattle.show_captures.proofs.times.time_text.Goals as goal

pub returns-in-Some : goal.returns-in-Some
returns-in-Some c = InRange c.in-Some.ensures.0 c.in-Some.ensures.1
