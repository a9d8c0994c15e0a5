use Rattle.std.proofs.Common.{rules}
use Rattle.link_base.proofs.rows.default_nla.DefaultNlaParseable.parse_payload.Goals as goal

pub returns-in-Ok-clause-answer : goal.returns-in-Ok-clause-answer
returns-in-Ok-clause-answer g c = (_, c.put.ensures, search rules)
