use Rattle.link_requests.proofs.Marks.{message_marked, message_once, all_unmarked}
use Rattle.link_requests.proofs.laws.marks.Goals as goal

pub returns-clause-marked : goal.returns-clause-marked
returns-clause-marked c = message_marked

pub returns-clause-once : goal.returns-clause-once
returns-clause-once c = message_once

pub returns-clause-read : goal.returns-clause-read
returns-clause-read c = all_unmarked
