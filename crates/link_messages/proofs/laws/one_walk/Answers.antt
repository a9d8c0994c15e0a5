use Rattle.link_messages.proofs.Walking.{walk_unique}
use Rattle.link_messages.proofs.laws.one_walk.Goals as goal

pub returns : goal.returns
returns c = walk_unique
