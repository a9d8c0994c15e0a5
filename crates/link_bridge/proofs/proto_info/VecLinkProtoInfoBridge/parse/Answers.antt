use Rattle.std.proofs.Common.{rules}
use Rattle.link_bridge.proofs.proto_info.VecLinkProtoInfoBridge.parse.Goals as goal

pub returns-clause-answer : goal.returns-clause-answer
returns-clause-answer c = search rules

pub returns-clause-fault : goal.returns-clause-fault
returns-clause-fault c = search rules

pub returns-clause-memory : goal.returns-clause-memory
returns-clause-memory c = search rules
