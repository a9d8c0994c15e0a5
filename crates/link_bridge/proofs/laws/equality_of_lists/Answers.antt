use Rattle.link_base.specs.Equality.{each}
use Rattle.link_bridge.specs.contracts.af_spec.AfSpecBridgeAttribute.TheImpl.Laws as af_spec
use Rattle.link_bridge.specs.contracts.proto_info.LinkProtoInfoBridgeAttribute.TheImpl.Laws as proto_info
use Rattle.link_bridge.proofs.laws.equality_of_lists.Goals as goal

pub returns-clause-af_spec : goal.returns-clause-af_spec
returns-clause-af_spec c = λ a b e. each af_spec.thorough-law a.0.items b.0.items e

pub returns-clause-proto_info : goal.returns-clause-proto_info
returns-clause-proto_info c = λ a b e. each proto_info.thorough-law a.0.items b.0.items e
