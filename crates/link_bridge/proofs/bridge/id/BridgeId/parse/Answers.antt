use Rattle.std.proofs.Common.{rules}
use Rattle.link_bridge.proofs.bridge.id.BridgeId.parse.Goals as goal

pub returns-in_err-check_at_least-clause-value : goal.returns-in_err-check_at_least-clause-value
returns-in_err-check_at_least-clause-value c = search rules

pub returns-in_err-check_at_least-clause-octets : goal.returns-in_err-check_at_least-clause-octets
returns-in_err-check_at_least-clause-octets c = search rules

pub returns-clause-value : goal.returns-clause-value
returns-clause-value c = search rules

pub returns-clause-octets : goal.returns-clause-octets
returns-clause-octets c = search rules
