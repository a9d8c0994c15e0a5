use Rattle.std.proofs.Common.{rules}
use Rattle.link_bridge.proofs.bridge_boolopt.BridgeBooleanOptions.parse.Goals as goal

pub returns-in_err-check_length-clause-value : goal.returns-in_err-check_length-clause-value
returns-in_err-check_length-clause-value c = search rules

pub returns-in_err-check_length-clause-octets : goal.returns-in_err-check_length-clause-octets
returns-in_err-check_length-clause-octets c = search rules

pub returns-clause-value : goal.returns-clause-value
returns-clause-value c = search rules

pub returns-clause-octets : goal.returns-clause-octets
returns-clause-octets c = search rules
