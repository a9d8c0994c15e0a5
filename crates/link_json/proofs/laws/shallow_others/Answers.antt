use Rattle.link_json.proofs.Lines.{shallow, fault_is, list_is, check_is}
use Rattle.link_json.proofs.laws.shallow_others.Goals as goal

pub returns-clause-faults : goal.returns-clause-faults
returns-clause-faults c place d more placed at text =
    shallow place d more placed (fault_is place at text)

pub returns-clause-lists : goal.returns-clause-lists
returns-clause-lists c place d more placed family bytes j well shown =
    shallow place d more placed (list_is place family bytes j well shown)

pub returns-clause-checks : goal.returns-clause-checks
returns-clause-checks c place d more placed family bytes j well shown =
    shallow place d more placed (check_is place family bytes j well shown)
