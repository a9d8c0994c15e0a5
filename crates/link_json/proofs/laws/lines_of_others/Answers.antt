use Rattle.link_json.proofs.Lines.{line, place_is, fault_is, list_is, check_is}
use Rattle.link_json.proofs.laws.lines_of_others.Goals as goal

pub returns-clause-places : goal.returns-clause-places
returns-clause-places c place is = line is (place_is place)

pub returns-clause-faults : goal.returns-clause-faults
returns-clause-faults c place is at text = line is (fault_is place at text)

pub returns-clause-lists : goal.returns-clause-lists
returns-clause-lists c place is family bytes j well shown =
    line is (list_is place family bytes j well shown)

pub returns-clause-checks : goal.returns-clause-checks
returns-clause-checks c place is family bytes j well shown =
    line is (check_is place family bytes j well shown)
