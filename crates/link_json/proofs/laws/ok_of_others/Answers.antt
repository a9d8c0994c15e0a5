use Rattle.link_json.proofs.Lines.{says_ok, place_is, fault_is, list_is, check_is}
use Rattle.link_json.proofs.laws.ok_of_others.Goals as goal

pub returns-clause-places : goal.returns-clause-places
returns-clause-places c place = says_ok (place_is place)

pub returns-clause-faults : goal.returns-clause-faults
returns-clause-faults c place at text = says_ok (fault_is place at text)

pub returns-clause-lists : goal.returns-clause-lists
returns-clause-lists c place family bytes j well shown =
    says_ok (list_is place family bytes j well shown)

pub returns-clause-checks : goal.returns-clause-checks
returns-clause-checks c place family bytes j well shown =
    says_ok (check_is place family bytes j well shown)
