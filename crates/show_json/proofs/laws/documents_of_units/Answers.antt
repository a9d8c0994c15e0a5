use Rattle.show_json.proofs.Written.{packet_are, message_are, time_is, error_is, format_is}
use Rattle.show_json.proofs.laws.documents_of_units.Goals as goal

pub returns-clause-packets : goal.returns-clause-packets
returns-clause-packets c = packet_are

pub returns-clause-messages : goal.returns-clause-messages
returns-clause-messages c = message_are

pub returns-clause-times : goal.returns-clause-times
returns-clause-times c = time_is

pub returns-clause-errors : goal.returns-clause-errors
returns-clause-errors c = error_is

pub returns-clause-formats : goal.returns-clause-formats
returns-clause-formats c = format_is
