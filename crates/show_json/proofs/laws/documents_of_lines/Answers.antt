use Rattle.show_json.proofs.Written.{refused_is, answered_are}
use Rattle.show_json.proofs.laws.documents_of_lines.Goals as goal

pub returns-clause-refused : goal.returns-clause-refused
returns-clause-refused c = refused_is

pub returns-clause-answered : goal.returns-clause-answered
returns-clause-answered c = answered_are
