use Rattle.show_json.proofs.Inputs.{input_are}
use Rattle.show_json.proofs.laws.documents.Goals as goal

pub returns : goal.returns
returns c = input_are
