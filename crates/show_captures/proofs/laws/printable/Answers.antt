use Rattle.show_captures.proofs.Printing.{input_prints}
use Rattle.show_captures.proofs.laws.printable.Goals as goal

pub returns : goal.returns
returns c = input_prints
