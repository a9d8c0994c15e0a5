use Rattle.show_lines.proofs.Printed.{all_repeats}
use Rattle.show_lines.proofs.laws.printable.Goals as goal

pub returns : goal.returns
returns c = all_repeats
