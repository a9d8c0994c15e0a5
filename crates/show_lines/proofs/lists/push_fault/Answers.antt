use Rattle.std.proofs.Common.{rules}
use Rattle.show_lines.proofs.lists.push_fault.Goals as goal

pub returns : goal.returns
returns c = search rules
