use Rattle.std.proofs.Common.{subst, sym}
use Rattle.std.specs.Str.{IsUtf8}
use Rattle.show_lines.proofs.Cuts.{name_utf8}
use Rattle.show_lines.proofs.asking.family_of.Goals as goal

pub returns-in-Err-clause-none : goal.returns-in-Err-clause-none
returns-in-Err-clause-none c = λ family e. c.in-Err.ensures.cases.0 (subst IsUtf8 (sym e) (name_utf8 family))
