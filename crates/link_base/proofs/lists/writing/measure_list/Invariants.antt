use Rattle.std.proofs.Common.{take, map}
use Rattle.link_base.specs.Answers.{IsMeasured}
use Rattle.link_base.proofs.lists.writing.measure_list.Given as goal

abbrev pub invariant-loop-i : goal.invariant-loop-i
invariant-loop-i g l = IsMeasured (map g.F.Meaning.means (take l.i l.values)) l.len
