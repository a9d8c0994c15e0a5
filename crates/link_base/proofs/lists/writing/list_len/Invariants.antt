use Rattle.std.proofs.Common.{◌≡◌, length, take, map}
use Rattle.link_base.specs.Table.{written_list}
use Rattle.link_base.specs.Answers.{capped}
use Rattle.link_base.proofs.lists.writing.list_len.Given as goal

abbrev pub invariant-loop-value : goal.invariant-loop-value
invariant-loop-value g l = l.len ≡ capped (length (written_list (map g.F.Meaning.means (take l.value-index l.values))))
