use Rattle.std.proofs.Common.{◌≡◌, length, take, map}
use Rattle.std.specs.List.{AllByRecursion}
use Rattle.link_base.specs.Table.{written_list}
use Rattle.link_base.specs.Held.{IsInRange}
use Rattle.link_base.specs.Answers.{OverwritesFront}
use Rattle.link_base.proofs.lists.writing.emit_list.Given as goal

abbrev pub invariant-loop-value : goal.invariant-loop-value
invariant-loop-value g l =
    let vs = map g.F.Meaning.means (take l.value-index l.values) in
    record {
      written : OverwritesFront l.fn.buffer l.buffer (written_list vs);
      at : l.at ≡ length (written_list vs);
      in_range : AllByRecursion (IsInRange g.F.Meaning.table) vs;
    }
