use Rattle.std.proofs.Common.{◌≡◌, map, length}
use Rattle.std.specs.Prelude.{vec_len, vec_capacity}
use Rattle.link_base.specs.Table.{Gives}
use Rattle.link_base.specs.FrameTableParts.{offsets_of, fault_of}
use Rattle.link_base.proofs.TableReads.{ReadsTo}
use Rattle.link_base.proofs.lists.reading.read_list.Given as goal

abbrev pub invariant-loop-i : goal.invariant-loop-i
invariant-loop-i g l = record {
  reads : ReadsTo (Gives g.F.Meaning.table) l.bytes (offsets_of l.table) (fault_of l.table) l.i (map g.F.Meaning.means l.values.items);
  len : vec_len l.values ≡ l.i;
  room : vec_capacity l.values ≡ length (offsets_of l.table);
}
