use Rattle.std.proofs.Common.{◌≡◌, ◌≤◌, ◌+◌, length, List}
use Rattle.link_base.specs.Frame.{pad}
use Rattle.link_base.specs.Table.{AttrValue, Gives}
use Rattle.link_base.proofs.Streaming.{Underway, Wrote}
use Rattle.link_base.proofs.lists.rewriting.rewrite_list.Given as goal

abbrev pub invariant-loop-rest : goal.invariant-loop-rest
invariant-loop-rest g l = record {
  vs : List AttrValue;
  underway : Underway (Gives g.F.Meaning.table) l.bytes l.place l.rest vs;
  wrote : Wrote vs l.fn.buffer l.buffer l.len l.unfit (pad (length l.bytes));
  few : l.place + length l.rest ≤ length l.bytes;
  count : l.place ≡ length vs;
}

abbrev pub decreases-loop-rest : goal.decreases-loop-rest
decreases-loop-rest g l = length l.rest
