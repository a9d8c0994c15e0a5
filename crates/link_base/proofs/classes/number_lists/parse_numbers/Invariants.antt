use Rattle.std.proofs.Common.{◌≡◌, map}
use Rattle.std.specs.Prelude.{vec_len, vec_capacity}
use Rattle.link_base.specs.Forms.{size_in}
use Rattle.link_base.proofs.Layouts.{AreRead}
use Rattle.link_base.proofs.classes.number_lists.parse_numbers.Given as goal

abbrev pub invariant-loop-i : goal.invariant-loop-i
invariant-loop-i g l = record {
  read : AreRead (size_in g.W.ArrayWord.OF) l.i 0 l.payload (map g.W.ArrayWord.value l.numbers.items);
  len : vec_len l.numbers ≡ l.i;
  room : vec_capacity l.numbers ≡ l.count;
}
