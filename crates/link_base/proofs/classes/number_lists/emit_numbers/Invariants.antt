use Rattle.std.proofs.Common.{◌≡◌, ◌*◌, take}
use Rattle.link_base.specs.Forms.{size_in}
use Rattle.link_base.specs.Layout.{octets_by}
use Rattle.link_base.specs.Answers.{OverwritesFront}
use Rattle.link_base.proofs.classes.number_lists.emit_numbers.Given as goal

abbrev pub invariant-loop-number : goal.invariant-loop-number
invariant-loop-number g l =
    let w = g.W.ArrayWord in
    record {
      written : OverwritesFront l.fn.buffer l.buffer (octets_by (size_in w.OF) w.value (take l.number-index l.numbers));
      at : l.at ≡ size_in w.OF * l.number-index;
    }
