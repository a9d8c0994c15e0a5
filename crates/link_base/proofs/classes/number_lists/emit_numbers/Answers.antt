use Rattle.std.proofs.Common.{◌≡◌, ◌∙◌, refl, ap, arith}
use Rattle.link_base.specs.Forms.{size_in}
use Rattle.link_base.proofs.Layouts.{IsOctets-numbers, number_after}
use Rattle.link_base.proofs.classes.number_lists.emit_numbers.Goals as goal

pub loop-number-preserved : goal.loop-number-preserved
loop-number-preserved g c =
    let w = g.W.ArrayWord in
    let size : c.size-at.result ≡ size_in w.OF = c.size-at.ensures.value ∙ ap size_in c.OF.ensures in
    let so_far = c.loop-number.invariant in
    record {
      written = number_after (size_in w.OF) w.value c.args.buffer.now c.loop-number.buffer _ c.emit.new.buffer c.args.numbers.now c.loop-number.number-index c.loop-number.at c.number-item.result c.loop-number-test.true c.number-item.is c.requires so_far.at so_far.written c.emit.ensures refl;
      at = omega (arith, so_far.at, size);
    }

pub returns-clause-octets : goal.returns-clause-octets
returns-clause-octets g c = IsOctets-numbers (size_in g.W.ArrayWord.OF) g.W.ArrayWord.value c.args.numbers.now
