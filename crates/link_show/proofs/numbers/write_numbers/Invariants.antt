use Rattle.std.proofs.Common.{◌-◌, ◌*◌, map, codes}
use Rattle.link_base.specs.Forms.{size_in}
use Rattle.link_base.specs.Layout.{numbers_at}
use Rattle.link_show.specs.Number.{item_text}
use Rattle.link_show.specs.Text.{after, joined}
use Rattle.link_show.proofs.Written.{WritesFront}
use Rattle.link_show.proofs.numbers.write_numbers.Given as goal

abbrev pub invariant-loop-i : goal.invariant-loop-i
invariant-loop-i g l =
    WritesFront (g.W.Sink.output l.fn.writer) (g.W.Sink.output l.writer) (joined (codes " ") (map (item_text l.of) (numbers_at (size_in l.of) l.count 0 l.bytes)))
    (after l.separator (codes " ") (map (item_text l.of) (numbers_at (size_in l.of) (l.count - l.i) (l.i * size_in l.of) l.bytes)))
