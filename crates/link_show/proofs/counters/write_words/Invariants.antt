use Rattle.std.proofs.Common.{◌≡◌, ◌≤◌, ℕ, ◌-◌, ◌*◌, codes}
use Rattle.link_base.specs.Forms.{size_in}
use Rattle.link_base.specs.Labels.{names_in, name_in}
use Rattle.link_base.specs.Layout.{numbers_at}
use Rattle.link_show.specs.Counters.{counter_words}
use Rattle.link_show.specs.Text.{after, joined}
use Rattle.link_show.proofs.Written.{WritesFront}
use Rattle.link_show.proofs.counters.write_words.Given as goal

abbrev pub invariant-loop-i : goal.invariant-loop-i
invariant-loop-i g l =
    WritesFront (g.W.Sink.output l.fn.writer) (g.W.Sink.output l.writer) (joined (codes " ") (counter_words (names_in l.names) l.of 0 0 (numbers_at (size_in l.of) l.count 0 l.bytes)))
    (after l.separator (codes " ") (counter_words (names_in l.names) l.of l.i l.zeros (numbers_at (size_in l.of) (l.count - l.i) (l.i * size_in l.of) l.bytes)))
    × (l.zeros ≤ l.i)
    × ((k : ℕ) → l.i ≤ k → name_in (names_in l.left) k ≡ name_in (names_in l.names) k)
