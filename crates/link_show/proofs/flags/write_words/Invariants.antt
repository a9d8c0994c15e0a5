use Rattle.std.proofs.Common.{drop, codes}
use Rattle.link_base.specs.Labels.{names_in}
use Rattle.link_show.specs.Text.{after, joined}
use Rattle.link_show.specs.Flags.{flag_words, words_of}
use Rattle.link_show.proofs.Written.{WritesFront}
use Rattle.link_show.proofs.flags.write_words.Given as goal

abbrev pub invariant-loop-name : goal.invariant-loop-name
invariant-loop-name g l =
    WritesFront (g.W.Sink.output l.fn.writer) (g.W.Sink.output l.writer) (joined (codes "|") (flag_words (names_in l.names) l.bits))
    (after l.separator (codes "|") (words_of (names_in (drop l.name-index l.names)) l.bits l.left))
