use Rattle.std.proofs.Common.{map, drop, codes}
use Rattle.std.specs.Net.Text.{hex}
use Rattle.link_show.specs.Text.{after, joined}
use Rattle.link_show.proofs.Written.{WritesFront}
use Rattle.link_show.proofs.ip.write_segments.Given as goal

abbrev pub invariant-loop-segment : goal.invariant-loop-segment
invariant-loop-segment g l =
    WritesFront (g.W.Sink.output l.fn.writer) (g.W.Sink.output l.writer) (joined (codes ":") (map hex l.segments)) (after l.separator (codes ":") (map hex (drop l.segment-index l.segments)))
