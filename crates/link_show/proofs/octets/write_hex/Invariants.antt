use Rattle.std.proofs.Common.{take}
use Rattle.link_show.specs.Sink.{Gains}
use Rattle.link_show.specs.Octets.{hex_text}
use Rattle.link_show.proofs.octets.write_hex.Given as goal

abbrev pub invariant-loop-byte : goal.invariant-loop-byte
invariant-loop-byte g l = Gains (g.W.Sink.output l.fn.writer) (g.W.Sink.output l.writer) (hex_text (take l.byte-index l.bytes))
