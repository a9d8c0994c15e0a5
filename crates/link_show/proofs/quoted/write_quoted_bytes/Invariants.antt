use Rattle.std.proofs.Common.{take}
use Rattle.std.specs.List.{flat_map}
use Rattle.link_show.specs.Quoted.{quoted_byte}
use Rattle.link_show.specs.Sink.{Gains}
use Rattle.link_show.proofs.quoted.write_quoted_bytes.Given as goal

abbrev pub invariant-loop-byte : goal.invariant-loop-byte
invariant-loop-byte g l = Gains (g.W.Sink.output l.fn.writer) (g.W.Sink.output l.writer) (flat_map quoted_byte (take l.byte-index l.bytes))
