use Rattle.std.proofs.Common.{◌≤◌, map, drop, codes}
use Rattle.link_show.specs.Text.{after, joined}
use Rattle.link_show.specs.Octets.{byte_text}
use Rattle.link_show.proofs.Written.{WritesFront}
use Rattle.link_show.proofs.octets.write_address.Given as goal

abbrev pub invariant-loop-byte : goal.invariant-loop-byte
invariant-loop-byte g l =
    (l.skipped ≤ 1)
    × WritesFront (g.W.Sink.output l.fn.writer) (g.W.Sink.output l.writer) (joined (codes ":") (map byte_text l.address)) (after (drop l.skipped (codes ":")) (codes ":") (map byte_text (drop l.byte-index l.address)))
