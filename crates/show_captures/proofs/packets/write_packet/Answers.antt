use Rattle.std.proofs.Common.{◌++◌, List, ℕ, refl, subst}
use Rattle.std.specs.Io.KnownBytes.{Appends}
use Rattle.std.proofs.KnownBytes.{Appends-trans}
use Rattle.link_capture.specs.Meaning.{captured_of}
use Rattle.link_show.proofs.MessageLines.{if_ok}
use Rattle.show_lines.specs.Pieces.{Grows}
use Rattle.show_lines.proofs.Pieces.{adds_one, adds_more, if_written}
use Rattle.show_captures.specs.Packet.{ShowsPacket, ShowsBelow, packet_line}
use Rattle.show_captures.proofs.packets.write_packet.Goals as goal

pub returns-in-Ok-clause-shown : goal.returns-in-Ok-clause-shown
returns-in-Ok-clause-shown g c =
    let w = g.W.Write.contents c.args.writer.now in
    let v = g.W.Write.contents c.write_line.new.writer in
    let u = g.W.Write.contents c.write_below.new.writer in
    let p = captured_of c.args.packet.now in
    let time = c.time_text-time.result.bytes in
    let written = subst (λ t. Appends w v (packet_line c.args.number t p)) c.as_str.ensures.value c.in-Ok.ensures in
    if_ok (λ well. (out : List ℕ) × ShowsBelow c.args.options p out well × Appends v u out) (λ well. (out : List ℕ) × ShowsPacket c.args.options c.args.number p out well × Appends w u out) c.write_below.result
    (λ well below. (
      packet_line c.args.number time p ++ below.0,
      record { time = time; is_time = c.time_text-time.ensures; below = below.0; shown = below.1; joined = refl },
      Appends-trans w v u (packet_line c.args.number time p) below.0 written below.2,
    )) c.write_below.ensures.shown

pub returns-in-Ok-clause-pieces : goal.returns-in-Ok-clause-pieces
returns-in-Ok-clause-pieces g c =
    let w = g.W.Write.contents c.args.writer.now in
    let v = g.W.Write.contents c.write_line.new.writer in
    let u = g.W.Write.contents c.write_below.new.writer in
    if_written (Grows v u) (Grows w u) c.write_below.result (adds_more w v u (adds_one (packet_line c.args.number c.as_str.result.now (captured_of c.args.packet.now)) w v tt c.in-Ok.ensures)) c.write_below.ensures.pieces
