use Rattle.std.proofs.Common.{IfOk, List, ℕ, subst}
use Rattle.std.specs.Io.KnownBytes.{Appends}
use Rattle.link_capture.specs.Meaning.{captured_of}
use Rattle.show_lines.proofs.Pieces.{adds_none}
use Rattle.show_captures.proofs.units.write_event.Goals as goal

pub returns-in-Some-clause-shown : goal.returns-in-Some-clause-shown
returns-in-Some-clause-shown g c =
    let w = g.W.Write.contents c.args.writer.now in
    let u = g.W.Write.contents c.show_packet.new.writer in
    let shower = g.S.ShowUnits.units c.args.shown.now in
    rw c.in-Packet.is (subst (λ n. IfOk c.show_packet.result (λ well. (out : List ℕ) × shower.packets n (captured_of c.in-Packet.packet) out well × Appends w u out)) c.in-Some.ensures c.show_packet.ensures.shown)

pub returns-in-Nothing-clause-pieces : goal.returns-in-Nothing-clause-pieces
returns-in-Nothing-clause-pieces g c = adds_none (g.W.Write.contents c.args.writer.now)

pub returns-in-None-clause-pieces : goal.returns-in-None-clause-pieces
returns-in-None-clause-pieces g c = adds_none (g.W.Write.contents c.args.writer.now)
