use Rattle.std.proofs.Common.{◌≡◌, List, ℕ, false, subst, ap}
use Rattle.std.specs.Io.KnownBytes.{Appends}
use Rattle.link_capture.specs.Meaning.{captured_of}
use Rattle.link_show.proofs.MessageLines.{if_ok}
use Rattle.show_lines.specs.Show.{ShowsBare}
use Rattle.show_captures.specs.Packet.{ShowsBelow, Route, Short, short_line}
use Rattle.show_lines.proofs.Pieces.{adds_none, adds_one, grows_if}
use Rattle.show_captures.proofs.packets.write_below.Goals as goal

pub returns-in-Messages-clause-shown : goal.returns-in-Messages-clause-shown
returns-in-Messages-clause-shown g c =
    let w = g.W.Write.contents c.args.writer.now in
    let u = g.W.Write.contents c.write_bare.new.writer in
    let carries = c.in-Messages.ensures in
    if_ok (λ well. (out : List ℕ) × ShowsBare c.args.options c.in-Messages.bytes.now out well × Appends w u out) (λ well. (out : List ℕ) × ShowsBelow c.args.options (captured_of c.args.packet.now) out well × Appends w u out) c.write_bare.result
    (λ well h. (h.0, Route carries.0 carries.1 carries.2 (subst (λ s. ShowsBare c.args.options s h.0 well) carries.3 h.1), h.2)) c.write_bare.ensures.shown

pub returns-in-Short-clause-shown : goal.returns-in-Short-clause-shown
returns-in-Short-clause-shown g c =
    let w = g.W.Write.contents c.args.writer.now in
    let u = g.W.Write.contents c.write_short.new.writer in
    let carries = c.in-Short.ensures in
    if_ok (λ well. Appends w u (short_line c.in-Short.length) × (well ≡ false)) (λ well. (out : List ℕ) × ShowsBelow c.args.options (captured_of c.args.packet.now) out well × Appends w u out) c.write_short.result
    (λ well h. (short_line c.in-Short.length, Short carries.0 carries.1 (ap short_line carries.2) h.1, h.0)) c.write_short.ensures.shown

pub returns-in-Messages-clause-pieces : goal.returns-in-Messages-clause-pieces
returns-in-Messages-clause-pieces g c =
    let w = g.W.Write.contents c.args.writer.now in
    let v = g.W.Write.contents c.write_bare.new.writer in grows_if c.write_bare.result w v (λ well h. adds_one h.0 w v tt h.2) c.write_bare.ensures.shown c.write_bare.ensures.stopped

pub returns-in-Other-clause-pieces : goal.returns-in-Other-clause-pieces
returns-in-Other-clause-pieces g c = adds_none (g.W.Write.contents c.args.writer.now)
