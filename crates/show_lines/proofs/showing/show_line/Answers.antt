use Rattle.std.proofs.Common.{◌≡◌, false, None, codes, refl}
use Rattle.std.specs.Io.KnownBytes.{Appends}
use Rattle.show_lines.specs.Show.{shower_of, TooLong}
use Rattle.show_lines.specs.Progress.{WritesLine}
use Rattle.link_show.proofs.MessageLines.{if_ok}
use Rattle.show_lines.proofs.Pieces.{adds_none}
use Rattle.show_lines.proofs.showing.show_line.Goals as goal

pub returns-then-text-gt-MOST_TEXT-clause-shown : goal.returns-then-text-gt-MOST_TEXT-clause-shown
returns-then-text-gt-MOST_TEXT-clause-shown g c =
    let out = g.S.ShowLines.refused c.args.shown.now c.args.number None (codes "input too long") in
    let shows = shower_of g.S.ShowLines.refused g.S.ShowLines.answered c.args.shown.now in
    let old = g.W.Write.contents c.args.writer.now in
    let new = g.W.Write.contents c.refuse.new.writer in
    if_ok (λ well. Appends old new out × (well ≡ false)) (WritesLine shows (c.args.number, c.args.text.now) old new) c.refuse.result
    (λ well h. (out, TooLong c.if-text-gt-MOST_TEXT.true refl h.1, h.0)) c.refuse.ensures.shown

pub returns-then-is_passed_over-clause-pieces : goal.returns-then-is_passed_over-clause-pieces
returns-then-is_passed_over-clause-pieces g c = adds_none (g.W.Write.contents c.args.writer.now)
