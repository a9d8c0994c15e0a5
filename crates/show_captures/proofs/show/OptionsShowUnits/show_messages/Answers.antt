use Rattle.show_lines.proofs.Pieces.{adds_one, grows_if}
use Rattle.show_captures.proofs.show.OptionsShowUnits.show_messages.Goals as goal

pub returns-clause-pieces : goal.returns-clause-pieces
returns-clause-pieces g c =
    let w = g.W.Write.contents c.args.writer.now in
    let v = g.W.Write.contents c.write_bare.new.writer in grows_if c.write_bare.result w v (λ well h. adds_one h.0 w v tt h.2) c.write_bare.ensures.shown c.write_bare.ensures.stopped
