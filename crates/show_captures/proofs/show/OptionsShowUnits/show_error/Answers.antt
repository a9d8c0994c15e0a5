use Rattle.show_lines.proofs.Pieces.{adds_one}
use Rattle.show_captures.proofs.show.OptionsShowUnits.show_error.Goals as goal

pub returns-in-Ok-clause-pieces : goal.returns-in-Ok-clause-pieces
returns-in-Ok-clause-pieces g c = adds_one _ (g.W.Write.contents c.args.writer.now) (g.W.Write.contents c.writeln.new.self) tt c.in-Ok.ensures.bytes
