use Rattle.show_lines.proofs.Pieces.{adds_one}
use Rattle.show_lines.proofs.by_options.OptionsShowLines.refuse.Goals as goal

pub returns-in-Ok-clause-pieces : goal.returns-in-Ok-clause-pieces
returns-in-Ok-clause-pieces g c = adds_one _ (g.W.Write.contents c.args.writer.now) (g.W.Write.contents c.write_refusal.new.writer) tt c.in-Ok.ensures
