use Rattle.std.proofs.Common.{refl}
use Rattle.show_lines.proofs.Pieces.{adds_one}
use Rattle.show_captures.proofs.packets.write_short.Goals as goal

pub returns-in-Ok-clause-shown : goal.returns-in-Ok-clause-shown
returns-in-Ok-clause-shown g c = (c.in-Ok.ensures.bytes, refl)

pub returns-in-Ok-clause-pieces : goal.returns-in-Ok-clause-pieces
returns-in-Ok-clause-pieces g c = adds_one _ (g.W.Write.contents c.args.writer.now) (g.W.Write.contents c.writeln.new.self) tt c.in-Ok.ensures.bytes
