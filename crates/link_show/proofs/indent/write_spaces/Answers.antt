use Rattle.std.proofs.Common.{subst, OnOk, arith}
use Rattle.std.proofs.lemmas.List.{take-replicate}
use Rattle.link_show.specs.Sink.{Gains}
use Rattle.link_show.proofs.indent.write_spaces.Goals as goal

pub returns-in_default : goal.returns-in_default
returns-in_default g c =
    subst (λ t. OnOk c.put-in_default.result (Gains (g.W.Sink.output c.args.writer.now) (g.W.Sink.output c.put-in_default.new.self) t)) (take-replicate c.args.count 255 32 (omega (arith, c.ranges.count.fits))) c.put-in_default.ensures
