use Rattle.std.proofs.Common.{◌++◌, codes, refl, subst}
use Rattle.std.specs.Io.KnownBytes.{Appends}
use Rattle.netlink_packet_route.specs.Report.{line}
use Rattle.show_lines.proofs.Pieces.{adds_one}
use Rattle.show_captures.proofs.times.write_time.Goals as goal

pub returns-in-Ok-clause-shown : goal.returns-in-Ok-clause-shown
returns-in-Ok-clause-shown g c =
    let text = c.time_text-text.result.bytes in (
      line (codes "time " ++ text),
      (text, c.time_text-text.ensures, refl),
      subst (λ t. Appends (g.W.Write.contents c.args.writer.now) (g.W.Write.contents c.writeln.new.self) (line (codes "time " ++ t))) c.as_str-text.ensures.value c.in-Ok.ensures.bytes,
    )

pub returns-in-Ok-clause-pieces : goal.returns-in-Ok-clause-pieces
returns-in-Ok-clause-pieces g c = adds_one _ (g.W.Write.contents c.args.writer.now) (g.W.Write.contents c.writeln.new.self) tt c.in-Ok.ensures.bytes
