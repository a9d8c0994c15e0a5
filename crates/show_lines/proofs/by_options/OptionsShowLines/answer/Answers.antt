use Rattle.std.proofs.Common.{◌++◌, refl}
use Rattle.std.proofs.lemmas.Result.{IfOk-weaker}
use Rattle.netlink_packet_route.specs.Report.{line}
use Rattle.show_lines.specs.Show.{repeated}
use Rattle.show_lines.proofs.Pieces.{adds_one, grows_if}
use Rattle.show_lines.proofs.by_options.OptionsShowLines.answer.Goals as goal

pub returns-clause-shown : goal.returns-clause-shown
returns-clause-shown g c = IfOk-weaker c.write_answer.result _ _ (λ well h. (line (repeated c.args.text.now) ++ h.0, (h.0, h.1, refl), h.2)) c.write_answer.ensures.shown

pub returns-clause-pieces : goal.returns-clause-pieces
returns-clause-pieces g c =
    let w = g.W.Write.contents c.args.writer.now in
    let v = g.W.Write.contents c.write_answer.new.writer in grows_if c.write_answer.result w v (λ well h. adds_one (line (repeated c.args.text.now) ++ h.0) w v tt h.2) c.write_answer.ensures.shown c.write_answer.ensures.stopped
