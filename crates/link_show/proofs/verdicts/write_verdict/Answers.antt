use Rattle.std.proofs.Common.{true, subst}
use Rattle.std.specs.Prelude.{IfOk}
use Rattle.std.proofs.lemmas.List.{append-nil}
use Rattle.netlink_packet_route.specs.Family.{table_of}
use Rattle.link_show.specs.List.{ShowsVerdict, Writes}
use Rattle.link_show.proofs.verdicts.write_verdict.Goals as goal

pub returns : goal.returns
returns g c =
    let list = c.args.list in
    subst (λ i. IfOk c.write_judgement.result (Writes (ShowsVerdict true i list.at (table_of c.args.family) list.bytes.now) (g.W.Sink.output c.args.writer.now) (g.W.Sink.output c.write_judgement.new.writer))) (append-nil c.args.indent.now)
    c.write_judgement.ensures
