use Rattle.std.proofs.Common.{sym, subst, string_bytes}
use Rattle.netlink_packet_route.specs.Family.{table_of}
use Rattle.nlroute.specs.Run.{RunsFor}
use Rattle.nlroute.proofs.Printed.{printed_report}
use Rattle.nlroute.proofs.running.run.Goals as goal

pub returns-in-Ok-report-clause-report : goal.returns-in-Ok-report-clause-report
returns-in-Ok-report-clause-report g c = λ family named small.
    let r = g.R.Read.remaining c.args.reader.now in
    let t = g.R.Read.remaining c.read_text.new.reader in
    let w = g.W.Write.contents c.args.writer.now in
    let below = g.W.Write.contents c.print_text-in-Ok-report.new.writer in
    let result = c.print_text-in-Ok-report.result in
    subst (λ it. RunsFor (table_of it) r t w below result) (sym (c.in-Some.ensures.only family named))
    (printed_report (table_of c.in-Some.family) r t w below c.in-Ok.text.items c.deref.result.now (string_bytes c.in-Ok-report.out) c.as_str.result.now c.in-Ok-report.status result
    c.in-Ok.ensures.read c.in-Ok.ensures.all c.deref.ensures.value c.in-Ok-report.ensures c.as_str.ensures.value c.print_text-in-Ok-report.ensures small)
