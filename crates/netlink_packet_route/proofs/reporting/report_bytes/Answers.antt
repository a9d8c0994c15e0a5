use Rattle.std.proofs.Common.{map, refl}
use Rattle.netlink_packet_route.specs.Report.{Fault, TooLong}
use Rattle.netlink_packet_route.proofs.Reported.{success}
use Rattle.netlink_packet_route.proofs.reporting.report_bytes.Goals as goal

pub returns-in-Err-Fault : goal.returns-in-Err-Fault
returns-in-Err-Fault g c = Fault c.in-Err-Fault.at c.in-Err-Fault.fault (rw c.in-Err-Fault.field-0-is at c.in-Err-Fault.ensures.answer) c.in_ok-fault_text-in-Err-Fault.ensures refl

pub returns-in-Err-TooLong : goal.returns-in-Err-TooLong
returns-in-Err-TooLong g c =
    let unfit = rw c.in-Err-TooLong.field-0-is at c.in-Err-TooLong.ensures.answer in
    TooLong unfit.0 c.in-Err-TooLong.index unfit.1 unfit.2 c.in_ok-too_long_text-in-Err-TooLong.ensures refl

pub returns : goal.returns
returns g c =
    success g.F.Meaning.table g.F.Meaning.means c.args.bytes.now c.in-Ok.read.0.items c.deref.result.now c.in-Ok.read.1.items c.deref-2.result.now c.deref-3.result.now _ _ c.verdict.result.now
    c.deref.ensures.value c.deref-2.ensures.value c.deref-3.ensures.value c.in-Ok.ensures.answer c.in_ok-text.ensures c.verdict.ensures c.in_ok-push_str.ensures.bytes
