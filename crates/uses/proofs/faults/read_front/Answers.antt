use Rattle.uses.proofs.Fitting.{front_fails}
use Rattle.uses.proofs.faults.read_front.Goals as goal

pub returns-in-Err-clause-memory : goal.returns-in-Err-clause-memory
returns-in-Err-clause-memory g c =
    let again = c.read_list-in-Err-Fault in
    front_fails g.F.Meaning.table c.args.bytes.now _ c.in-Err-Fault.at c.in-Err-Fault.fault again.result c.in-Err.field-0 c.in-Err.is
    (rw c.in-Err-Fault.field-0-is at c.in-Err-Fault.ensures.answer) c.split_at.ensures.front again.ensures.fault again.ensures.memory
