use Rattle.nlroute_ffi.proofs.Answered.{refused_to}
use Rattle.nlroute_ffi.proofs.lists.rewrite.Goals as goal

pub returns-in-Err-clause-answer : goal.returns-in-Err-clause-answer
returns-in-Err-clause-answer c = rw c.refused_by.ensures (refused_to _ c.args.bytes.now c.args.out.now c.args.out.now c.in-Err.error c.in-Err.ensures.answer c.in-Err.ensures.memory)
