use Rattle.link_json.proofs.OtherParts.{reads_as}
use Rattle.link_json.proofs.messages.print_document.Goals as goal

pub returns-in-Ok-clause-reads : goal.returns-in-Ok-clause-reads
returns-in-Ok-clause-reads g c j is shallow = reads_as c.args.doc.now j c.in-Ok.ensures.reads_back is shallow

pub returns-in-Err-clause-reads : goal.returns-in-Err-clause-reads
returns-in-Err-clause-reads g c j is shallow = reads_as c.args.doc.now j c.in-Err.ensures.reads_back is shallow
