use Rattle.nlroute_ffi.proofs.WrittenTexts.{written_held, refused_held}
use Rattle.nlroute_ffi.proofs.laws.texts_and_writing.Goals as goal

pub returns-clause-written : goal.returns-clause-written
returns-clause-written c = written_held

pub returns-clause-refused : goal.returns-clause-refused
returns-clause-refused c = refused_held
