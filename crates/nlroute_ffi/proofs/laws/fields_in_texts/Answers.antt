use Rattle.nlroute_ffi.proofs.FieldTexts.{fields_named}
use Rattle.nlroute_ffi.proofs.laws.fields_in_texts.Goals as goal

pub returns : goal.returns
returns c = fields_named
