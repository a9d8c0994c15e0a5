use Rattle.nlroute_ffi.proofs.ErrorTexts.{error_found}
use Rattle.nlroute_ffi.proofs.laws.errors_in_structs.Goals as goal

pub returns : goal.returns
returns c = error_found
