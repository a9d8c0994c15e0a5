use Rattle.nlroute_ffi.proofs.NameTexts.{bits_shown}
use Rattle.nlroute_ffi.proofs.laws.names_of_bits.Goals as goal

pub returns : goal.returns
returns c = bits_shown
