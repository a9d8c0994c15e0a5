use Rattle.std.proofs.Common.{refl}
use Rattle.nlroute_ffi.proofs.NameTexts.{number_shown, protocols_shown}
use Rattle.nlroute_ffi.proofs.laws.names_of_numbers.Goals as goal

pub returns-clause-enums : goal.returns-clause-enums
returns-clause-enums c = λ label n width order form. number_shown label n _ form refl

pub returns-clause-coded : goal.returns-clause-coded
returns-clause-coded c = λ label n width order form. number_shown label n _ form refl

pub returns-clause-protocols : goal.returns-clause-protocols
returns-clause-protocols c = protocols_shown
