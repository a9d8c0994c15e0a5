use Rattle.nlroute_ffi.specs.Shown.{HeadHasSomeText}
use Rattle.nlroute_ffi.proofs.AttributeTexts.{of_list, element_texts, number_held, address_held}
use Rattle.nlroute_ffi.proofs.laws.entries_have_texts.Goals as goal

pub returns-clause-attributes : goal.returns-clause-attributes
returns-clause-attributes c = λ family list es bytes flat. of_list family list (HeadHasSomeText family list) (λ x e es h. h.has) bytes es flat

pub returns-clause-elements : goal.returns-clause-elements
returns-clause-elements c = λ family list kind offset flagged b e bytes form at is. (element_texts family list kind offset flagged b e bytes form at is).has

pub returns-clause-numbers : goal.returns-clause-numbers
returns-clause-numbers c = λ family list a kind at i n named low. number_held family list kind i a at n named low

pub returns-clause-addresses : goal.returns-clause-addresses
returns-clause-addresses c = address_held
