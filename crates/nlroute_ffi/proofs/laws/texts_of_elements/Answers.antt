use Rattle.nlroute_ffi.proofs.AttributeTexts.{element_texts}
use Rattle.nlroute_ffi.proofs.laws.texts_of_elements.Goals as goal

pub returns : goal.returns
returns c = λ family list kind offset flagged b e bytes form at is. (element_texts family list kind offset flagged b e bytes form at is).text
