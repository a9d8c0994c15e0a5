use Rattle.nlroute_ffi.specs.Shown.{HeadHasText}
use Rattle.nlroute_ffi.proofs.AttributeTexts.{of_list}
use Rattle.nlroute_ffi.proofs.laws.texts_of_attributes.Goals as goal

pub returns : goal.returns
returns c = λ family list es bytes flat. of_list family list (HeadHasText family list) (λ x e es h. h.text) bytes es flat
