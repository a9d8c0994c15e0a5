-- What documents say of errors.
use Rattle.std.proofs.Common.{Bool, true, false, ◌&&◌, List, [], ◌∷◌, ◌++◌, refl, sym, ap, subst, ◌∙◌}
use Rattle.std.proofs.Math.Bool.{and_assoc}
use Rattle.json.specs.Json.{Json}
use Rattle.link_json.specs.Ok.{SaysOk, SayOk}

-- one document
pub one_says : (j : Json) (well : Bool) → SaysOk j well → SayOk (j ∷ []) well
one_says j true h = (true, true, h, refl, refl)
one_says j false h = (false, true, h, refl, refl)

-- more documents
pub and_say : (a b : List Json) (v w : Bool) → SayOk a v → SayOk b w → SayOk (a ++ b) (v && w)
and_say [] b v w h k = subst (λ x. SayOk b (x && w)) (sym h) k
and_say (j ∷ a) b v w (well, rest, says, others, e) k = (well, rest && w, says, and_say a b rest w others k, ap (λ x. x && w) e ∙ and_assoc well rest w)
