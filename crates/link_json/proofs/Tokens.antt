-- The tokens of objects and arrays.
use Rattle.std.proofs.Common.{◌≡◌, List, [], ◌∷◌, ◌++◌, refl, append_assoc}
use Rattle.json.specs.Token.{end_object, end_array}
use Rattle.json.specs.Json.{Json}
use Rattle.json.specs.Tree.{members_tokens, items_tokens}
use Rattle.link_json.specs.Doc.{Field, members_of, items_of, fields_tokens, each_tokens}

pub members_joined : (fields : List Field) → members_tokens (members_of fields) ≡ fields_tokens fields ++ end_object ∷ []
members_joined [] = refl
members_joined (x ∷ fields) = simp (members_joined fields, append_assoc)

pub items_joined : (js : List Json) → items_tokens (items_of js) ≡ each_tokens js ++ end_array ∷ []
items_joined [] = refl
items_joined (j ∷ js) = simp (items_joined js, append_assoc)

pub fields_both : (a b : List Field) → fields_tokens (a ++ b) ≡ fields_tokens a ++ fields_tokens b
fields_both [] b = refl
fields_both (x ∷ a) b = simp (fields_both a b, append_assoc)
