-- Objects and arrays that were written in parts.
use Rattle.std.proofs.Common.{◌≡◌, ℕ, Bool, List, [], ◌∷◌, ◌++◌, Result, OnOk, sym, append_assoc, codes}
use Rattle.std.proofs.lemmas.List.{append-nil}
use Rattle.json.specs.Token.{Token, begin_object, end_object, begin_array, end_array, key}
use Rattle.json.specs.Json.{Json, boolean}
use Rattle.json.specs.Tree.{json_tokens}
use Rattle.link_json.specs.Doc.{Field, object_of, array_of, fields_tokens, each_tokens}
use Rattle.link_json.specs.Message.{whole_document}
use Rattle.link_json.proofs.Loops.{on_ok}
use Rattle.link_json.proofs.Tokens.{members_joined, items_joined, fields_both}

-- a member, and more of them
pub field_then : (old a b new : List Token) (k : List ℕ) (j : Json) (fields : List Field) → a ≡ old ++ key k ∷ [] → b ≡ a ++ json_tokens j → new ≡ b ++ fields_tokens fields
    → new ≡ old ++ fields_tokens ((k, j) ∷ fields)
field_then old a b new k j fields p q r = rw (r, q, p) (simp append_assoc)

pub fields_then : (old mid new : List Token) (a b : List Field) → mid ≡ old ++ fields_tokens a → new ≡ mid ++ fields_tokens b → new ≡ old ++ fields_tokens (a ++ b)
fields_then old mid new a b p q = rw (q, p) (simp (fields_both a b, append_assoc))

-- no member
pub no_field : (t : List Token) → t ≡ t ++ fields_tokens []
no_field t = sym (append-nil t)

-- one member
pub field_only : (old a new : List Token) (k : List ℕ) (j : Json) → a ≡ old ++ key k ∷ [] → new ≡ a ++ json_tokens j → new ≡ old ++ fields_tokens ((k, j) ∷ [])
field_only old a new k j p q = field_then old a new new k j [] p q (no_field new)

-- an object
pub object_written : (old a b new : List Token) (fields : List Field) → a ≡ old ++ begin_object ∷ [] → b ≡ a ++ fields_tokens fields → new ≡ b ++ end_object ∷ [] → new ≡ old ++ json_tokens (object_of fields)
object_written old a b new fields p q r = rw (r, q, p) (simp (members_joined fields, append_assoc))

pub object_then : {X E : Type 0} (r : Result X E) (old a b new : List Token) (fields : List Field) → a ≡ old ++ begin_object ∷ [] → b ≡ a ++ fields_tokens fields → OnOk r (new ≡ b ++ end_object ∷ [])
    → OnOk r (new ≡ old ++ json_tokens (object_of fields))
object_then r old a b new fields p q h = on_ok r (object_written old a b new fields p q) h

-- an array
pub array_written : (old a b new : List Token) (js : List Json) → a ≡ old ++ begin_array ∷ [] → b ≡ a ++ each_tokens js → new ≡ b ++ end_array ∷ [] → new ≡ old ++ json_tokens (array_of js)
array_written old a b new js p q r = rw (r, q, p) (simp (items_joined js, append_assoc))

-- a document: where it is from, what it says, and the end
pub document_written : (old a b c new : List Token) (place fields : List Field) (well : Bool) → a ≡ old ++ begin_object ∷ [] → b ≡ a ++ fields_tokens place → c ≡ b ++ fields_tokens fields
    → new ≡ c ++ (fields_tokens ((codes "ok", boolean well) ∷ []) ++ end_object ∷ []) → new ≡ old ++ json_tokens (whole_document place fields well)
document_written old a b c new place fields well p q r s = rw (s, r, q, p) (simp (members_joined (place ++ (fields ++ (codes "ok", boolean well) ∷ [])), fields_both, append_assoc))
