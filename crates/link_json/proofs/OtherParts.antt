-- Documents that are not of messages: one member, and lines.
use Rattle.std.proofs.Common.{◌≡◌, ◌≤◌, ℕ, Bool, true, false, true≢false, not, List, [], ◌∷◌, ◌++◌, Option, Some, None, option_and_then, MatchOption, refl, ap, sym, ◌∙◌, codes}
use Rattle.std.specs.Option.{is_some}
use Rattle.std.proofs.lemmas.List.{append-nil}
use Rattle.json.specs.Token.{Token, begin_object, end_object, key}
use Rattle.json.specs.Json.{Json, boolean, value, if_last, max_depth, document}
use Rattle.json.specs.Lex.{tokens}
use Rattle.json.specs.Print.{print}
use Rattle.json.specs.Tree.{json_tokens, depth}
use Rattle.json.proofs.Printed.Trees.{value-json_tokens}
use Rattle.link_base.specs.Table.{Canonical, FirstNotCanonical}
use Rattle.netlink_packet_route.specs.declared.family.Family.{Family}
use Rattle.netlink_packet_route.specs.Family.{table_of}
use Rattle.link_json.specs.Doc.{Field, object_of, fields_tokens}
use Rattle.link_json.specs.Message.{whole_document}
use Rattle.link_json.specs.Other.{ShowsCheck, IsCanonical, IsNot, check_document}
use Rattle.link_json.proofs.Objects.{object_written, field_only, document_written}

-- a document whose member is an object
pub member_document : (old a b k o f e new : List Token) (place fields : List Field) (name : List ℕ) (well : Bool) → a ≡ old ++ begin_object ∷ [] → b ≡ a ++ fields_tokens place
    → k ≡ b ++ key name ∷ [] → o ≡ k ++ begin_object ∷ [] → f ≡ o ++ fields_tokens fields → e ≡ f ++ end_object ∷ []
    → new ≡ e ++ (fields_tokens ((codes "ok", boolean well) ∷ []) ++ end_object ∷ []) → new ≡ old ++ json_tokens (whole_document place ((name, object_of fields) ∷ []) well)
member_document old a b k o f e new place fields name well p q r s t u v =
    document_written old a b e new place ((name, object_of fields) ∷ []) well p q (field_only b k e name (object_of fields) r (object_written k o f e fields s t u)) v

-- a document whose tokens are those of its text reads back
pub reads_as : (ts : List Token) (j : Json) → tokens (print ts) ≡ ts → ts ≡ json_tokens j → depth j ≤ 128 → document (print ts) ≡ Some j
reads_as ts j back is shallow =
    ap (option_and_then (λ p. if_last p.0 p.1)) (ap (value max_depth) (back ∙ is ∙ sym (append-nil (json_tokens j))) ∙ value-json_tokens j max_depth [] shallow)

-- ---- whether a list is canonical

pub canonical_of : (first : Option ℕ) (b : Bool) → is_some first ≡ not b → b ≡ not (is_some first)
canonical_of None true e = refl
canonical_of None false e = absurd (true≢false (sym e))
canonical_of (Some at) true e = absurd (true≢false e)
canonical_of (Some at) false e = refl

pub check_shown : (place : List Field) (family : Family) (bytes : List ℕ) (first : Option ℕ) (well : Bool) → is_some first ≡ not well
    → MatchOption first (Canonical (table_of family) bytes) (λ at. FirstNotCanonical (table_of family) bytes at) → ShowsCheck place family bytes (check_document place family first) well
check_shown place family bytes None well e h = IsCanonical h refl (canonical_of None well e)
check_shown place family bytes (Some at) well e h = IsNot at h refl (canonical_of (Some at) well e)
