-- Parts of documents: addresses, and the lines of a buffer.
use Rattle.std.proofs.Common.{◌≡◌, ◌==◌, ℕ, List, [], ◌∷◌, ◌++◌, length, Option, sym, ap, subst, ◌∙◌}
use Rattle.std.specs.Net.Text.{ipv4_text}
use Rattle.std.proofs.lemmas.Bool.{cond-true, cond-false, eq-eqb}
use Rattle.std.specs.List.{flat_map}
use Rattle.std.specs.Io.KnownBytes.{Appends}
use Rattle.std.proofs.KnownBytes.{Appends-trans}
use Rattle.std.proofs.lemmas.List.{append-nil}
use Rattle.std.proofs.lemmas.Grind.{flat_map-append}
use Rattle.json.specs.Token.{Token}
use Rattle.json.specs.Json.{Json}
use Rattle.json.specs.Print.{print}
use Rattle.json.specs.Tree.{json_tokens}
use Rattle.link_show.specs.List.{ip_text}
use Rattle.link_show.specs.Octets.{ip6_text}
use Rattle.link_json.specs.Message.{document_line}

-- ---- addresses

pub ip_of_four : (p : List ℕ) → length p ≡ 4 → ip_text p ≡ ipv4_text p
unfolding ip_text
ip_of_four p h = cond-true _ _ _ (eq-eqb _ _ h)

pub ip_of_sixteen : (p : List ℕ) → length p ≡ 16 → ip_text p ≡ ip6_text p
unfolding ip_text
ip_of_sixteen p h = cond-false _ _ _ (ap (λ n. n == 4) h) ∙ cond-true _ _ _ (eq-eqb _ _ h)

-- ---- lines

-- one line
pub one_line : (old new : Option (List ℕ)) (j : Json) → Appends old new (document_line j) → Appends old new (flat_map document_line (j ∷ []))
one_line old new j h = subst (Appends old new) (sym (append-nil (document_line j))) h

-- the line of a document that was empty before
pub empty_line : (old new : Option (List ℕ)) (before after : List Token) (j : Json) → before ≡ [] → after ≡ before ++ json_tokens j → Appends old new (print after ++ 10 ∷ []) → Appends old new (document_line j)
empty_line old new before after j empty stored written = subst (λ t. Appends old new (print t ++ 10 ∷ [])) (stored ∙ ap (λ t. t ++ json_tokens j) empty) written

-- likewise, as the only one
pub cleared_line : (old new : Option (List ℕ)) (before after : List Token) (j : Json) → before ≡ [] → after ≡ before ++ json_tokens j → Appends old new (print after ++ 10 ∷ []) → Appends old new (flat_map document_line (j ∷ []))
cleared_line old new before after j empty stored written = one_line old new j (empty_line old new before after j empty stored written)

-- the lines of documents were written
abbrev pub Prints : Option (List ℕ) → Option (List ℕ) → List Json → Type 0
Prints old new js = Appends old new (flat_map document_line js)

pub prints_more : (old mid new : Option (List ℕ)) (a b : List Json) → Prints old mid a → Prints mid new b → Prints old new (a ++ b)
prints_more old mid new a b p q = subst (Appends old new) (sym (flat_map-append document_line a b)) (Appends-trans old mid new (flat_map document_line a) (flat_map document_line b) p q)
