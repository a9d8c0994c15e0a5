-- Keys: which are distinct.
use Rattle.std.proofs.Common.{◌≡◌, ◌≢◌, ℕ, suc, Bool, true, not, ◌&&◌, List, [], ◌∷◌, ◌++◌, refl, sym, ap, subst, ◌∙◌, arith, true≢false, bytes_eq}
use Rattle.std.specs.List.{All, list_all, list_any}
use Rattle.std.proofs.lemmas.Bool.{and_parts, not-true}
use Rattle.std.proofs.lemmas.List.Elements.{All-nil, All-cons, All-head, All-tail}
use Rattle.std.proofs.lemmas.List.Folds.{list_any_at, Any-from_list_any}
use Rattle.std.proofs.lemmas.List.Kept.{AllPairs-cons}
use Rattle.std.proofs.lemmas.Slice.Eq.{bytes_eq-Decides}
use Rattle.link_base.specs.Named.{are_distinct as distinct_by}
use Rattle.json.specs.Strict.{keys, AreDistinct}
use Rattle.link_json.specs.Doc.{Field, members_of}
use Rattle.link_json.specs.Line.{document_keys}

abbrev pub Key : Type 0
Key = List ℕ

-- whether no key is there twice
abbrev pub are_distinct : List Key → Bool
are_distinct ks = distinct_by bytes_eq ks

-- whether each of the keys is among those
abbrev are_among : List Key → List Key → Bool
are_among those ks = list_all (λ k. list_any (bytes_eq k) those) ks

-- whether the keys of members are those of documents, and distinct
abbrev pub are_keyed : List Field → Bool
are_keyed fields = are_among document_keys (keys (members_of fields)) && are_distinct (keys (members_of fields))

-- literal keys
pub distinct : (ks : List Key) → are_distinct ks ≡ true → AreDistinct ks
distinct [] e = λ i j d lt within. absurd (omega arith)
distinct (k ∷ ks) e =
    let p = and_parts (not (list_any (λ x. bytes_eq x k) ks)) (are_distinct ks) e in
    let absent = not-true (list_any (λ x. bytes_eq x k) ks) p.0 in
    AllPairs-cons (λ a b. a ≢ b) k ks
    (λ i d within same. true≢false (sym (list_any_at (λ x. bytes_eq x k) ks i d within ((bytes_eq-Decides _ k).1 (sym same))) ∙ absent)) (distinct ks p.1)

-- ---- keys beside others

-- what holds of keys holds of some of them
some : (P : Key → Type 0) (front those ks : List Key) → All P (front ++ those) → are_among those ks ≡ true → All P (front ++ ks)
some P [] those [] h e = All-nil P
some P [] those (k ∷ ks) h e =
    let p = and_parts (list_any (bytes_eq k) those) (are_among those ks) e in
    let (i, x, within, is, same) = Any-from_list_any (bytes_eq k) those p.0 in
    All-cons P k ks (subst P (is ∙ sym ((bytes_eq-Decides k x).0 same)) (h i x within)) (some P [] those ks h p.1)
some P (x ∷ front) those ks h e = All-cons P x (front ++ ks) (All-head P x (front ++ those) h) (some P front those ks (All-tail P x (front ++ those) h) e)

-- keys that are distinct from those are so from some of them
distinct_beside : (front those ks : List Key) → AreDistinct (front ++ those) → are_among those ks ≡ true → are_distinct ks ≡ true → AreDistinct (front ++ ks)
distinct_beside [] those ks h e f = distinct ks f
distinct_beside (x ∷ front) those ks h e f =
    let rest = distinct_beside front those ks (λ i j d lt within. h (suc i) (suc j) d (omega arith) (omega arith)) e f in
    AllPairs-cons (λ a b. a ≢ b) x (front ++ ks) (some (λ y. x ≢ y) front those ks (λ i d within. h 0 (suc i) d (omega arith) (omega arith)) e) rest

-- ---- keys of members

keys_both : (a b : List Field) → keys (members_of (a ++ b)) ≡ keys (members_of a) ++ keys (members_of b)
keys_both [] b = refl
keys_both (x ∷ a) b = ap (λ ks. x.0 ∷ ks) (keys_both a b)

-- members behind those of a place
pub distinct_members : (place fields : List Field) → AreDistinct (keys (members_of place) ++ document_keys) → are_keyed fields ≡ true
    → AreDistinct (keys (members_of (place ++ fields)))
distinct_members place fields h e =
    let ks = keys (members_of fields) in
    let both = and_parts (are_among document_keys ks) (are_distinct ks) e in
    subst AreDistinct (sym (keys_both place fields)) (distinct_beside (keys (members_of place)) document_keys ks h both.0 both.1)
