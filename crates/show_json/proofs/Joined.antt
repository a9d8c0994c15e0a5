-- Documents in sequence.
use Rattle.std.proofs.Common.{◌≡◌, Bool, true, ◌&&◌, List, [], ◌∷◌, ◌++◌, ℕ, refl, sym, ap₂, subst, ◌∙◌}
use Rattle.std.specs.List.{flat_map, list_all, AllZip}
use Rattle.std.proofs.lemmas.Grind.{flat_map-append}
use Rattle.link_json.specs.Line.{IsLine}
use Rattle.link_json.specs.Message.{document_line}
use Rattle.link_json.proofs.Oks.{and_say}
use Rattle.show_lines.proofs.Cuts.{all_append}
use Rattle.show_json.specs.Form.{AreDocuments}

pub none_are : AreDocuments [] true
none_are = record { documents = []; each = tt; oks = refl; joined = refl }

pub both_are : (a b : List ℕ) (v w : Bool) → AreDocuments a v → AreDocuments b w → AreDocuments (a ++ b) (v && w)
both_are a b v w h k = record {
  documents = h.documents ++ k.documents;
  each = all_append IsLine h.documents k.documents h.each k.each;
  oks = and_say h.documents k.documents v w h.oks k.oks;
  joined = ap₂ (λ x y. x ++ y) h.joined k.joined ∙ sym (flat_map-append document_line h.documents k.documents);
}

-- by an equal output, and an equal flag
pub equal_are : (a b : List ℕ) (v w : Bool) → a ≡ b → v ≡ w → AreDocuments b w → AreDocuments a v
equal_are a b v w e f h = subst (λ o. AreDocuments o v) (sym e) (subst (AreDocuments b) (sym f) h)

-- those for several items
module _ {X : Type 0} (shows : X → List ℕ → Bool → Type 0) (one : (x : X) (out : List ℕ) (well : Bool) → shows x out well → AreDocuments out well) where
  answers_are : (xs : List X) (answers : List (List ℕ × Bool)) → AllZip (λ x a. shows x a.0 a.1) xs answers → AreDocuments (flat_map (λ a. a.0) answers) (list_all (λ a. a.1) answers)
  answers_are [] [] k = none_are
  answers_are [] (a ∷ answers) k = absurd k
  answers_are (x ∷ xs) [] k = absurd k
  answers_are (x ∷ xs) (a ∷ answers) k =
      both_are a.0 (flat_map (λ b. b.0) answers) a.1 (list_all (λ b. b.1) answers) (one x a.0 a.1 k.0) (answers_are xs answers k.1)

  pub each_are : (xs : List X) (answers : List (List ℕ × Bool)) (out : List ℕ) (whole : Bool) → AllZip (λ x a. shows x a.0 a.1) xs answers
      → out ≡ flat_map (λ a. a.0) answers → whole ≡ list_all (λ a. a.1) answers → AreDocuments out whole
  each_are xs answers out whole each joined all = equal_are out (flat_map (λ a. a.0) answers) whole (list_all (λ a. a.1) answers) joined all (answers_are xs answers each)
