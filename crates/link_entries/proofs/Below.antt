-- What follows an attribute: elements, if it is a list.
use Rattle.std.proofs.Common.{◌≡◌, ◌⊎◌, ℕ, ◌+◌, Bool, true, false, cond, ◌==◌, ◌&&◌, List, [], ◌∷◌, Ok, Err, refl, ap, ◌∙◌, inl, inr}
use Rattle.link_base.specs.Table.{Table}
use Rattle.link_entries.specs.declared.entry.Entry.{Entry}
use Rattle.link_entries.specs.declared.fields.Fields.{Fields}
use Rattle.link_entries.specs.declared.fields.Fields.TheVariants as fields
use Rattle.link_entries.specs.declared.misfit.Misfit.TheVariants.{BadElement}
use Rattle.link_entries.specs.Payload.{payload_of}
use Rattle.link_entries.specs.Encoded.{alone, before, begins_well, element_content, element_of, elements_of}
use Rattle.link_entries.proofs.WrittenLists.{no_bytes}

cond_same : {A : Type 0} (b : Bool) (x : A) → cond b x x ≡ x
cond_same true x = refl
cond_same false x = refl

module _ (table : Table) (k : ℕ) (e : Entry) (octets p : List ℕ) where
  -- an element follows an attribute that has none
  refused : (own : Fields) (es : List Entry) → ((x : Entry) → element_content table own 0 x octets ≡ Err BadElement) → begins_well es ≡ false → elements_of table own k octets 0 es ≡ Err (0, BadElement)
  refused own [] h deep = absurd cc
  refused own (x ∷ xs) h deep =
      let b = (x.depth == 1) && (x.kind == k) in
      let here : element_of table own k 0 x octets ≡ Err BadElement = ap (λ r. cond b r (Err BadElement)) (h x) ∙ cond_same b (Err BadElement) in
      ap (λ c. cond c (Ok []) (before (alone (element_of table own k 0 x octets)) (elements_of table own k octets (0 + 1) xs))) deep
      ∙ ap (λ r. before (alone r) (elements_of table own k octets (0 + 1) xs)) here

  -- if elements follow, the attribute has no payload of its own, or they cannot be written
  pub below : (own : Fields) (es : List Entry) → begins_well es ≡ false → payload_of own e octets ≡ Ok p → (p ≡ []) ⊎ (elements_of table own k octets 0 es ≡ Err (0, BadElement))
  below (fields.Numbers n) es deep has = inl (no_bytes (fields.Numbers n) e octets p refl has)
  below (fields.Addresses n) es deep has = inl (no_bytes (fields.Addresses n) e octets p refl has)
  below (fields.List flag) es deep has = inl (no_bytes (fields.List flag) e octets p refl has)
  below own es deep has = inr (refused own es (λ x. refl) deep)
