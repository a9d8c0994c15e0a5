-- The first of some entries, as a loop over attributes or over elements meets it.
use Rattle.std.proofs.Common.{◌≡◌, ◌≢◌, ℕ, ◌+◌, cond, List, [], ◌∷◌, Ok, ap}
use Rattle.std.proofs.lemmas.Bool.{eq-eqb, ne_eqb}
use Rattle.link_base.specs.Table.{Table}
use Rattle.link_entries.specs.declared.entry.Entry.{Entry}
use Rattle.link_entries.specs.declared.fields.Fields.{Fields}
use Rattle.link_entries.specs.Encoded.{alone, before, element_of, elements_of, attribute_of, entry_of}

module _ (table : Table) (octets : List ℕ) (e : Entry) (es : List Entry) where
  -- an attribute, and an element that its list adds
  pub entry_here : e.depth ≡ 0 → entry_of table octets e es ≡ attribute_of table octets e es
  entry_here flat = ap (λ b. cond b (attribute_of table octets e es) (Ok [])) (eq-eqb e.depth 0 flat)

  pub entry_skipped : e.depth ≢ 0 → entry_of table octets e es ≡ Ok []
  entry_skipped deep = ap (λ b. cond b (attribute_of table octets e es) (Ok [])) (ne_eqb e.depth 0 deep)

  module _ (list : Fields) (kind i : ℕ) where
    -- an element, and others
    pub element_next : e.depth ≢ 0 → elements_of table list kind octets i (e ∷ es) ≡ before (alone (element_of table list kind i e octets)) (elements_of table list kind octets (i + 1) es)
    element_next deep = ap (λ b. cond b (Ok []) (before (alone (element_of table list kind i e octets)) (elements_of table list kind octets (i + 1) es))) (ne_eqb e.depth 0 deep)

    -- no elements more: another attribute follows
    pub elements_done : e.depth ≡ 0 → elements_of table list kind octets i (e ∷ es) ≡ Ok []
    elements_done flat = ap (λ b. cond b (Ok []) (before (alone (element_of table list kind i e octets)) (elements_of table list kind octets (i + 1) es))) (eq-eqb e.depth 0 flat)
