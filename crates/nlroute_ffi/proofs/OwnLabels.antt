-- A test that each attribute type passes, what is known of the type of an entry passes.
use Rattle.std.proofs.Common.{◌≡◌, ℕ, ◌==◌, Bool, true, false, cond, Option, Some, None, Ok, Err, refl, ap, subst}
use Rattle.std.proofs.lemmas.Bool.{and_parts}
use Rattle.link_base.specs.declared.rows.form.Form.{Form}
use Rattle.link_base.specs.declared.rows.form.Form.TheVariants as forms
use Rattle.link_base.specs.Table.{Label, label_at}
use Rattle.link_base.specs.Borrowed.{elements_at}
use Rattle.link_base.specs.WellFormed.{are_rows}
use Rattle.netlink_packet_route.specs.declared.family.Family.{Family}
use Rattle.netlink_packet_route.specs.Family.{table_of}
use Rattle.link_entries.specs.Fields.{number_form}
use Rattle.link_entries.specs.declared.entry.Entry.{Entry}
use Rattle.link_entries.specs.declared.misfit.Misfit.TheVariants.{BadElement}
use Rattle.nlroute_ffi.specs.ValueText.{with_form, address_form, element_by, element_label, own_label, has_elements}
use Rattle.nlroute_ffi.proofs.NameTexts.{rows_pass, elements_pass, types_pass, label_passes, nested_pass}

-- also with the form of an element: that of a number or an address, in place of the form of its list
module _ (test : Label → Bool) (all : (family : Family) → types_pass test (table_of family) ≡ true) (below : (list : Label) (form : Form) → has_elements list.form ≡ true → test list ≡ true → test (with_form form list) ≡ true) where
  abbrev passes : Option Label → Bool
  passes None = true
  passes (Some label) = test label

  both : (family : Family) → (rows_pass test (table_of family) ≡ true) × (are_rows (λ r. elements_pass test (Some r.class)) 0 (table_of family) ≡ true)
  both family = and_parts (rows_pass test (table_of family)) (are_rows (λ r. elements_pass test (Some r.class)) 0 (table_of family)) (all family)

  attribute_passes : (family : Family) (k : ℕ) (o : Option Label) → label_at (table_of family) k ≡ o → passes o ≡ true
  attribute_passes family k None at = refl
  attribute_passes family k (Some label) at = label_passes test (table_of family) k label (both family).0 at

  inner_passes : (family : Family) (k i : ℕ) (o : Option Label) → label_at (elements_at (table_of family) k) i ≡ o → passes o ≡ true
  inner_passes family k i None at = refl
  inner_passes family k i (Some label) at = label_passes test (elements_at (table_of family) k) i label (nested_pass test (table_of family) k (both family).1) at

  element_passes : (form : Form) (list : Label) (own its_label : Option Label) → list.form ≡ form → test list ≡ true → passes own ≡ true → element_by form list own ≡ Ok its_label → passes its_label ≡ true
  element_passes (forms.Numbers a) list own its_label of h room is =
      let same : Some (with_form (number_form a) list) ≡ its_label = cc in
      subst (λ o. passes o ≡ true) same (below list (number_form a) (ap has_elements of) h)
  element_passes (forms.Addresses n) list own its_label of h room is =
      let same : Some (with_form (address_form n) list) ≡ its_label = cc in
      subst (λ o. passes o ≡ true) same (below list (address_form n) (ap has_elements of) h)
  element_passes (forms.List flagged) list own its_label of h room is = let same : own ≡ its_label = cc in subst (λ o. passes o ≡ true) same room
  element_passes form list own its_label of h room is = absurd cc

  in_list : (list own its_label : Option Label) → passes list ≡ true → passes own ≡ true → element_label list own ≡ Ok its_label → passes its_label ≡ true
  in_list None own its_label h room is = absurd cc
  in_list (Some list) own its_label h room is = element_passes list.form list own its_label refl h room is

  own_passes : (family : Family) (e : Entry) (its_label : Option Label) → own_label family e ≡ Ok its_label → passes its_label ≡ true
  own_passes family e its_label is = by_depth (e.depth == 0) (e.depth == 1) is where
    list : Option Label
    list = label_at (table_of family) e.kind

    own : Option Label
    own = label_at (elements_at (table_of family) e.kind) e.inner

    by_depth : (none one : Bool) → cond none (Ok list) (cond one (element_label list own) (Err BadElement)) ≡ Ok its_label → passes its_label ≡ true
    by_depth true one is = let same : list ≡ its_label = cc in subst (λ o. passes o ≡ true) same (attribute_passes family e.kind list refl)
    by_depth false true is = in_list list own its_label (attribute_passes family e.kind list refl) (inner_passes family e.kind e.inner own refl) is
    by_depth false false is = absurd cc

  pub own_label_passes : (family : Family) (e : Entry) (label : Label) → own_label family e ≡ Ok (Some label) → test label ≡ true
  own_label_passes family e label is = own_passes family e (Some label) is
