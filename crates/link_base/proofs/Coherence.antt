-- In a well-formed table, the class of each row is that of its form.
use Rattle.std.proofs.Common.{◌≡◌, ℕ, ◌+◌, ◌<◌, ◌==◌, ◌&&◌, Bool, true, false, not, cond, List, [], ◌∷◌, Option, Some, None, option_map, refl, sym, ap, ap₂, subst, ◌∙◌}
use Rattle.std.specs.Prelude.{nat_lt, nat_le, if◌then◌else◌}
use Rattle.std.specs.List.{list_all, AllByRecursion}
use Rattle.std.specs.Str.{bytes_eq}
use Rattle.std.proofs.lemmas.Bool.{and_parts, eqb-true, ltb-true}
use Rattle.std.proofs.lemmas.Slice.Eq.{bytes_eq-Decides}
use Rattle.link_base.specs.declared.rows.form.Form.{Form}
use Rattle.link_base.specs.declared.rows.form.Form.TheVariants as forms
use Rattle.link_base.specs.Class.{Extent, Exactly, AtLeast, Fixed, Multiple, AtMost, Class, Unsigned, Signed, Truth, Optional, Octets, Bytes, Headed, Many, Named, Protocol, Low, Empty, Limits}
use Rattle.link_base.specs.Frame.{kind_limit}
use Rattle.link_base.specs.Payloads.{class_by}
use Rattle.link_base.specs.Table.{Row, Rows, Shape, One, Nested, Addresses, Table, row_at}
use Rattle.link_base.specs.Coherent.{extent_code, class_code, is_array, is_class_of, is_leaf_of, same_flag, is_shape_of, is_single, IsClassOf, IsLeafOf, IsShapeOf}
use Rattle.link_base.specs.Lift.{lift_row, lift_table}
use Rattle.link_base.specs.Borrowed.{elements_by, elements_at}
use Rattle.link_base.specs.WellFormed.{is_class, is_kept, are_rows, is_nested_class, has_text, rows_in, is_shape, is_row, is_table}
use Rattle.link_base.proofs.LimitLemmas.{row_passes}

-- ---- different classes have different codes

abbrev first : List ℕ → ℕ
first [] = 0
first (n ∷ s) = n

abbrev rest : List ℕ → List ℕ
rest [] = []
rest (n ∷ s) = s

abbrev extent_back : List ℕ → Extent
extent_back s =
    if first s == 0 then Exactly (first (rest s))
    else (if first s == 1 then AtLeast (first (rest s))
    else (if first s == 2 then Fixed (first (rest s))
    else (if first s == 3 then Multiple (first (rest s))
    else AtMost (first (rest s)))))

abbrev class_back : List ℕ → Class
class_back s =
    if first s == 0 then Unsigned (first (rest s))
    else (if first s == 1 then Signed
    else (if first s == 2 then Truth
    else (if first s == 3 then Octets (extent_back (rest s))
    else (if first s == 4 then Bytes
    else (if first s == 5 then Many (first (rest s))
    else (if first s == 6 then Named (first (rest s)) (rest (rest s))
    else (if first s == 7 then Protocol
    else (if first s == 8 then Low
    else (if first s == 9 then Empty
    else (if first s == 10 then Limits
    else (if first s == 11 then Optional
    else Headed (first (rest s)))))))))))))

extent_again : (e : Extent) → extent_back (extent_code e) ≡ e
extent_again (Exactly n) = refl
extent_again e = refl

class_again : (c : Class) → class_back (class_code c) ≡ c
class_again (Octets e) = ap (λ d. Octets d) (extent_again e)
class_again c = refl

same_class : (c d : Class) → bytes_eq (class_code c) (class_code d) ≡ true → c ≡ d
same_class c d h = sym (class_again c) ∙ ap class_back ((bytes_eq-Decides (class_code c) (class_code d)).0 h) ∙ class_again d

-- ---- rows

some_same : {A : Type 0} {a b : A} → Some a ≡ Some b → a ≡ b
some_same e = cc

not_true : (b : Bool) → not b ≡ true → b ≡ false
not_true true h = absurd cc
not_true false h = refl

class_sound : (form : Form) (names : List (ℕ × List ℕ)) (c : Class) → is_class_of form names c ≡ true → IsClassOf form names c
class_sound form names c h =
    let both = and_parts (is_single form) (bytes_eq (class_code c) (class_code (class_by form names))) h in
    (both.0, same_class c (class_by form names) both.1)

module _ {A : Type 0} (test : A → Bool) (T : A → Type 0) (tells : (x : A) → test x ≡ true → T x) where
  all_sound : (xs : List A) → list_all test xs ≡ true → AllByRecursion T xs
  all_sound [] h = tt
  all_sound (x ∷ xs) h =
      let both = and_parts (test x) (list_all test xs) h in
      (tells x both.0, all_sound xs both.1)

leaf_sound : (form : Form) (names : List (ℕ × List ℕ)) (c : Class) → is_leaf_of form names c ≡ true → IsLeafOf form names c
leaf_sound form names c h =
    let both = and_parts (not (is_array form)) (is_class_of form names c) h in
    (not_true (is_array form) both.0, class_sound form names c both.1)

abbrev leaf_test : Row Class → Bool
leaf_test r = is_leaf_of r.form r.names r.class

leaves_sound : (rows : Rows) → list_all leaf_test rows ≡ true → AllByRecursion (λ (r : Row Class). IsLeafOf r.form r.names r.class) rows
leaves_sound rows h = all_sound leaf_test (λ r. IsLeafOf r.form r.names r.class) (λ r. leaf_sound r.form r.names r.class) rows h

flag_sound : (a b : Bool) → same_flag a b ≡ true → a ≡ b
flag_sound true true h = refl
flag_sound true false h = absurd cc
flag_sound false true h = absurd cc
flag_sound false false h = refl

shape_sound : (form : Form) (names : List (ℕ × List ℕ)) (s : Shape) → is_shape_of form names s ≡ true → IsShapeOf form names s
shape_sound form names (One c) h = class_sound form names c h
shape_sound (forms.List stated) names (Nested flagged rows) h =
    let both = and_parts (same_flag stated flagged) (list_all leaf_test rows) h in
    (flag_sound stated flagged both.0, leaves_sound rows both.1)
shape_sound (forms.Addresses stated) names (Addresses n) h = eqb-true stated n h
shape_sound form names s h = absurd cc

-- ---- the row of an attribute type

-- what a row passes
pub record RowPasses (r : Row Shape) : Type 0 where
  pub shape : is_shape r.class ≡ true
  pub of_form : is_shape_of r.form r.names r.class ≡ true
  pub text : has_text r ≡ true
  pub texts : list_all has_text (rows_in r.class) ≡ true

passes : (r : Row Shape) → is_row r ≡ true → RowPasses r
passes r h =
    let one = and_parts (is_shape r.class) (is_shape_of r.form r.names r.class && (has_text r && list_all has_text (rows_in r.class))) h in
    let two = and_parts (is_shape_of r.form r.names r.class) (has_text r && list_all has_text (rows_in r.class)) one.1 in
    let three = and_parts (has_text r) (list_all has_text (rows_in r.class)) two.1 in
    record { shape = one.0; of_form = two.0; text = three.0; texts = three.1 }

pub row_passes_all : (table : Table) (k : ℕ) (r : Row Shape) → is_table table ≡ true → row_at table k ≡ Some r → RowPasses r
row_passes_all table k r h at = passes r (row_passes is_row 0 table k r h at)

-- its shape is that of its form
pub row_sound : (table : Table) (k : ℕ) (r : Row Shape) → is_table table ≡ true → row_at table k ≡ Some r → IsShapeOf r.form r.names r.class
row_sound table k r h at = shape_sound r.form r.names r.class (row_passes_all table k r h at).of_form

-- it has this attribute type, which is below the limit
module _ {C : Type 0} (test : Row C → Bool) (k : ℕ) (r : Row C) where
  kind_here : (first : Row C) (rows : List (Row C)) (b : Bool) → (first.kind == k) ≡ b → first.kind < kind_limit → cond b (Some first) (row_at rows k) ≡ Some r → (row_at rows k ≡ Some r → (r.kind ≡ k) × (k < kind_limit)) → (r.kind ≡ k) × (k < kind_limit)
  kind_here first rows true e low at later =
      let same : first ≡ r = some_same at in
      let kind : first.kind ≡ k = eqb-true first.kind k e in
      (subst (λ (q : Row C). q.kind ≡ k) same kind, subst (λ j. j < kind_limit) kind low)
  kind_here first rows false e low at later = later at

  pub row_kind : (least : ℕ) (rows : List (Row C)) → are_rows test least rows ≡ true → row_at rows k ≡ Some r → (r.kind ≡ k) × (k < kind_limit)
  row_kind least [] h at = absurd cc
  row_kind least (first ∷ rows) h at =
      let one = and_parts (nat_le least first.kind) (nat_lt first.kind kind_limit && (test first && are_rows test (first.kind + 1) rows)) h in
      let two = and_parts (nat_lt first.kind kind_limit) (test first && are_rows test (first.kind + 1) rows) one.1 in
      kind_here first rows (first.kind == k) refl (ltb-true first.kind kind_limit two.0) at (row_kind (first.kind + 1) rows (and_parts (test first) (are_rows test (first.kind + 1) rows) two.1).1)

-- ---- the elements of nested lists

both_true : (a b : Bool) → a ≡ true → b ≡ true → (a && b) ≡ true
both_true a b h k = ap₂ (λ x y. x && y) h k

leaf_formed : (least : ℕ) (rows : Rows) → are_rows (λ r. is_nested_class r.class) least rows ≡ true → list_all leaf_test rows ≡ true → list_all has_text rows ≡ true → are_rows is_row least (lift_table rows) ≡ true
leaf_formed least [] h leaves texts = refl
leaf_formed least (r ∷ rows) h leaves texts =
    let one = and_parts (nat_le least r.kind) (nat_lt r.kind kind_limit && (is_nested_class r.class && are_rows (λ q. is_nested_class q.class) (r.kind + 1) rows)) h in
    let two = and_parts (nat_lt r.kind kind_limit) (is_nested_class r.class && are_rows (λ q. is_nested_class q.class) (r.kind + 1) rows) one.1 in
    let three = and_parts (is_nested_class r.class) (are_rows (λ q. is_nested_class q.class) (r.kind + 1) rows) two.1 in
    let leaf = and_parts (leaf_test r) (list_all leaf_test rows) leaves in
    let text = and_parts (has_text r) (list_all has_text rows) texts in
    let own : is_row (lift_row r) ≡ true =
    both_true (is_class r.class) (is_class_of r.form r.names r.class && (has_text r && true)) (and_parts (is_class r.class) (is_kept r.class) three.0).0
    (both_true (is_class_of r.form r.names r.class) (has_text r && true) (and_parts (not (is_array r.form)) (is_class_of r.form r.names r.class) leaf.0).1
    (both_true (has_text r) true text.0 refl)) in
    both_true (nat_le least r.kind) (nat_lt r.kind kind_limit && (is_row (lift_row r) && are_rows is_row (r.kind + 1) (lift_table rows))) one.0
    (both_true (nat_lt r.kind kind_limit) (is_row (lift_row r) && are_rows is_row (r.kind + 1) (lift_table rows)) two.0
    (both_true (is_row (lift_row r)) (are_rows is_row (r.kind + 1) (lift_table rows)) own (leaf_formed (r.kind + 1) rows three.1 leaf.1 text.1)))

nested_leaves : (form : Form) (names : List (ℕ × List ℕ)) (flagged : Bool) (rows : Rows) → is_shape_of form names (Nested flagged rows) ≡ true → list_all leaf_test rows ≡ true
nested_leaves (forms.List stated) names flagged rows h = (and_parts (same_flag stated flagged) (list_all leaf_test rows) h).1
nested_leaves form names flagged rows h = absurd cc

shape_formed : (r : Row Shape) (shape : Shape) → r.class ≡ shape → RowPasses r → is_table (elements_by (Some shape)) ≡ true
shape_formed r (One c) is h = refl
shape_formed r (Nested flagged rows) is h =
    leaf_formed 0 rows (subst (λ s. is_shape s ≡ true) is h.shape)
    (nested_leaves r.form r.names flagged rows (subst (λ s. is_shape_of r.form r.names s ≡ true) is h.of_form))
    (subst (λ s. list_all has_text (rows_in s) ≡ true) is h.texts)
shape_formed r (Addresses n) is h = refl

-- their table is well formed
pub elements_formed : (table : Table) (k : ℕ) → is_table table ≡ true → is_table (elements_at table k) ≡ true
elements_formed table k h = by_row (row_at table k) refl where
  by_row : (o : Option (Row Shape)) → row_at table k ≡ o → is_table (elements_by (option_map (λ r. r.class) o)) ≡ true
  by_row None at = refl
  by_row (Some r) at = shape_formed r r.class refl (row_passes_all table k r h at)

module _ (k : ℕ) (r : Row Shape) where
  leaf_here : (first : Row Class) (rows : Rows) (b : Bool) → leaf_test first ≡ true → cond b (Some (lift_row first)) (row_at (lift_table rows) k) ≡ Some r → (row_at (lift_table rows) k ≡ Some r → (is_array r.form ≡ false) × (is_single r.form ≡ true)) → (is_array r.form ≡ false) × (is_single r.form ≡ true)
  leaf_here first rows true leaf at later =
      let same : lift_row first ≡ r = some_same at in
      let stated = leaf_sound first.form first.names first.class leaf in
      subst (λ (q : Row Shape). (is_array q.form ≡ false) × (is_single q.form ≡ true)) same (stated.0, stated.1.0)
  leaf_here first rows false leaf at later = later at

  leaf_found : (rows : Rows) → list_all leaf_test rows ≡ true → row_at (lift_table rows) k ≡ Some r → (is_array r.form ≡ false) × (is_single r.form ≡ true)
  leaf_found [] h at = absurd cc
  leaf_found (first ∷ rows) h at =
      let both = and_parts (leaf_test first) (list_all leaf_test rows) h in
      leaf_here first rows (first.kind == k) both.0 at (leaf_found rows both.1)

-- their rows are no lists and no arrays
pub element_single : (table : Table) (k inner : ℕ) (r : Row Shape) → is_table table ≡ true → row_at (elements_at table k) inner ≡ Some r → (is_array r.form ≡ false) × (is_single r.form ≡ true)
element_single table k inner r h at = by_row (row_at table k) refl at where
  by_shape : (q : Row Shape) (shape : Shape) → q.class ≡ shape → RowPasses q → row_at (elements_by (Some shape)) inner ≡ Some r → (is_array r.form ≡ false) × (is_single r.form ≡ true)
  by_shape q (One c) is p at = absurd cc
  by_shape q (Nested flagged rows) is p at = leaf_found inner r rows (nested_leaves q.form q.names flagged rows (subst (λ s. is_shape_of q.form q.names s ≡ true) is p.of_form)) at
  by_shape q (Addresses n) is p at = absurd cc

  by_row : (o : Option (Row Shape)) → row_at table k ≡ o → row_at (elements_by (option_map (λ r. r.class) o)) inner ≡ Some r → (is_array r.form ≡ false) × (is_single r.form ≡ true)
  by_row None found at = absurd cc
  by_row (Some q) found at = by_shape q q.class refl (row_passes_all table k q h found) at
