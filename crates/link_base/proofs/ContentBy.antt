-- The content of a payload, by the form of its attribute type.
use Rattle.std.proofs.Common.{◌≡◌, ℕ, ◌<◌, true, List, [], length, map, Option, Some, None, option_map, Ok, refl, sym, ap, subst, ◌∙◌, arith}
use Rattle.std.specs.Prelude.{nat_lt}
use Rattle.std.proofs.lemmas.Bool.{cond_both, cond-false, le-ltb}
use Rattle.link_base.specs.declared.rows.form.Form.{Form}
use Rattle.link_base.specs.declared.rows.form.Form.TheVariants as forms
use Rattle.link_base.specs.declared.rows.form.Width.{Width}
use Rattle.link_base.specs.declared.rows.form.Order.{Order}
use Rattle.link_base.specs.declared.rows.form.Order.TheVariants as orders
use Rattle.link_base.specs.declared.rows.form.Role.{Role}
use Rattle.link_base.specs.declared.rows.form.Role.TheVariants as roles
use Rattle.link_base.specs.declared.rows.form.Look.{Look}
use Rattle.link_base.specs.declared.rows.form.Look.TheVariants as looks
use Rattle.link_base.specs.declared.rows.label.KindLabel.{KindLabel}
use Rattle.link_base.specs.declared.views.content.Content.{Content as Borrowed}
use Rattle.link_base.specs.declared.views.content.Content.TheVariants as borrowed
use Rattle.link_base.specs.declared.wire.fault.Cause.{Cause}
use Rattle.link_base.specs.declared.wire.fault.Cause.TheVariants.{TooShort}
use Rattle.link_base.specs.Number.{number, bound}
use Rattle.link_base.specs.Class.{AtLeast, Class, Number, Name, Unlisted, Raw, is_listed, named, meant, extent, length_cause, unless, class_value}
use Rattle.link_base.specs.Coherent.{is_single, IsShapeOf}
use Rattle.link_base.specs.Forms.{bytes_in}
use Rattle.link_base.specs.Frame.{kind_of}
use Rattle.link_base.specs.Labels.{label_of, label_in}
use Rattle.link_base.specs.Payloads.{number_class, look_class, class_by}
use Rattle.link_base.specs.Orders.{bytes_by}
use Rattle.link_base.specs.Table.{Label, Row, Shape, One, Nested, Addresses, Table, AttrValue, Gives, GivesBy, row_at, class_at, form_at, label_at, label_by, single_case}
use Rattle.link_base.specs.Borrowed.{Says, SaysAddresses, as_named, Borrows, BorrowsBy, HasValue}
use Rattle.link_base.specs.WellFormed.{is_table}
use Rattle.link_base.proofs.Coherence.{row_sound}
use Rattle.link_base.proofs.Entries.{class_of_row, form_of_row, label_of_row}
use Rattle.link_base.proofs.Numbers.{number-bytes_of}
use Rattle.link_base.proofs.Orders.{all_taken, bytes_be_len}

-- ---- numbers

-- a number is told by its name or without it
as_named_named : (n : ℕ) (listed : List ℕ) (x : ℕ) → as_named (named n listed x) ≡ Name n x
as_named_named n listed x = cond_both (is_listed listed x) (Name n x) (Unlisted n listed x) (λ v. as_named v ≡ Name n x) (λ _. refl) (λ _. refl)

pub number_says : (order : Order) (role : Role) (w : Width) (names : List (ℕ × List ℕ)) (p : List ℕ) (x : ℕ) → p ≡ bytes_by order (bytes_in w) x → x < bound (bytes_in w)
    → Says (borrowed.Number x w order role) (meant (number_class order role (bytes_in w) names) p)
number_says orders.Little roles.Enum w names p x is low =
    let same : number p ≡ x = ap number is ∙ number-bytes_of (bytes_in w) x low in
    (as_named_named (bytes_in w) (map (λ y. y.0) names) (number p) ∙ ap (Name (bytes_in w)) same, low)
number_says orders.Little role w names p x is low =
    let same : number p ≡ x = ap number is ∙ number-bytes_of (bytes_in w) x low in
    (ap (Number (bytes_in w)) same, low)
number_says orders.Big role w names p x is low =
    let n = bytes_in w in
    (ap Raw (all_taken n p (ap length is ∙ bytes_be_len n x) ∙ is), low)

-- ---- bytes

-- bytes are all bytes of their payload, whatever they are shown as
pub bytes_say : (look : Look) (p : List ℕ) (content : Borrowed) → Says content (Raw p) → Borrows (Some (One (look_class look))) p content
bytes_say looks.Peer p content h = h
bytes_say look p content h = h

-- ---- the shape of a form

-- a form that is no list has one class
pub single_shape : (form : Form) (names : List (ℕ × List ℕ)) (shape : Shape) → is_single form ≡ true → IsShapeOf form names shape → shape ≡ One (class_by form names)
single_shape form names (One c) single h = ap One h.1
single_shape (forms.List flagged) names (Nested also rows) single h = absurd cc
single_shape (forms.Addresses m) names (Addresses n) single h = absurd cc
single_shape form names shape single h = absurd h

-- what is borrowed by the form is borrowed by the shape
pub by_shape : (form : Form) (names : List (ℕ × List ℕ)) (shape : Shape) (p : List ℕ) (content : Borrowed) → IsShapeOf form names shape → BorrowsBy form p content → Borrows (Some shape) p content
by_shape (forms.List flagged) names (One c) p content h b = absurd cc
by_shape (forms.Addresses m) names (One c) p content h b = absurd cc
by_shape form names (One c) p content h b = subst (λ d. Borrows (Some (One d)) p content) (sym h.1) (b names)
by_shape (forms.List flagged) names (Nested also rows) p content h b = b
by_shape (forms.Addresses m) names (Addresses n) p content h b = subst (λ i. SaysAddresses content i p) h b
by_shape form names shape p content h b = absurd h

-- names change no length
same_extent : (form : Form) (names : List (ℕ × List ℕ)) → extent (class_by form names) ≡ extent (class_by form [])
same_extent (forms.Number w orders.Little roles.Enum) names = refl
same_extent (forms.Number w orders.Little role) names = refl
same_extent (forms.Number w orders.Big role) names = refl
same_extent form names = refl

-- every length is at least 0
any_length : (n : ℕ) → length_cause (AtLeast 0) n ≡ None
any_length n = cond-false (nat_lt n 0) (Some (TooShort 0 n)) None (le-ltb n 0 (omega arith))

-- ---- the label of an attribute that decodes

some_same : {A : Type 0} {a b : A} → Some a ≡ Some b → a ≡ b
some_same e = cc

-- a payload that decodes has an accepted length
pub one_accepted : (table : Table) (f : ℕ) (p : List ℕ) (c : Class) → class_at table (kind_of f) ≡ Some (One c) → HasValue table f p → length_cause (extent c) (length p) ≡ None
one_accepted table f p c e h = by_cause (length_cause (extent c) (length p)) refl
  where
    one : (v : AttrValue) → Gives table f p (Ok v) → Ok v ≡ single_case (kind_of f) (class_value c p)
    one v g = subst (λ s. GivesBy s f p (Ok v)) e g

    by_cause : (o : Option Cause) → length_cause (extent c) (length p) ≡ o → length_cause (extent c) (length p) ≡ None
    by_cause None q = q
    by_cause (Some cause) q = absurd (h (λ w. let g = one w.0 w.1 ∙ ap (λ o. single_case (kind_of f) (unless o (meant c p))) q in absurd cc))

module _ (table : Table) (f : ℕ) (formed : is_table table ≡ true) where
  -- the row that a label tells of
  pub record Labelled (form : Form) : Type 0 where
    pub names : List (ℕ × List ℕ)
    pub shape : Shape
    pub of_form : IsShapeOf form names shape
    pub class : class_at table (kind_of f) ≡ Some shape
    pub stated : form_at table (kind_of f) ≡ Some form

  pub labelled : (label : KindLabel) → label_in (Some label) ≡ label_at table (kind_of f) → Labelled label.form
  labelled label e = by_row (row_at table (kind_of f)) refl
    where
      by_row : (o : Option (Row Shape)) → row_at table (kind_of f) ≡ o → Labelled label.form
      by_row None at = let none = e ∙ ap (option_map label_by) at in absurd cc
      by_row (Some r) at =
          let same : label_of label ≡ label_by r = some_same (e ∙ label_of_row table (kind_of f) r at) in
          let form : r.form ≡ label.form = sym (ap (λ (l : Label). l.form) same) in
          record {
            names = r.names;
            shape = r.class;
            of_form = subst (λ g. IsShapeOf g r.names r.class) form (row_sound table (kind_of f) r formed at);
            class = class_of_row table (kind_of f) r at;
            stated = form_of_row table (kind_of f) r at ∙ ap Some form;
          }

  -- a form that is no list has one class
  pub single_class : (label : KindLabel) → label_in (Some label) ≡ label_at table (kind_of f) → is_single label.form ≡ true → (c : Class) × (class_at table (kind_of f) ≡ Some (One c))
  single_class label e single =
      let row = labelled label e in
      (class_by label.form row.names, row.class ∙ ap Some (single_shape label.form row.names row.shape single row.of_form))

  -- the form accepts a payload that decodes
  pub accepts : (label : KindLabel) (p : List ℕ) → label_in (Some label) ≡ label_at table (kind_of f) → HasValue table f p → length_cause (extent (class_by label.form [])) (length p) ≡ None
  accepts label p e h = let row = labelled label e in by_form label.form row.names row.shape row.of_form row.class
    where
      by_form : (form : Form) (names : List (ℕ × List ℕ)) (shape : Shape) → IsShapeOf form names shape → class_at table (kind_of f) ≡ Some shape → length_cause (extent (class_by form [])) (length p) ≡ None
      by_form form names (One c) of_form at =
          ap (λ x. length_cause x (length p)) (sym (ap extent of_form.1 ∙ same_extent form names)) ∙ one_accepted table f p c at h
      by_form (forms.List flagged) names (Nested also rows) of_form at = any_length (length p)
      by_form (forms.Addresses m) names (Addresses n) of_form at = any_length (length p)
      by_form form names shape of_form at = absurd of_form

  -- what is borrowed by the form of its label is borrowed by its row
  pub borrows_label : (label : KindLabel) (p : List ℕ) (content : Borrowed) → label_in (Some label) ≡ label_at table (kind_of f) → BorrowsBy label.form p content → Borrows (class_at table (kind_of f)) p content
  borrows_label label p content e b =
      let row = labelled label e in
      subst (λ s. Borrows s p content) (sym row.class) (by_shape label.form row.names row.shape p content row.of_form b)

  -- no row
  pub no_row : label_in None ≡ label_at table (kind_of f) → row_at table (kind_of f) ≡ None
  no_row e = by_row (row_at table (kind_of f)) refl
    where
      by_row : (o : Option (Row Shape)) → row_at table (kind_of f) ≡ o → row_at table (kind_of f) ≡ None
      by_row None at = at
      by_row (Some r) at = let none = e ∙ ap (option_map label_by) at in absurd cc
