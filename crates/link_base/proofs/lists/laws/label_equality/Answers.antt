use Rattle.std.proofs.Common.{rules, ◌≡◌, ℕ, List, ap, ap₂}
use Rattle.std.specs.Bool.{Decides}
use Rattle.std.specs.Cmp.{unsigned_Decides}
use Rattle.std.specs.Cmp.Lexicographic.{pointwise_decides}
use Rattle.link_base.specs.declared.rows.label.Name.{Name}
use Rattle.link_base.specs.declared.rows.form.Width.{Width}
use Rattle.link_base.specs.declared.rows.form.Order.{Order}
use Rattle.link_base.specs.declared.rows.form.Role.{Role}
use Rattle.link_base.specs.declared.rows.form.Form.{Form}
use Rattle.link_base.specs.declared.rows.form.Form.TheVariants as of
use Rattle.link_base.specs.declared.rows.label.Quantity.{Quantity}
use Rattle.link_base.specs.contracts.rows.label.NamePartialEq.TheImpl as of_name
use Rattle.link_base.specs.contracts.rows.form.FormPartialEq.TheImpl as of_form
use Rattle.link_base.specs.contracts.rows.form.WidthPartialEq.TheImpl as of_width
use Rattle.link_base.specs.contracts.rows.form.OrderPartialEq.TheImpl as of_order
use Rattle.link_base.specs.contracts.rows.form.RolePartialEq.TheImpl as of_role
use Rattle.link_base.specs.contracts.rows.label.QuantityPartialEq.TheImpl as of_quantity
use Rattle.link_base.specs.declared.rows.fields.Field.{Field}
use Rattle.link_base.specs.contracts.rows.fields.FieldPartialEq.TheImpl as of_field
use Rattle.link_base.specs.Fields.{FieldRow}
use Rattle.link_base.specs.Labels.{named, field_row}
use Rattle.link_base.specs.Table.{Label, label_with}
use Rattle.link_base.proofs.EqualityLemmas.{two, lists}
use Rattle.link_base.proofs.lists.laws.label_equality.Goals as goal

names : (a b : Name) → Decides (of_name.ghosts.eq a b) (named a ≡ named b)
names a b = let d = two _ _ (unsigned_Decides a.number b.number) (pointwise_decides unsigned_Decides a.text.now b.text.now) in
    (λ h. ap₂ (λ number text. (number, text)) (d.0 h).0 (d.0 h).1, λ h. d.1 (ap (λ z. z.0) h, ap (λ z. z.1) h))

quantities : (a b : Quantity) → Decides (of_quantity.ghosts.eq a b) (a ≡ b)
quantities a b = search rules

widths : (a b : Width) → Decides (of_width.ghosts.eq a b) (a ≡ b)
widths a b = search rules

orders : (a b : Order) → Decides (of_order.ghosts.eq a b) (a ≡ b)
orders a b = search rules

roles : (a b : Role) → Decides (of_role.ghosts.eq a b) (a ≡ b)
roles a b = search rules

abbrev number : Width → Order × Role → Form
number w (order, role) = of.Number w order role

forms : (a b : Form) → Decides (of_form.ghosts.eq a b) (a ≡ b)
forms of.Nothing b = search rules
forms (of.Number w order role) (of.Number v other said) =
    let d = two _ _ (widths w v) (two _ _ (orders order other) (roles role said)) in (
      λ h. let k = d.0 h in ap₂ number k.0 (ap₂ (λ a b. (a, b)) k.1.0 k.1.1),
      λ h. let e : w ≡ v = cc in let f : order ≡ other = cc in let g : role ≡ said = cc in d.1 (e, (f, g)),
    )
forms a b = search rules

abbrev row : List ℕ → ℕ × Quantity × Form × List (ℕ × List ℕ) → FieldRow
row name (offset, quantity, form, names) = record { name = name; offset = offset; quantity = quantity; form = form; names = names }

fields : (a b : Field) → Decides (of_field.ghosts.eq a b) (field_row a ≡ field_row b)
fields a b =
    let d = two _ _ (pointwise_decides unsigned_Decides a.name.now b.name.now) (two _ _ (unsigned_Decides a.offset b.offset)
    (two _ _ (quantities a.quantity b.quantity) (two _ _ (forms a.form b.form) (lists named names a.names.now b.names.now)))) in (
      λ h. let k = d.0 h in
          ap₂ row k.0
          (ap₂ (λ offset (quantity, form, names). (offset, quantity, form, names)) k.1.0
          (ap₂ (λ quantity (form, names). (quantity, form, names)) k.1.1.0 (ap₂ (λ form names. (form, names)) k.1.1.1.0 k.1.1.1.1))),
      λ h. d.1 (ap (λ (f : FieldRow). f.name) h, (ap (λ (f : FieldRow). f.offset) h, (ap (λ (f : FieldRow). f.quantity) h, (ap (λ (f : FieldRow). f.form) h, ap (λ (f : FieldRow). f.names) h)))),
    )

pub returns-clause-form : goal.returns-clause-form
returns-clause-form c = forms

pub returns-clause-field : goal.returns-clause-field
returns-clause-field c = fields

abbrev label : List ℕ → List ℕ × Quantity × Form × List (ℕ × List ℕ) × List FieldRow → Label
label name (prefix, quantity, form, names, fields) = label_with prefix quantity name form names fields

pub returns-clause-label : goal.returns-clause-label
returns-clause-label c = λ a b.
    let d = two _ _ (pointwise_decides unsigned_Decides a.name.now b.name.now) (two _ _ (pointwise_decides unsigned_Decides a.prefix.now b.prefix.now) (two _ _ (quantities a.quantity b.quantity)
    (two _ _ (forms a.form b.form) (two _ _ (lists named names a.names.now b.names.now) (lists field_row fields a.fields.now b.fields.now))))) in (
      λ h. let k = d.0 h in
          ap₂ label k.0
          (ap₂ (λ prefix (quantity, form, names, fields). (prefix, quantity, form, names, fields)) k.1.0
          (ap₂ (λ quantity (form, names, fields). (quantity, form, names, fields)) k.1.1.0
          (ap₂ (λ form (names, fields). (form, names, fields)) k.1.1.1.0 (ap₂ (λ names fields. (names, fields)) k.1.1.1.1.0 k.1.1.1.1.1)))),
      λ h. d.1 (
        ap (λ (l : Label). l.name) h,
        (
          ap (λ (l : Label). l.prefix) h,
          (
            ap (λ (l : Label). l.quantity) h,
            (
              ap (λ (l : Label). l.form) h,
              (ap (λ (l : Label). l.names) h, ap (λ (l : Label). l.fields) h),
            ),
          ),
        ),
      ),
    )
