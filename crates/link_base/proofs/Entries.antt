-- What the row of an attribute type says of it.
use Rattle.std.proofs.Common.{◌≡◌, ℕ, List, Option, Some, None, option_map, refl, sym, ap, subst, ◌∙◌}
use Rattle.std.specs.Prelude.{Ok, Result}
use Rattle.link_base.specs.declared.wire.fault.DecodeFault.{DecodeFault}
use Rattle.link_base.specs.Frame.{kind_of}
use Rattle.link_base.specs.Table.{Row, Shape, Table, row_at, class_at, form_at, label_at, label_by, Gives, GivesBy, ShapeGives, Other}
use Rattle.link_base.specs.Checked.{Checks}

-- ---- a row

pub class_of_row : (table : Table) (k : ℕ) (r : Row Shape) → row_at table k ≡ Some r → class_at table k ≡ Some r.class
class_of_row table k r e = ap (option_map (λ r. r.class)) e

pub form_of_row : (table : Table) (k : ℕ) (r : Row Shape) → row_at table k ≡ Some r → form_at table k ≡ Some r.form
form_of_row table k r e = ap (option_map (λ r. r.form)) e

pub label_of_row : (table : Table) (k : ℕ) (r : Row Shape) → row_at table k ≡ Some r → label_at table k ≡ Some (label_by r)
label_of_row table k r e = ap (option_map label_by) e

-- ---- no row

pub class_of_none : (table : Table) (k : ℕ) → row_at table k ≡ None → class_at table k ≡ None
class_of_none table k e = ap (option_map (λ r. r.class)) e

pub form_of_none : (table : Table) (k : ℕ) → row_at table k ≡ None → form_at table k ≡ None
form_of_none table k e = ap (option_map (λ r. r.form)) e

pub label_of_none : (table : Table) (k : ℕ) → row_at table k ≡ None → label_at table k ≡ None
label_of_none table k e = ap (option_map label_by) e

-- ---- an attribute of the type of a row

pub checks_row : (table : Table) (k f : ℕ) (p : List ℕ) (result : Result (Unit {0}) DecodeFault) (r : Row Shape) → row_at table k ≡ Some r → kind_of f ≡ k → Checks (ShapeGives r.class k p) result → Checks (Gives table f p) result
checks_row table k f p result r row same h =
    subst (λ (o : Option Shape). Checks (GivesBy o f p) result) (sym (ap (class_at table) same ∙ class_of_row table k r row))
    (subst (λ (i : ℕ). Checks (ShapeGives r.class i p) result) (sym same) h)

pub checks_none : (table : Table) (k f : ℕ) (p : List ℕ) → row_at table k ≡ None → kind_of f ≡ k → Gives table f p (Ok (Other f p))
checks_none table k f p row same =
    subst (λ (o : Option Shape). GivesBy o f p (Ok (Other f p))) (sym (ap (class_at table) same ∙ class_of_none table k row)) refl
