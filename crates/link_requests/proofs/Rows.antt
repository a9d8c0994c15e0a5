-- The fields of a row.
use Rattle.std.proofs.Common.{◌≡◌, ℕ, ◌-◌, ◌<◌, ◌==◌, Bool, true, false, cond, Option, Some, None, sym, subst, arith}
use Rattle.std.specs.Prelude.{IfSome}
use Rattle.link_base.specs.declared.rows.form.Form.{Form}
use Rattle.link_base.specs.declared.rows.form.Form.TheVariants as forms
use Rattle.link_base.specs.declared.rows.form.Look.TheVariants as looks
use Rattle.link_base.specs.declared.rows.form.Layout.TheVariants as layouts
use Rattle.link_base.specs.declared.rows.form.Width.{Width}
use Rattle.link_base.specs.declared.rows.form.Width.TheVariants as widths
use Rattle.link_base.specs.Number.{bound}
use Rattle.link_base.specs.Forms.{bytes_in}
use Rattle.link_base.specs.Table.{Table, form_at}
use Rattle.link_base.specs.declared.rows.form.ArrayOf.{ArrayOf}
use Rattle.link_base.specs.Borrowed.{elements_at}
use Rattle.netlink_packet_route.specs.Family.{table_of}
use Rattle.link_entries.specs.declared.entry.Entry.{Entry}
use Rattle.link_entries.specs.declared.fields.Fields.{Fields}
use Rattle.link_entries.specs.declared.fields.Fields.TheVariants as fields
use Rattle.link_entries.specs.Forms.{form_held}
use Rattle.link_entries.specs.Fields.{IsNarrow, row_fields, number_form, array_number, ip_address, fields_in, fields_at}
use Rattle.link_requests.specs.declared.level.Scope.{Scope}
use Rattle.link_requests.specs.declared.level.Scope.TheVariants.{Attributes, Elements, Numbers, Addresses}
use Rattle.link_requests.specs.Value.{is_protinfo, row_for}

below_bound : (w : Width) → bound (bytes_in w) - 1 < bound (bytes_in w)
below_bound widths.One = omega arith
below_bound widths.Two = omega arith
below_bound widths.Four = omega arith
below_bound widths.Eight = omega arith

narrow_form : (form : Form) → IsNarrow (row_fields form)
narrow_form (forms.Number width order role) = below_bound width
narrow_form forms.Bool = omega arith
narrow_form forms.LowFlags = omega arith
narrow_form (forms.Bytes looks.Peer) = record {}
narrow_form (forms.Bytes look) = record {}
narrow_form (forms.Struct layouts.Clock) = below_bound widths.Four
narrow_form (forms.Struct layout) = record {}
narrow_form form = record {}

narrow_in : (form : Option Form) → IsNarrow (fields_in form)
narrow_in None = record {}
narrow_in (Some form) = narrow_form form

pub narrow_at : (table : Table) (k : ℕ) → IsNarrow (fields_at table k)
narrow_at table k = narrow_in (form_at table k)

-- that of a value
narrow_array : (a : ArrayOf) → IsNarrow (array_number a)
narrow_array a = narrow_form (number_form a)

narrow_if : (b : Bool) (own : Fields) → IsNarrow own → IfSome (cond b (Some own) None) IsNarrow
narrow_if true own h = h
narrow_if false own h = record {}

narrow_or : (b : Bool) (form : ℕ) (own : Fields) → IsNarrow own → IsNarrow (cond b (fields.Passed form None) own)
narrow_or true form own h = record {}
narrow_or false form own h = h

narrow_row : (scope : Scope) (family : ℕ) (e : Entry) → IfSome (row_for scope family e) IsNarrow
narrow_row (Attributes set) family e = narrow_or (is_protinfo set family e) form_held (fields_at (table_of set) e.kind) (narrow_at (table_of set) e.kind)
narrow_row (Elements set list) family e = narrow_if (e.kind == list) (fields_at (elements_at (table_of set) list) e.inner) (narrow_at (elements_at (table_of set) list) e.inner)
narrow_row (Numbers a list) family e = narrow_if (e.kind == list) (array_number a) (narrow_array a)
narrow_row (Addresses size list) family e = narrow_if (e.kind == list) (ip_address size) (record {})

pub narrow_of : (scope : Scope) (family : ℕ) (e : Entry) (row : Option Fields) → row ≡ row_for scope family e → IfSome row IsNarrow
narrow_of scope family e row is = subst (λ r. IfSome r IsNarrow) (sym is) (narrow_row scope family e)
