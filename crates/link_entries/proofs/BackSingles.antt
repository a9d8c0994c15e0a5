-- An attribute or an element without elements of its own, which was read, encodes to what a rewriting writes.
use Rattle.std.proofs.Common.{◌≡◌, ℕ, ◌+◌, ◌-◌, ◌%◌, ◌==◌, ◌&&◌, true, false, cond, List, [], length, Option, Some, None, Ok, Err, refl, sym, ap, ap₂, subst, ◌∙◌, arith}
use Rattle.std.specs.Prelude.{nat_lt}
use Rattle.std.proofs.lemmas.Bool.{eq-eqb, lt-ltb}
use Rattle.link_base.specs.declared.wire.fault.Cause.{Cause}
use Rattle.link_base.specs.declared.wire.buffer.NlaBuffer.{NlaBuffer}
use Rattle.link_base.specs.declared.views.content.Content.{Content as Borrowed}
use Rattle.link_base.specs.declared.views.content.Content.TheVariants as contents
use Rattle.link_base.specs.declared.rows.form.Form.{Form}
use Rattle.link_base.specs.declared.rows.form.Form.TheVariants as forms
use Rattle.link_base.specs.declared.rows.form.Look.TheVariants as looks
use Rattle.link_base.specs.Number.{IsBytes}
use Rattle.link_base.specs.Class.{Class, Value, extent, length_cause, unless, meant, class_value}
use Rattle.link_base.specs.Payloads.{class_by}
use Rattle.link_base.specs.Frame.{kind_of, kind_limit}
use Rattle.link_base.specs.Table.{Shape, One, Single, Table, AttrValue, Case, Other, class_at, form_at, GivesBy, Gives, single_case, written_kind, written_payload}
use Rattle.link_base.specs.Buffer.{kind_field_of, payload_of as payload_after}
use Rattle.link_base.specs.Borrowed.{form_of, HasContent}
use Rattle.link_base.specs.WellFormed.{is_table}
use Rattle.link_base.proofs.Readings.{ok, same_ok}
use Rattle.link_entries.specs.declared.entry.Entry.{Entry}
use Rattle.link_entries.specs.Forms.{form_unknown}
use Rattle.link_entries.specs.Content.{filled}
use Rattle.link_entries.specs.Flat.{Elements}
use Rattle.link_entries.proofs.OneContent.{value_at, fields_by, filled_by}
use Rattle.link_entries.specs.declared.fields.Fields.{Fields}
use Rattle.link_entries.specs.declared.fields.Fields.TheVariants as fields
use Rattle.link_entries.specs.declared.misfit.Misfit.TheVariants.{BadNumber}
use Rattle.link_entries.specs.Fields.{row_fields, fields_in, fields_at}
use Rattle.link_entries.specs.Payload.{passed, payload_of, field_of}
use Rattle.link_entries.proofs.RowForms.{is_list, is_value, with_kind, struct_value, value_no_list, value_field, value_kind, NoRow, OneValue, Array, AddressList, NestedList, row_says}
use Rattle.link_entries.proofs.BackValues.{StandsAt, right_form, passed_back}
use Rattle.link_entries.proofs.BackClasses.{class_back}

-- a content without elements
pub none_below : (table : Table) (k at : ℕ) (x : Borrowed) (es : List Entry) → is_list (fields_in (form_of x)) ≡ false → Elements table k at x es → es ≡ []
none_below table k at (contents.Numbers w p) es single h = absurd cc
none_below table k at (contents.Addresses p size) es single h = absurd cc
none_below table k at (contents.List p flagged) es single h = absurd cc
none_below table k at x es single h = h

-- a value of one class that was read
pub record WasRead (c : Class) (k : ℕ) (p : List ℕ) (v : AttrValue) : Type 0 where
  pub accepted : length_cause (extent c) (length p) ≡ None
  pub value : v ≡ Case k (Single (meant c p))

pub value_read : (c : Class) (k : ℕ) (p : List ℕ) (v : AttrValue) → ok v ≡ single_case k (class_value c p) → WasRead c k p v
value_read c k p v e = by_cause (length_cause (extent c) (length p)) refl e where
  by_cause : (o : Option Cause) → length_cause (extent c) (length p) ≡ o → ok v ≡ single_case k (unless o (meant c p)) → WasRead c k p v
  by_cause None is e = record { accepted = is; value = cc }
  by_cause (Some cause) is e = absurd cc

-- the payload of an attribute or an element whose type has no row
unknown_back : (e : Entry) (f : ℕ) (list p : List ℕ) → e.form ≡ form_unknown → e.kind ≡ kind_of f → e.flags ≡ f - kind_of f → StandsAt e list p → payload_of fields.Unknown e list ≡ Ok p
unknown_back e f list p same kind flags at =
    let low : nat_lt e.kind kind_limit ≡ true = lt-ltb e.kind kind_limit (omega (arith, kind)) in
    let none : (e.flags % kind_limit == 0) ≡ true = eq-eqb (e.flags % kind_limit) 0 (omega (arith, flags)) in
    right_form fields.Unknown e list same
    ∙ ap₂ (λ a b. cond (a && b) (passed None e list) (Err BadNumber)) low none ∙ passed_back None e list p at refl

-- the entry of an attribute with this content, from an entry without a content
module _ (table : Table) (b : NlaBuffer) (content : Borrowed) (has : HasContent table b content) (n : ℕ) (bare : Entry) where
  abbrev f : ℕ
  f = kind_field_of b

  abbrev k : ℕ
  k = kind_of (kind_field_of b)

  abbrev p : List ℕ
  p = payload_after b

  pub entry_by : (form : Option Form) (o : Option Shape) → form_at table (kind_of (kind_field_of b)) ≡ form → class_at table (kind_of (kind_field_of b)) ≡ o
      → filled (kind_field_of b) content n bare ≡ fields_by (kind_field_of b) form (value_at o (payload_after b)) n bare
  entry_by form o named class = filled_by f n bare (class_at table k) p content has.borrows ∙ ap₂ (λ m s. fields_by f m (value_at s p) n bare) (has.form ∙ named) class

  -- the entry of a list has no payload
  listed : (form : Form) (v : Value) (list : List ℕ) → is_list (row_fields form) ≡ true → payload_of (row_fields form) (fields_by (kind_field_of b) (Some form) v n bare) list ≡ Ok []
  listed (forms.Numbers w) v list h = refl
  listed (forms.Addresses size) v list h = refl
  listed (forms.List flagged) v list h = refl
  listed (forms.Struct layout) v list h = let no = value_no_list _ (struct_value layout) in absurd cc
  listed (forms.Bytes looks.Peer) v list h = absurd cc
  listed form v list h = absurd cc

  pub list_back : (form : Form) (list : List ℕ) → form_at table (kind_of (kind_field_of b)) ≡ Some form → is_list (row_fields form) ≡ true → payload_of (row_fields form) (filled (kind_field_of b) content n bare) list ≡ Ok []
  list_back form list named h = ap (λ e. payload_of (row_fields form) e list) (entry_by (Some form) (class_at table k) named refl) ∙ listed form (value_at (class_at table k) p) list h

  -- the entry of anything else encodes to its payload
  module _ (formed : is_table table ≡ true) (list : List ℕ) (bytes : IsBytes (payload_after b)) (at : StandsAt bare list (payload_after b)) (v : AttrValue) (given : Gives table (kind_field_of b) (payload_after b) (Ok v)) where
    pub record IsEncoded (own : Fields) : Type 0 where
      pub payload : payload_of own (with_kind (filled (kind_field_of b) content n bare) (kind_of (kind_field_of b))) list ≡ Ok (written_payload v)
      pub field : field_of own (kind_of (kind_field_of b)) (filled (kind_field_of b) content n bare) ≡ written_kind v

    no_row : form_at table k ≡ None → class_at table k ≡ None → IsEncoded fields.Unknown
    no_row named class =
        let value : v ≡ Other f p = same_ok v (Other f p) (subst (λ o. GivesBy o f p (Ok v)) class given) in
        let full = fields_by f None (value_at None p) n bare in
        let entry = entry_by None None named class in
        let sum : k + (filled f content n bare).flags ≡ f = omega (arith, ap (λ e. e.flags) entry) in
        record {
          payload =
              ap (λ e. payload_of fields.Unknown (with_kind e k) list) entry
              ∙ unknown_back (with_kind full k) f list p refl refl refl (record { size = at.size; within = at.within; short = at.short; is = at.is }) ∙ ap (λ w. Ok (written_payload w)) (sym value);
          field = sum ∙ ap written_kind (sym value);
        }

    value_back : (form : Form) (names : List (ℕ × List ℕ)) → form_at table k ≡ Some form → class_at table k ≡ Some (One (class_by form names)) → is_value (row_fields form) ≡ true → IsEncoded (row_fields form)
    value_back form names named class one =
        let own = row_fields form in
        let c = class_by form names in
        let was = value_read c k p v (subst (λ o. GivesBy o f p (Ok v)) class given) in
        let entry = entry_by (Some form) (Some (One c)) named class in
        let none : k ≡ k + 0 = omega arith in
        record {
          payload =
              value_kind own (filled f content n bare) k list one ∙ ap (λ e. payload_of own e list) entry
              ∙ class_back f n bare list p bytes at form names one was.accepted ∙ ap (λ w. Ok (written_payload w)) (sym was.value);
          field = value_field own k (filled f content n bare) one ∙ none ∙ ap written_kind (sym was.value);
        }

    pub single_back : is_list (fields_at table (kind_of (kind_field_of b))) ≡ false → IsEncoded (fields_at table (kind_of (kind_field_of b)))
    single_back single =
        elim (row_says table k formed) [
          | NoRow named class ↦ subst (λ o. IsEncoded (fields_in o)) (sym named) (no_row named class)
          | OneValue form names named class one low ↦ subst (λ o. IsEncoded (fields_in o)) (sym named) (value_back form names named class one)
          | Array a named class low ↦ let no : is_list (fields_at table k) ≡ true = ap (λ o. is_list (fields_in o)) named in absurd cc
          | AddressList size named class few low ↦ let no : is_list (fields_at table k) ≡ true = ap (λ o. is_list (fields_in o)) named in absurd cc
          | NestedList flagged rows named class low ↦ let no : is_list (fields_at table k) ≡ true = ap (λ o. is_list (fields_in o)) named in absurd cc
        ]
