-- What is borrowed from the payload that an entry encodes to is borrowed from the payload that the entry was read from.
use Rattle.std.proofs.Common.{◌≡◌, ℕ, Bool, true, false, List, length, take, drop, Some, None, Ok, refl, sym, ap, subst, ◌∙◌, arith, take-take}
use Rattle.std.proofs.lemmas.List.{drop-take}
use Rattle.link_base.specs.declared.views.content.Content.{Content}
use Rattle.link_base.specs.declared.views.content.Content.TheVariants as contents
use Rattle.link_base.specs.declared.rows.form.Order.TheVariants as orders
use Rattle.link_base.specs.declared.rows.form.Role.TheVariants as roles
use Rattle.link_base.specs.declared.rows.form.Form.{Form}
use Rattle.link_base.specs.declared.rows.form.Form.TheVariants as forms
use Rattle.link_base.specs.declared.rows.form.Look.TheVariants as looks
use Rattle.link_base.specs.Number.{IsBytes, number}
use Rattle.link_base.specs.Name.{before_nul}
use Rattle.link_base.specs.Class as classes
use Rattle.link_base.specs.Class.{Class, AtLeast, extent, length_cause, flag_in, meant, written, canon, cut}
use Rattle.link_base.specs.Payloads.{class_by}
use Rattle.link_base.specs.Table.{One}
use Rattle.link_base.specs.Borrowed.{Borrows, Says, SaysLimits}
use Rattle.link_base.proofs.ClassLemmas.{accepted_meaning, size_reached, cut-named}
use Rattle.link_base.proofs.Values.{meant_in_range, meant_canon, flag_cut, back}
use Rattle.link_entries.specs.declared.entry.Entry.{Entry}
use Rattle.link_entries.specs.declared.fields.Fields.{Fields}
use Rattle.link_entries.specs.Agreement.{referred}
use Rattle.link_entries.specs.Fields.{row_fields}
use Rattle.link_entries.specs.Payload.{payload_of}
use Rattle.link_entries.proofs.BackValues.{StandsAt}
use Rattle.nlroute_ffi.specs.ValueText.{Shows, has_elements}
use Rattle.nlroute_ffi.proofs.ShownBytes.{is_limits, struct_no_limits, shown_again}

-- ---- values that were written and read again

-- the class of the limits of a CAN controller
abbrev is_limited : Class → Bool
is_limited classes.Limits = true
is_limited c = false

uncut : (c : Class) (p : List ℕ) → is_limited c ≡ false → cut (meant c p) ≡ meant c p
uncut classes.Limits p h = absurd cc
uncut (classes.Named n listed) p h = cut-named n listed (number p)
uncut classes.Optional p h = flag_cut (flag_in p)
uncut c p h = refl

read_again : (c : Class) (p : List ℕ) → is_limited c ≡ false → IsBytes p → length_cause (extent c) (length p) ≡ None → meant c (written (meant c p)) ≡ meant c p
read_again c p plain bytes ok =
    let v = meant c p in
    let again = accepted_meaning c (written v) (cut (canon v)) (back c v (meant_in_range c p bytes ok)) in
    sym again.1 ∙ ap cut (meant_canon c p) ∙ uncut c p plain

same_value : (c : Class) (p s : List ℕ) (x : Content) → is_limited c ≡ false → meant c s ≡ meant c p → Borrows (Some (One c)) s x → Borrows (Some (One c)) p x
same_value classes.Limits p s x plain same h = absurd cc
same_value c p s x plain same h = subst (Says x) same h

-- the limits of a CAN controller are shown as they were read
same_limits : (p s : List ℕ) (x : Content) → s ≡ take 48 p → SaysLimits x s → SaysLimits x p
same_limits p s (contents.Limits name numbers) is h = (
  h.0 ∙ ap (λ t. before_nul (take 16 t)) is ∙ ap before_nul (take-take 16 48 p (omega arith)),
  h.1 ∙ ap (λ t. take 32 (drop 16 t)) is ∙ ap (λ t. take 32 t) (drop-take 16 32 p) ∙ take-take 32 32 (drop 16 p) (omega arith),
)
same_limits p s x is h = absurd h

-- ---- an entry that encodes to what a rewriting writes for its payload

module _ (e : Entry) (list p s : List ℕ) (bytes : IsBytes p) (x : Content) where
  value_back : (own : Fields) (c : Class) → is_limits own ≡ false → is_limited c ≡ false → length_cause (extent c) (length p) ≡ None → payload_of own e list ≡ Ok (written (meant c p)) → Shows own e list s
      → Borrows (Some (One c)) s x → Borrows (Some (One c)) p x
  value_back own c one plain ok payload shows h =
      let same : s ≡ written (meant c p) = shown_again own e list (written (meant c p)) s one payload shows in
      same_value c p s x plain (ap (meant c) same ∙ read_again c p plain bytes ok) h

  abbrev Goal : Form → List (ℕ × List ℕ) → Type 0
  Goal form names =
      has_elements form ≡ false → length_cause (extent (class_by form names)) (length p) ≡ None → payload_of (row_fields form) e list ≡ Ok (written (meant (class_by form names) p)) → Shows (row_fields form) e list s
      → (form ≡ forms.Limits → referred e list ≡ take 48 p) → Borrows (Some (One (class_by form names))) s x → Borrows (Some (One (class_by form names))) p x

  pub borrows_back : (form : Form) (names : List (ℕ × List ℕ)) → Goal form names
  borrows_back forms.Limits names plain ok payload (q, is, at) front h = same_limits p s x (at ∙ front refl) h
  borrows_back (forms.Struct layout) names plain ok payload shows front h = value_back (row_fields (forms.Struct layout)) (class_by (forms.Struct layout) names) (struct_no_limits layout) refl ok payload shows h
  borrows_back (forms.Number w orders.Little roles.Enum) names plain ok payload shows front h = value_back (row_fields (forms.Number w orders.Little roles.Enum)) (class_by (forms.Number w orders.Little roles.Enum) names) refl refl ok payload shows h
  borrows_back (forms.Number w orders.Little role) names plain ok payload shows front h = value_back (row_fields (forms.Number w orders.Little role)) (class_by (forms.Number w orders.Little role) names) refl refl ok payload shows h
  borrows_back (forms.Number w orders.Big role) names plain ok payload shows front h = value_back (row_fields (forms.Number w orders.Big role)) (class_by (forms.Number w orders.Big role) names) refl refl ok payload shows h
  borrows_back (forms.Addresses n) names plain ok payload shows front h = absurd cc
  borrows_back (forms.List flagged) names plain ok payload shows front h = absurd cc
  borrows_back (forms.Numbers w) names plain ok payload shows front h = absurd cc
  borrows_back (forms.Bytes looks.Peer) names plain ok payload shows front h = value_back (row_fields (forms.Bytes looks.Peer)) (class_by (forms.Bytes looks.Peer) names) refl refl ok payload shows h
  borrows_back form names plain ok payload shows front h = value_back (row_fields form) (class_by form names) refl refl ok payload shows h

-- the first 48 bytes of a payload of limits, as an entry refers to them
pub limits_front : (e e' : Entry) (list p : List ℕ) → StandsAt e list p → length_cause (AtLeast 48) (length p) ≡ None → e'.length ≡ 48 → e'.offset ≡ e.offset → referred e' list ≡ take 48 p
limits_front e e' list p at ok size place =
    let enough = size_reached (AtLeast 48) (length p) ok in
    ap (λ n. take n (drop e'.offset list)) size ∙ ap (λ o. take 48 (drop o list)) place ∙ sym (take-take 48 (length p) (drop e.offset list) enough) ∙ ap (take 48) at.is
