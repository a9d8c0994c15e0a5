-- An entry that was read encodes to what a rewriting writes: every form of a single value.
use Rattle.std.proofs.Common.{◌≡◌, ℕ, ◌+◌, ◌-◌, ◌<◌, ◌≤◌, ◌==◌, ◌&&◌, Bool, true, false, cond, List, ◌++◌, length, map, take, drop, reverse, Some, None, Ok, Err, refl, sym, ap, ap₂, ◌∙◌, arith, take_all, take-take}
use Rattle.std.specs.Prelude.{nat_lt, slice_index}
use Rattle.std.proofs.lemmas.Bool.{eq-eqb, leb-true, le-leb, lt-ltb}
use Rattle.std.proofs.lemmas.List.{length-take, length-drop, take-append-drop, drop-take}
use Rattle.link_base.specs.declared.rows.form.Width.{Width}
use Rattle.link_base.specs.declared.rows.form.Width.TheVariants as widths
use Rattle.link_base.specs.declared.rows.form.Order.TheVariants as orders
use Rattle.link_base.specs.declared.rows.form.Role.TheVariants as roles
use Rattle.link_base.specs.declared.rows.form.Look.TheVariants as looks
use Rattle.link_base.specs.declared.rows.form.Layout.{Layout}
use Rattle.link_base.specs.declared.rows.form.Form.{Form}
use Rattle.link_base.specs.declared.rows.form.Form.TheVariants as forms
use Rattle.link_base.specs.Number.{IsBytes, number, bytes_of, bound}
use Rattle.link_base.specs.Layout.{number_at}
use Rattle.link_base.specs.Name.{name_of, name_field}
use Rattle.link_base.specs.Class as classes
use Rattle.link_base.specs.Class.{Extent, Exactly, extent, length_cause, meant, written, size_of}
use Rattle.link_base.specs.Forms.{bytes_in, layout_extent}
use Rattle.link_base.specs.Payloads.{class_by}
use Rattle.link_base.proofs.Values.{bytes-take, meant_in_range}
use Rattle.link_base.proofs.Orders.{be_below, be_back}
use Rattle.link_base.proofs.ClassLemmas.{exactly, at_most, size_reached, number_in, same_bytes, written-named}
use Rattle.link_entries.specs.declared.entry.Entry.{Entry}
use Rattle.link_entries.specs.Entry.{padded}
use Rattle.link_entries.specs.Content.{with_struct}
use Rattle.link_entries.specs.Forms.{form_named, form_flags, form_bittiming_const}
use Rattle.link_entries.proofs.OneContent.{number-named, with_payload_value, fields_by, struct_taken}
use Rattle.link_entries.specs.declared.fields.Fields.{Fields}
use Rattle.link_entries.specs.declared.fields.Fields.TheVariants as fields
use Rattle.link_entries.specs.declared.misfit.Misfit.TheVariants.{BadNumber, BadOctets}
use Rattle.link_entries.specs.Fields.{any_number, role_form, struct_fields, row_fields}
use Rattle.link_entries.specs.Payload.{only_if, passed, payload_of, rewritten, pair_of}
use Rattle.link_entries.proofs.RowForms.{is_value, size_in, EncodesAny, struct_sized, tied}
use Rattle.link_entries.proofs.FlagBytes.{flag_back}
use Rattle.link_entries.proofs.BackValues.{StandsAt, right_form, passes, whole_number, passed_back, at_back, at_below, halves, address_back, padded_back, signed_back, first_below, low2, front_stands}

-- ---- payloads of one size

-- two numbers of w bytes each
halves_back : (w : ℕ) (q : List ℕ) (second_first : Bool) → IsBytes q → length q ≡ w + w → (number_at w (cond second_first w 0) q < bound w) × (number_at w (cond second_first 0 w) q < bound w)
    × (pair_of second_first (bytes_of w (number_at w (cond second_first w 0) q)) (bytes_of w (number_at w (cond second_first 0 w) q)) ≡ q)
halves_back w q second_first bytes size =
    let low = at_below w 0 q bytes (omega (arith, size)) in
    let high = at_below w w q bytes (omega (arith, size)) in
    let all = ap₂ (λ a b. a ++ b) (at_back w 0 q bytes (omega (arith, size))) (at_back w w q bytes (omega (arith, size))) ∙ halves w q size in
    elim second_first as (
    λ b. (number_at w (cond b w 0) q < bound w) × (number_at w (cond b 0 w) q < bound w) × (pair_of b (bytes_of w (number_at w (cond b w 0) q)) (bytes_of w (number_at w (cond b 0 w) q)) ≡ q)
    ) [
      | true ↦ (high, low, all)
      | false ↦ (low, high, all)
    ]

-- an entry that was read of any bytes of the size
any_back : (own : Fields) (f n : ℕ) (e : Entry) (list q : List ℕ) → IsBytes q → StandsAt e list q → EncodesAny own → length q ≡ size_in own → payload_of own (with_payload_value f own (classes.Raw q) n e) list ≡ Ok q
any_back (fields.Number code w most order) f n e list q bytes at any size =
    let read : ℕ → Entry = λ m. with_payload_value f (fields.Number code w m order) (classes.Raw q) n e in
    ap (λ m. payload_of (fields.Number code w m order) (read m) list) any ∙ whole_number code w order q (read (bound (bytes_in w) - 1)) list bytes size refl refl
any_back (fields.Shorts code second_first) f n e list q bytes at any size =
    let (low, high, all) = halves_back 2 q second_first bytes size in
    passes (fields.Shorts code second_first) (with_payload_value f (fields.Shorts code second_first) (classes.Raw q) n e) list _ q _ BadNumber refl refl
    (ap₂ (λ a b. a && b) (lt-ltb (number_at 2 (cond second_first 2 0) q) 65536 low) (lt-ltb (number_at 2 (cond second_first 0 2) q) 65536 high)) all
any_back (fields.Words code second_first) f n e list q bytes at any size =
    let (low, high, all) = halves_back 4 q second_first bytes size in
    passes (fields.Words code second_first) (with_payload_value f (fields.Words code second_first) (classes.Raw q) n e) list _ q _ BadNumber refl refl (lt-ltb (number_at 4 (cond second_first 4 0) q) 4294967296 low) all
any_back (fields.Address code m) f n e list q bytes at any size =
    address_back code m (with_payload_value f (fields.Address code m) (classes.Raw q) n e) list q refl (at.size ∙ size) size (leb-true m 16 any) refl
any_back fields.BridgeId f n e list q bytes at any size =
    let front = take 2 q in
    let back = take 6 (drop 2 q) in
    let two : length front ≡ 2 = omega (arith, length-take 2 q, size) in
    let low = be_below 2 front (bytes-take 2 q bytes) two in
    let six : length back ≡ 6 = omega (arith, length-take 6 (drop 2 q), length-drop 2 q, size) in
    let all : front ++ back ≡ q = ap (λ t. front ++ t) (take_all 6 (drop 2 q) (omega (arith, length-drop 2 q, size))) ∙ take-append-drop 2 q in
    let own = reverse (bytes_of 2 (number (reverse front))) ++ take 6 (padded back) in
    right_form fields.BridgeId (with_payload_value f fields.BridgeId (classes.Raw q) n e) list refl
    ∙ ap₂ (λ a b. cond a (only_if b BadOctets own) (Err BadNumber)) (lt-ltb (number (reverse front)) 65536 low) (eq-eqb e.length 8 (at.size ∙ size))
    ∙ ap Ok (ap₂ (λ a b. a ++ b) (be_back 2 front (bytes-take 2 q bytes) two) (padded_back back 6 six (omega arith)) ∙ all)
any_back (fields.Passed code (Some m)) f n e list q bytes at any size =
    let own = fields.Passed code (Some m) in
    let read : Entry = with_payload_value f own (classes.Raw q) n e in
    right_form own read list refl ∙ passed_back (Some m) read list q (record { size = at.size; within = at.within; short = at.short; is = at.is }) (eq-eqb e.length m (at.size ∙ size))
any_back own f n e list q bytes at any size = absurd cc

-- ---- every form

-- the limits of a CAN controller
limits_front : (p : List ℕ) → 48 ≤ length p → written (meant classes.Limits (take 48 p)) ≡ written (meant classes.Limits p)
limits_front p enough =
    ap₂ (λ name numbers. name_field (name_of name) ++ numbers) (take-take 16 48 p (omega arith))
    (ap (take 32) (drop-take 16 32 p) ∙ take-take 32 32 (drop 16 p) (omega arith))

module _ (f n : ℕ) (e : Entry) (list p : List ℕ) (bytes : IsBytes p) (at : StandsAt e list p) where
  -- the first bytes of the payload
  part_back : (own : Fields) (x : Extent) (e' : Entry) → EncodesAny own → length_cause x (length p) ≡ None → size_in own ≡ size_of x → e'.offset ≡ e.offset → e'.length ≡ size_of x
      → payload_of own (with_payload_value f own (classes.Raw (take (size_of x) p)) n e') list ≡ Ok (take (size_of x) p)
  part_back own x e' any ok tied place size =
      let kept = meant_in_range (classes.Octets x) p bytes ok in
      any_back own f n e' list (take (size_of x) p) kept.1 (front_stands e list p (size_of x) at (size_reached x (length p) ok) e' place size) any (kept.0 ∙ sym tied)

  -- all bytes
  exact_back : (own : Fields) → EncodesAny own → length_cause (Exactly (size_in own)) (length p) ≡ None → payload_of own (with_payload_value f own (classes.Raw (take (size_in own) p)) n e) list ≡ Ok (take (size_in own) p)
  exact_back own any ok = part_back own (Exactly (size_in own)) e any ok refl refl (at.size ∙ exactly (size_in own) (length p) ok)

  struct_back : (layout : Layout) (names : List (ℕ × List ℕ)) → length_cause (layout_extent layout) (length p) ≡ None
      → payload_of (struct_fields layout) (with_struct layout (take (size_of (layout_extent layout)) p) e) list ≡ Ok (take (size_of (layout_extent layout)) p)
  struct_back layout names ok =
      let x = layout_extent layout in
      let q = take (size_of x) p in
      let enough = size_reached x (length p) ok in
      let size : length q ≡ size_of x = (meant_in_range (classes.Octets x) p bytes ok).0 in
      ap (λ r. payload_of (struct_fields layout) r list) (struct_taken f n layout q e size (omega (arith, size, enough, at.size)))
      ∙ part_back (struct_fields layout) x (record e { length = size_of x }) (struct_sized layout).1 ok (tied (forms.Struct layout) names) refl refl

  -- a little-endian number
  little_back : (code : ℕ) (w : Width) (e' : Entry) → length_cause (Exactly (bytes_in w)) (length p) ≡ None → e'.form ≡ code → e'.number ≡ number p
      → payload_of (any_number code w orders.Little) e' list ≡ Ok (bytes_of (bytes_in w) (number p))
  little_back code w e' ok same is =
      let size = exactly (bytes_in w) (length p) ok in
      whole_number code w orders.Little p e' list bytes size same is ∙ ap Ok (sym (same_bytes (bytes_in w) p bytes size))

  -- its payload, as an entry
  abbrev entry_by : Form → List (ℕ × List ℕ) → Entry
  entry_by form names = fields_by f (Some form) (meant (class_by form names) p) n e

  pub class_back : (form : Form) (names : List (ℕ × List ℕ)) → is_value (row_fields form) ≡ true → length_cause (extent (class_by form names)) (length p) ≡ None
      → payload_of (row_fields form) (fields_by f (Some form) (meant (class_by form names) p) n e) list ≡ Ok (written (meant (class_by form names) p))
  class_back forms.Nothing names h ok = refl
  class_back forms.Bool names h ok =
      elim (nat_lt 0 (number p)) as (λ b. payload_of (row_fields forms.Bool) (fields_by f (Some forms.Bool) (classes.Boolean b) n e) list ≡ Ok (written (classes.Boolean b))) [
        | true ↦ refl
        | false ↦ refl
      ]
  class_back forms.FlagOrBool names h ok = flag_back (entry_by forms.FlagOrBool names) list p refl at.size (at_most 1 (length p) ok) refl
  class_back forms.Signed names h ok =
      let size = exactly 4 (length p) ok in
      signed_back (entry_by forms.Signed names) list (number p) (number_in 4 p bytes size) refl refl
  class_back (forms.Number w orders.Little roles.Enum) names h ok =
      let listed = map (λ x. x.0) names in
      little_back form_named w (entry_by (forms.Number w orders.Little roles.Enum) names) ok refl (number-named (bytes_in w) listed (number p)) ∙ ap Ok (sym (written-named (bytes_in w) listed (number p)))
  class_back (forms.Number w orders.Little role) names h ok = little_back (role_form role) w (entry_by (forms.Number w orders.Little role) names) ok refl refl
  class_back forms.LowFlags names h ok =
      let x = slice_index p 0 in
      let low = first_below p bytes in
      passes (fields.Number form_flags widths.Two 255 orders.Little) (entry_by forms.LowFlags names) list _ _ _ BadNumber refl refl (le-leb x 255 (omega (arith, low))) (low2 x low)
  class_back forms.Protocol names h ok =
      elim (number (reverse p) == 0x88A8) as (
      λ b. payload_of fields.Protocol (fields_by f (Some forms.Protocol) (classes.EtherType (cond b 0x88A8 0x8100)) n e) list ≡ Ok (written (classes.EtherType (cond b 0x88A8 0x8100)))
      ) [
        | true ↦ refl
        | false ↦ refl
      ]
  class_back (forms.Bytes looks.Peer) names h ok =
      let e' = entry_by (forms.Bytes looks.Peer) names in
      let least = size_reached (classes.AtLeast 16) (length p) ok in
      right_form fields.Peer e' list refl ∙ ap (λ b. cond b (passed None e' list) (Err BadOctets)) (le-leb 16 e.length (omega (arith, least, at.size)))
      ∙ passed_back None e' list p (record { size = at.size; within = at.within; short = at.short; is = at.is }) refl
  class_back (forms.Bytes look) names h ok =
      let e' = entry_by (forms.Bytes look) names in
      right_form (row_fields (forms.Bytes look)) e' list refl ∙ passed_back None e' list p (record { size = at.size; within = at.within; short = at.short; is = at.is }) refl
  class_back (forms.Struct layout) names h ok = struct_back layout names ok
  class_back forms.Limits names h ok =
      let enough = size_reached (classes.AtLeast 48) (length p) ok in
      let full : Entry = record e { form = form_bittiming_const; length = 48 } in
      ap rewritten (passed_back (Some 48) full list (take 48 p) (front_stands e list p 48 at enough full refl refl) refl) ∙ ap Ok (limits_front p enough)
  class_back (forms.Numbers w) names h ok = absurd cc
  class_back (forms.Addresses size) names h ok = absurd cc
  class_back (forms.List flagged) names h ok = absurd cc
  class_back form names h ok = exact_back (row_fields form) refl ok
