-- The payloads that entries encode to have lengths that their class accepts.
use Rattle.std.proofs.Common.{◌≡◌, ℕ, ◌+◌, ◌≤◌, Bool, true, false, cond, List, [], ◌++◌, length, take, drop, Some, None, Result, Ok, Err, refl, sym, ap, ◌∙◌, arith}
use Rattle.std.specs.Prelude.{reverse}
use Rattle.std.proofs.lemmas.Bool.{eqb-true, leb-true, le-ltb}
use Rattle.std.proofs.lemmas.List.{length-append, length-take, length-drop}
use Rattle.link_base.specs.declared.wire.fault.Cause.TheVariants.{TooShort}
use Rattle.link_base.specs.declared.rows.form.Look.TheVariants as looks
use Rattle.link_base.specs.declared.rows.form.Form.{Form}
use Rattle.link_base.specs.declared.rows.form.Form.TheVariants as forms
use Rattle.link_base.specs.Number.{bytes_of}
use Rattle.link_base.specs.Orders.{bytes_by}
use Rattle.link_base.specs.Name.{name_of, name_field}
use Rattle.link_base.specs.Class as classes
use Rattle.link_base.specs.Class.{extent, length_cause, meant, written}
use Rattle.link_base.specs.Forms.{bytes_in, layout_extent}
use Rattle.link_base.specs.Payloads.{class_by}
use Rattle.link_base.proofs.Numbers.{length-bytes_of}
use Rattle.link_base.proofs.Orders.{length-bytes_by}
use Rattle.link_base.proofs.ClassLemmas.{at_size, within_most, length-name_field}
use Rattle.link_entries.specs.declared.entry.Entry.{Entry}
use Rattle.link_entries.specs.declared.fields.Fields.{Fields}
use Rattle.link_entries.specs.declared.fields.Fields.TheVariants as fields
use Rattle.link_entries.specs.declared.misfit.Misfit.{Misfit}
use Rattle.link_entries.specs.declared.misfit.Misfit.TheVariants.{BadNumber, BadOctets}
use Rattle.link_entries.specs.Fields.{struct_fields, row_fields}
use Rattle.link_entries.specs.Payload.{passed, content_of, payload_of, pair_of, rewritten}
use Rattle.link_entries.proofs.RowForms.{is_value, size_in, is_sized, struct_sized, tied}
use Rattle.link_entries.proofs.FlagBytes.{flag_few}
use Rattle.link_entries.proofs.WrittenLists.{same_these, if_held, only_held, content_ok, passed_held, headed_held}

pub exactly_size : (n : ℕ) (e : Entry) (octets p : List ℕ) → passed (Some n) e octets ≡ Ok p → length p ≡ n
exactly_size n e octets p h =
    let was = passed_held (Some n) e octets p h in
    omega (arith, ap length was.is, length-take e.length (drop e.offset octets), length-drop e.offset octets, was.within, eqb-true e.length n was.sized)

pair_size : (n a b : ℕ) (second_first : Bool) → length (pair_of second_first (bytes_of n a) (bytes_of n b)) ≡ n + n
pair_size n a b true = omega (arith, length-append (bytes_of n b) (bytes_of n a), length-bytes_of n a, length-bytes_of n b)
pair_size n a b false = omega (arith, length-append (bytes_of n a) (bytes_of n b), length-bytes_of n a, length-bytes_of n b)

pub limits_size : (r : Result (List ℕ) Misfit) (p : List ℕ) → rewritten r ≡ Ok p → ((q : List ℕ) → r ≡ Ok q → length q ≡ 48) → length p ≡ 48
limits_size (Ok q) p e size =
    let own : written (meant classes.Limits q) ≡ p = same_these (written (meant classes.Limits q)) p e in
    let name = name_of (take 16 q) in
    omega (arith, ap length own, length-append (name_field name) (take 32 (drop 16 q)), length-name_field name, length-take 32 (drop 16 q), length-drop 16 q, size q refl)
limits_size (Err m) p e size = absurd cc

module _ (e : Entry) (octets p : List ℕ) (held : length e.octets ≡ 16) where
  content_size : (own : Fields) → is_sized own ≡ true → content_of own e octets ≡ Ok p → length p ≡ size_in own
  content_size (fields.Number code w most order) a h = ap length (only_held _ BadNumber (bytes_by order (bytes_in w) e.number) p h).1 ∙ length-bytes_by order (bytes_in w) e.number
  content_size fields.Signed a h = ap length (only_held _ BadNumber (bytes_of 4 e.number) p h).1
  content_size (fields.Shorts code second_first) a h = ap length (only_held _ BadNumber _ p h).1 ∙ pair_size 2 e.number e.second second_first
  content_size (fields.Words code second_first) a h = ap length (only_held _ BadNumber _ p h).1 ∙ pair_size 4 e.number e.second second_first
  content_size fields.Protocol a h = ap length (only_held _ BadNumber (reverse (bytes_of 2 e.number)) p h).1
  content_size (fields.Address code n) a h = let own = (only_held _ BadOctets (take n e.octets) p h).1 in let few = leb-true n 16 a in omega (arith, ap length own, length-take n e.octets, held, few)
  content_size fields.BridgeId a h =
      let bytes = reverse (bytes_of 2 e.number) ++ take 6 e.octets in
      let own : p ≡ bytes = (only_held _ BadOctets bytes p (if_held _ BadNumber _ p h).1).1 in
      omega (arith, ap length own, length-append (reverse (bytes_of 2 e.number)) (take 6 e.octets), length-take 6 e.octets, held)
  content_size (fields.Passed code (Some n)) a h = exactly_size n e octets p h
  content_size fields.Limits a h = limits_size (passed (Some 48) e octets) p h (exactly_size 48 e octets)
  content_size (fields.Passed code None) a h = absurd cc
  content_size fields.Peer a h = absurd cc
  content_size fields.FlagOrBool a h = absurd cc
  content_size fields.Unknown a h = absurd cc
  content_size own a h = ap length (sym (same_these [] p h))

  pub written_size : (own : Fields) → is_sized own ≡ true → payload_of own e octets ≡ Ok p → length p ≡ size_in own
  written_size own a h = content_size own a (content_ok own e octets p h)

  -- of every form
  pub size_back : (form : Form) (names : List (ℕ × List ℕ)) → is_value (row_fields form) ≡ true → payload_of (row_fields form) e octets ≡ Ok p → length_cause (extent (class_by form names)) (length p) ≡ None
  size_back forms.FlagOrBool names a h = within_most 1 (length p) (flag_few e.length e.number p (content_ok fields.FlagOrBool e octets p h))
  size_back (forms.Bytes looks.Peer) names a h =
      let was = headed_held e octets p (content_ok fields.Peer e octets p h) in
      let size : 16 ≤ length p = omega (arith, ap length was.all.is, length-take e.length (drop e.offset octets), length-drop e.offset octets, was.all.within, was.least) in
      ap (λ b. cond b (Some (TooShort 16 (length p))) None) (le-ltb (length p) 16 size)
  size_back (forms.Bytes look) names a h = ap (λ b. cond b (Some (TooShort 0 (length p))) None) (le-ltb (length p) 0 (omega arith))
  size_back (forms.Struct layout) names a h = at_size (layout_extent layout) (length p) (written_size (struct_fields layout) (struct_sized layout).0 h ∙ tied (forms.Struct layout) names)
  size_back form names a h = at_size (extent (class_by form names)) (length p) (written_size (row_fields form) refl h ∙ tied form names)
