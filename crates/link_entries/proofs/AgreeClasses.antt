-- What is read of a payload that an entry encodes to: every form of a single value, and lists without their elements.
use Rattle.std.proofs.Common.{◌≡◌, inl, inr, ℕ, zero, suc, ◌-◌, ◌%◌, ◌<◌, ◌≤◌, ◌==◌, ◌&&◌, ◌||◌, Bool, true, false, cond, List, ◌++◌, length, map, take, drop, reverse, Option, Some, None, Result, Ok, Err, refl, sym, ap, subst, ◌∙◌, arith, take_all, take_at, drop_at, ◌+◌}
use Rattle.std.specs.Prelude.{nat_le, nat_lt, slice_index}
use Rattle.std.specs.Int.{w32, w64, cast_signed, cast_unsigned}
use Rattle.std.proofs.lemmas.Int.{to_z_pos}
use Rattle.std.proofs.lemmas.Bool.{or_cases, eqb-true, leb-true, ltb-true}
use Rattle.std.proofs.lemmas.List.{length-take}
use Rattle.link_base.specs.declared.rows.form.Width.{Width}
use Rattle.link_base.specs.declared.rows.form.Width.TheVariants as widths
use Rattle.link_base.specs.declared.rows.form.Order.{Order}
use Rattle.link_base.specs.declared.rows.form.Order.TheVariants as orders
use Rattle.link_base.specs.declared.rows.form.Role.TheVariants as roles
use Rattle.link_base.specs.declared.rows.form.Look.TheVariants as looks
use Rattle.link_base.specs.declared.rows.form.Form.{Form}
use Rattle.link_base.specs.declared.rows.form.Form.TheVariants as forms
use Rattle.link_base.specs.Number.{number, bytes_of, bound}
use Rattle.link_base.specs.Orders.{bytes_by}
use Rattle.link_base.specs.Layout.{number_at}
use Rattle.link_base.specs.Class as classes
use Rattle.link_base.specs.Class.{meant, written, is_listed, ether_type, size_of, Value}
use Rattle.link_base.specs.Forms.{bytes_in, layout_extent}
use Rattle.link_base.specs.Payloads.{class_by}
use Rattle.link_base.proofs.Numbers.{number-bytes_of, length-bytes_of}
use Rattle.link_base.proofs.Orders.{all_taken, be_again}
use Rattle.link_entries.specs.declared.entry.Entry.{Entry}
use Rattle.link_entries.specs.Entry.{padded}
use Rattle.link_entries.specs.Content.{with_struct}
use Rattle.link_entries.specs.Forms.{form_bool, form_flags}
use Rattle.link_entries.proofs.OneContent.{number-named, number_by_order, with_payload_value, fields_by, struct_taken, value_at}
use Rattle.link_entries.specs.declared.fields.Fields.{Fields}
use Rattle.link_entries.specs.declared.fields.Fields.TheVariants as fields
use Rattle.link_entries.specs.declared.misfit.Misfit.{Misfit}
use Rattle.link_entries.specs.declared.misfit.Misfit.TheVariants.{BadNumber, BadOctets}
use Rattle.link_entries.specs.Fields.{any_number, struct_fields, row_fields, fields_in, fields_at}
use Rattle.link_entries.specs.Payload.{form_in, is_i32, only_if, passed, payload_of, pair_of, rewritten, has_form, field_of}
use Rattle.link_entries.specs.Agreement.{IsEntry, referred, SameContent, IsSame}
use Rattle.link_entries.proofs.RowForms.{is_value, size_in, is_sized, EncodesAny, struct_sized, tied, is_list, with_kind, struct_value, value_no_list, NoRow, OneValue, Array, AddressList, NestedList, row_says}
use Rattle.link_entries.proofs.FlagBytes.{flag_read}
use Rattle.link_entries.proofs.BackValues.{StandsAt, negative, padded_back}
use Rattle.link_entries.proofs.WrittenLists.{same_these, if_held, only_held, both_true, content_ok, passed_held, headed_held}
use Rattle.link_entries.proofs.WrittenSizes.{written_size}
use Rattle.link_base.specs.Frame.{kind_of}
use Rattle.link_base.specs.Table.{Table, class_at, form_at}
use Rattle.link_base.specs.WellFormed.{is_table}
use Rattle.link_entries.proofs.WrittenParts.{unknown_held}

-- ---- numbers

truth : (x : ℕ) → x ≤ 1 → cond (nat_lt 0 x) 1 0 ≡ x
truth zero h = refl
truth (suc zero) h = refl
truth (suc (suc x)) h = absurd (omega (arith, h))

ether : (x : ℕ) → ((x == 33024) || (x == 34984)) ≡ true → ether_type (number (reverse (reverse (bytes_of 2 x)))) ≡ x
ether x h =
    elim (or_cases (x == 33024) (x == 34984) h) [
      | inl is ↦ let same = eqb-true x 33024 is in subst (λ n. ether_type (number (reverse (reverse (bytes_of 2 n)))) ≡ n) (sym same) refl
      | inr is ↦ let same = eqb-true x 34984 is in subst (λ n. ether_type (number (reverse (reverse (bytes_of 2 n)))) ≡ n) (sym same) refl
    ]

signed : (x : ℕ) → x < 18446744073709551616 → is_i32 x ≡ true → cast_unsigned w64 (cast_signed w32 (number (bytes_of 4 x))) ≡ x
signed x high h =
    let y = number (bytes_of 4 x) in
    let low : y ≡ x % 4294967296 = omega arith in
    elim (or_cases (nat_lt x 2147483648) (nat_le 18446744071562067968 x) h) [
      | inl small ↦ let few = ltb-true x 2147483648 small in ap (cast_unsigned w64) (to_z_pos w32 y (omega (arith, low, few))) ∙ omega (arith, low, few)
      | inr large ↦ let least = leb-true 18446744071562067968 x large in negative y (omega (arith, low, least, high)) (omega (arith, low)) ∙ omega (arith, low, least, high)
    ]

-- the limits of a CAN controller that were passed in
limits_held : (r : Result (List ℕ) Misfit) (p : List ℕ) → rewritten r ≡ Ok p → (q : List ℕ) × (r ≡ Ok q) × (p ≡ written (meant classes.Limits q))
limits_held (Ok q) p h = (q, refl, sym (same_these (written (meant classes.Limits q)) p h))
limits_held (Err m) p h = absurd cc

-- ---- every form

-- the form and the content of the entry r
abbrev pub IsRead : Fields → List ℕ → Entry → List ℕ → Entry → Type 0
IsRead own octets e list r = (r.form ≡ form_in own) × SameContent own octets e list r

-- a number that fits is that of its bytes
again : (order : Order) (n x : ℕ) → x < bound n → number_by_order order (classes.Raw (bytes_by order n x)) ≡ x
again orders.Little n x low = number-bytes_of n x low
again orders.Big n x low = be_again n x low

module _ (e : Entry) (octets p : List ℕ) (held : IsEntry e) where
  number_held : (code most : ℕ) (w : Width) (order : Order) → payload_of (fields.Number code w most order) e octets ≡ Ok p → (e.number ≤ most) × (p ≡ bytes_by order (bytes_in w) e.number)
  number_held code most w order h =
      let both = only_held (nat_le e.number most) BadNumber _ p (content_ok (fields.Number code w most order) e octets p h) in
      (leb-true e.number most both.0, both.1)

  some_bound : (w : Width) → e.number ≤ bound (bytes_in w) - 1 → e.number < bound (bytes_in w)
  some_bound widths.One h = omega (arith, h)
  some_bound w h = omega (arith, h)

  pub number_read : (code : ℕ) (w : Width) (order : Order) → payload_of (any_number code w order) e octets ≡ Ok p → number_by_order order (classes.Raw p) ≡ e.number
  number_read code w order h =
      let both = number_held code (bound (bytes_in w) - 1) w order h in
      ap (λ q. number_by_order order (classes.Raw q)) both.1 ∙ again order (bytes_in w) e.number (some_bound w both.0)

  truth_read : payload_of (fields.Number form_bool widths.One 1 orders.Little) e octets ≡ Ok p → cond (nat_lt 0 (number p)) 1 0 ≡ e.number
  truth_read h =
      let (few, is) = number_held form_bool 1 widths.One orders.Little h in
      ap (λ q. cond (nat_lt 0 (number q)) 1 0) is ∙ ap (λ x. cond (nat_lt 0 x) 1 0) (number-bytes_of 1 e.number (omega (arith, few))) ∙ truth e.number few

  low_read : payload_of (fields.Number form_flags widths.Two 255 orders.Little) e octets ≡ Ok p → slice_index p 0 ≡ e.number
  low_read h =
      let (few, is) = number_held form_flags 255 widths.Two orders.Little h in
      let low : e.number % 256 ≡ e.number = omega (arith, few) in
      ap (λ q. slice_index q 0) is ∙ low

  pub signed_read : payload_of fields.Signed e octets ≡ Ok p → cast_unsigned w64 (cast_signed w32 (number p)) ≡ e.number
  signed_read h =
      let both = only_held (is_i32 e.number) BadNumber (bytes_of 4 e.number) p (content_ok fields.Signed e octets p h) in
      ap (λ q. cast_unsigned w64 (cast_signed w32 (number q))) both.1 ∙ signed e.number held.number both.0

  ether_read : payload_of fields.Protocol e octets ≡ Ok p → ether_type (number (reverse p)) ≡ e.number
  ether_read h =
      let both = only_held ((e.number == 33024) || (e.number == 34984)) BadNumber (reverse (bytes_of 2 e.number)) p (content_ok fields.Protocol e octets p h) in
      ap (λ q. ether_type (number (reverse q))) both.1 ∙ ether e.number both.0

  -- pairs: the first and the second number of the payload
  halves_read : (w a b : ℕ) → a < bound w → b < bound w → p ≡ bytes_of w a ++ bytes_of w b → (number_at w 0 p ≡ a) × (number_at w w p ≡ b)
  halves_read w a b low high is =
      let front = take_at (bytes_of w a) (bytes_of w b) w (length-bytes_of w a) in
      let back = drop_at (bytes_of w a) (bytes_of w b) w (length-bytes_of w a) in
      (ap (number_at w 0) is ∙ ap number front ∙ number-bytes_of w a low, ap (number_at w w) is ∙ ap (λ q. number (take w q)) back ∙ ap number (all_taken w (bytes_of w b) (length-bytes_of w b)) ∙ number-bytes_of w b high)

  both_read : (w a b : ℕ) (second_first : Bool) → a < bound w → b < bound w → p ≡ pair_of second_first (bytes_of w a) (bytes_of w b) → (number_at w (cond second_first w 0) p ≡ a) × (number_at w (cond second_first 0 w) p ≡ b)
  both_read w a b true low high is = let halves = halves_read w b a high low is in (halves.1, halves.0)
  both_read w a b false low high is = halves_read w a b low high is

  -- addresses
  pub address_is : (code m : ℕ) → payload_of (fields.Address code m) e octets ≡ Ok p → p ≡ take m e.octets
  address_is code m h = (only_held (e.length == m) BadOctets (take m e.octets) p (content_ok (fields.Address code m) e octets p h)).1

  pub address_read : (code m : ℕ) → m ≤ 16 → payload_of (fields.Address code m) e octets ≡ Ok p → take m (padded p) ≡ take m e.octets
  address_read code m few h =
      let is = address_is code m h in
      padded_back p m (omega (arith, ap length is, length-take m e.octets, held.octets, few)) few ∙ is

  bridge_read : payload_of fields.BridgeId e octets ≡ Ok p → (number (reverse (take 2 p)) ≡ e.number) × (take 6 (padded (take 6 (drop 2 p))) ≡ take 6 e.octets)
  bridge_read h =
      let q = reverse (bytes_of 2 e.number) ++ take 6 e.octets in
      let right = if_held (nat_lt e.number 65536) BadNumber (only_if (e.length == 8) BadOctets q) p (content_ok fields.BridgeId e octets p h) in
      let both = only_held (e.length == 8) BadOctets q p right.1 in
      let low = ltb-true e.number 65536 right.0 in
      let six : length (take 6 e.octets) ≡ 6 = omega (arith, length-take 6 e.octets, held.octets) in
      let end : take 6 (drop 2 q) ≡ take 6 e.octets = take_all 6 (take 6 e.octets) (omega (arith, six)) in (
        ap (λ t. number (reverse (take 2 t))) both.1 ∙ number-bytes_of 2 e.number low,
        ap (λ t. take 6 (padded (take 6 (drop 2 t)))) both.1 ∙ ap (λ t. take 6 (padded t)) end ∙ padded_back (take 6 e.octets) 6 six (omega arith),
      )

  -- the bytes that were passed in
  referred_is : (size : Option ℕ) → passed size e octets ≡ Ok p → p ≡ referred e octets
  referred_is size h = (passed_held size e octets p h).is

  -- payloads of one size
  any_read : (own : Fields) (f n : ℕ) (list : List ℕ) (bare : Entry) → StandsAt bare list p → EncodesAny own → payload_of own e octets ≡ Ok p → IsRead own octets e list (with_payload_value f own (classes.Raw p) n bare)
  any_read (fields.Number code w most order) f n list bare at any h = (refl, number_read code w order (ap (λ m. payload_of (fields.Number code w m order) e octets) (sym any) ∙ h))
  any_read (fields.Shorts code second_first) f n list bare at any h =
      let both = only_held (nat_lt e.number 65536 && nat_lt e.second 65536) BadNumber _ p (content_ok (fields.Shorts code second_first) e octets p h) in
      let tests = both_true (nat_lt e.number 65536) (nat_lt e.second 65536) both.0 in
      (refl, both_read 2 e.number e.second second_first (ltb-true e.number 65536 tests.0) (ltb-true e.second 65536 tests.1) both.1)
  any_read (fields.Words code second_first) f n list bare at any h =
      let both = only_held (nat_lt e.number 4294967296) BadNumber _ p (content_ok (fields.Words code second_first) e octets p h) in
      (refl, both_read 4 e.number e.second second_first (ltb-true e.number 4294967296 both.0) held.second both.1)
  any_read (fields.Address code m) f n list bare at any h = (refl, address_read code m (leb-true m 16 any) h)
  any_read fields.BridgeId f n list bare at any h = (refl, bridge_read h)
  any_read (fields.Passed code (Some m)) f n list bare at any h = (refl, ap (λ k. take k (drop bare.offset list)) at.size ∙ at.is ∙ referred_is (Some m) (content_ok (fields.Passed code (Some m)) e octets p h))
  any_read own f n list bare at any h = absurd cc

  -- in a list, where the payload stands
  module _ (f n : ℕ) (list : List ℕ) (bare : Entry) (at : StandsAt bare list p) where
    exact_read : (own : Fields) → EncodesAny own → is_sized own ≡ true → payload_of own e octets ≡ Ok p → IsRead own octets e list (with_payload_value f own (classes.Raw (take (size_in own) p)) n bare)
    exact_read own any sized h =
        let size = written_size e octets p held.octets own sized h in
        subst (λ q. IsRead own octets e list (with_payload_value f own (classes.Raw q) n bare)) (sym (take_all (size_in own) p (omega (arith, size)))) (any_read own f n list bare at any h)

    -- bytes at the start
    front_is : (m : ℕ) → length p ≡ m → take m (drop bare.offset list) ≡ p
    front_is m size = ap (λ k. take k (drop bare.offset list)) (sym size) ∙ at.is

    pub class_read : (form : Form) (names : List (ℕ × List ℕ)) → is_value (row_fields form) ≡ true → payload_of (row_fields form) e octets ≡ Ok p
        → IsRead (row_fields form) octets e list (fields_by f (Some form) (meant (class_by form names) p) n bare)
    class_read forms.Nothing names a h = (refl, tt)
    class_read forms.Bool names a h = (refl, truth_read h)
    class_read forms.FlagOrBool names a h =
        let read = flag_read e.length e.number p (content_ok fields.FlagOrBool e octets p h) in
        (refl, (read.0, at.size ∙ read.1))
    class_read forms.Signed names a h = (refl, signed_read h)
    class_read (forms.Number w orders.Little roles.Enum) names a h = (refl, number-named (bytes_in w) (map (λ x. x.0) names) (number p) ∙ number_read _ w orders.Little h)
    class_read (forms.Number w orders.Little role) names a h = (refl, number_read _ w orders.Little h)
    class_read forms.LowFlags names a h = (refl, low_read h)
    class_read forms.Protocol names a h = (refl, ether_read h)
    class_read (forms.Bytes looks.Peer) names a h = (refl, front_is bare.length (sym at.size) ∙ (headed_held e octets p (content_ok fields.Peer e octets p h)).all.is)
    class_read (forms.Bytes look) names a h = (refl, front_is bare.length (sym at.size) ∙ referred_is None (content_ok (row_fields (forms.Bytes look)) e octets p h))
    class_read (forms.Struct layout) names a h =
        let m = size_of (layout_extent layout) in
        let size : length p ≡ m = written_size e octets p held.octets (struct_fields layout) (struct_sized layout).0 h ∙ tied (forms.Struct layout) names in
        let stated = ap (λ q. with_struct layout q bare) (take_all m p (omega (arith, size))) ∙ struct_taken f n layout p bare size (omega (arith, at.size)) in
        let there : StandsAt (record bare { length = m }) list p = record { size = sym size; within = at.within; short = at.short; is = at.is } in
        subst (IsRead (struct_fields layout) octets e list) (sym stated) (any_read (struct_fields layout) f n list (record bare { length = m }) there (struct_sized layout).1 h)
    class_read forms.Limits names a h =
        let (q, right, is) = limits_held (passed (Some 48) e octets) p (content_ok fields.Limits e octets p h) in
        (refl, front_is 48 (written_size e octets p held.octets fields.Limits refl h) ∙ is ∙ ap (λ t. written (meant classes.Limits t)) (passed_held (Some 48) e octets q right).is)
    class_read (forms.Numbers w) names a h = absurd cc
    class_read (forms.Addresses size) names a h = absurd cc
    class_read (forms.List flagged) names a h = absurd cc
    class_read form names a h = exact_read (row_fields form) refl refl h

-- the type of the entry does not matter
pub same_content : (own : Fields) (e : Entry) (k : ℕ) (octets list : List ℕ) (r : Entry) → SameContent own octets (with_kind e k) list r → SameContent own octets e list r
same_content fields.Unknown e k octets list r h = h
same_content own e k octets list r h = h

-- an entry that holds the same, and the fields that its content leaves as they are
pub same_of : (own : Fields) (octets list : List ℕ) (e r full : Entry) → r ≡ full → r.kind ≡ e.kind → r.depth ≡ e.depth → has_form own e ≡ true → IsRead own octets e list full → IsSame own octets e list r
same_of own octets list e r full is kind depth given read = record {
  kind = kind;
  depth = depth;
  form = ap (λ x. x.form) is ∙ read.0;
  given = given;
  content = subst (λ x. SameContent own octets e list x) (sym is) read.1;
}

module _ (table : Table) (formed : is_table table ≡ true) (e : Entry) (octets p : List ℕ) (held : IsEntry e) (h : payload_of (fields_at table e.kind) e octets ≡ Ok p) (f n : ℕ) (list : List ℕ) (bare : Entry) (at : StandsAt bare list p)
    (field : f ≡ field_of (fields_at table e.kind) e.kind e) (kind : kind_of f ≡ e.kind) where
  pub single_read : is_list (fields_at table e.kind) ≡ false → IsRead (fields_at table e.kind) octets e list (fields_by f (form_at table e.kind) (value_at (class_at table e.kind) p) n bare)
  single_read single =
      let k = e.kind in
      elim (row_says table k formed) [
        | NoRow named class ↦
            let plain = unknown_held e octets p (ap (λ o. payload_of (fields_in o) e octets) (sym named) ∙ h) in
            let sum : f ≡ k + e.flags = field ∙ ap (λ o. field_of (fields_in o) k e) named in
            let flags : f - kind_of f ≡ e.flags = omega (arith, kind, sum) in
            let bytes : take bare.length (drop bare.offset list) ≡ p = ap (λ m. take m (drop bare.offset list)) at.size ∙ at.is in
            subst (λ o. IsRead (fields_in o) octets e list (fields_by f o (value_at (class_at table k) p) n bare)) (sym named) (refl, (flags, bytes ∙ plain.is))
        | OneValue form names named class one low ↦
            let read = class_read e octets p held f n list bare at form names one (ap (λ o. payload_of (fields_in o) e octets) (sym named) ∙ h) in
            subst (λ o. IsRead (fields_in o) octets e list (fields_by f o (value_at (class_at table k) p) n bare)) (sym named)
            (subst (λ s. IsRead (row_fields form) octets e list (fields_by f (Some form) (value_at s p) n bare)) (sym class) read)
        | Array a named class low ↦ let no : is_list (fields_at table k) ≡ true = ap (λ o. is_list (fields_in o)) named in absurd cc
        | AddressList size named class few low ↦ let no : is_list (fields_at table k) ≡ true = ap (λ o. is_list (fields_in o)) named in absurd cc
        | NestedList flagged rows named class low ↦ let no : is_list (fields_at table k) ≡ true = ap (λ o. is_list (fields_in o)) named in absurd cc
      ]

-- a list, without its elements
pub list_read : (form : Form) (octets list : List ℕ) (e : Entry) (f n : ℕ) (v : Value) (bare : Entry) → is_list (row_fields form) ≡ true → IsRead (row_fields form) octets e list (fields_by f (Some form) v n bare)
list_read (forms.Numbers w) octets list e f n v bare h = (refl, tt)
list_read (forms.Addresses size) octets list e f n v bare h = (refl, tt)
list_read (forms.List flagged) octets list e f n v bare h = (refl, tt)
list_read (forms.Struct layout) octets list e f n v bare h = let no = value_no_list _ (struct_value layout) in absurd cc
list_read (forms.Bytes looks.Peer) octets list e f n v bare h = absurd cc
list_read form octets list e f n v bare h = absurd cc
