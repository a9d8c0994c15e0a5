-- What is shown of the payload that an entry encodes to.
use Rattle.std.proofs.Common.{◌≡◌, ℕ, ◌+◌, ◌%◌, ◌≤◌, ◌==◌, ◌&&◌, Bool, true, false, cond, List, [], ◌++◌, length, take, drop, replicate, reverse, Option, Some, None, Result, Ok, Err, refl, sym, ap, subst, ◌∙◌, arith, append_assoc, length-append, length-take}
use Rattle.std.specs.Prelude.{nat_lt, nat_le}
use Rattle.std.proofs.lemmas.List.{length-replicate, take_at, drop_at}
use Rattle.link_base.specs.declared.rows.form.Width.{Width}
use Rattle.link_base.specs.declared.rows.form.Width.TheVariants as widths
use Rattle.link_base.specs.declared.rows.form.Layout.{Layout}
use Rattle.link_base.specs.declared.rows.form.Layout.TheVariants as layouts
use Rattle.link_base.specs.declared.rows.form.Look.TheVariants as looks
use Rattle.link_base.specs.declared.rows.form.Form.{Form}
use Rattle.link_base.specs.declared.rows.form.Form.TheVariants as forms
use Rattle.link_base.specs.Number.{bytes_of}
use Rattle.link_base.specs.Frame.{gap, kind_limit}
use Rattle.link_base.specs.Forms.{bytes_in}
use Rattle.link_base.specs.Class.{AtLeast, extent, length_cause}
use Rattle.link_base.specs.Coherent.{is_single}
use Rattle.link_base.specs.Payloads.{class_by}
use Rattle.link_base.specs.Table.{One, Label}
use Rattle.link_base.specs.Borrowed.{Borrows, BorrowsBy}
use Rattle.link_base.specs.declared.views.content.Content.{Content}
use Rattle.link_base.proofs.Numbers.{length-bytes_of}
use Rattle.link_base.proofs.Orders.{length-bytes_by}
use Rattle.link_base.proofs.ClassLemmas.{at_size}
use Rattle.link_base.proofs.ContentBy.{by_shape}
use Rattle.link_base.specs.Orders.{bytes_by}
use Rattle.link_entries.specs.declared.entry.Entry.{Entry}
use Rattle.link_entries.specs.declared.fields.Fields.{Fields}
use Rattle.link_entries.specs.declared.fields.Fields.TheVariants as fields
use Rattle.link_entries.specs.declared.misfit.Misfit.{Misfit}
use Rattle.link_entries.specs.declared.misfit.Misfit.TheVariants.{BadNumber, BadOctets}
use Rattle.link_entries.specs.Agreement.{referred}
use Rattle.link_entries.specs.Fields.{struct_fields, row_fields}
use Rattle.link_entries.specs.Payload.{passed, rewritten, pair_of, payload_of}
use Rattle.link_entries.specs.Stored.{with_at, padded, sized, StoresAt, StoresPayload}
use Rattle.link_entries.proofs.RowForms.{is_value, struct_value}
use Rattle.link_entries.proofs.FlagBytes.{flag_few}
use Rattle.link_entries.proofs.StoredBytes.{sized_ok}
use Rattle.link_entries.proofs.WrittenLists.{same_these, if_held, only_held, content_ok, passed_held, headed_held}
use Rattle.link_entries.proofs.WrittenSizes.{exactly_size, size_back}
use Rattle.nlroute_ffi.specs.ValueText.{is_passed, shown_bytes, Shows, fields_for, has_elements, HasSize}

-- ---- bytes that an entry refers to

rewritten_ok : (r : Result (List ℕ) Misfit) (p : List ℕ) → rewritten r ≡ Ok p → (q : List ℕ) × (r ≡ Ok q)
rewritten_ok (Ok q) p h = (q, refl)
rewritten_ok (Err m) p h = absurd cc

unknown_ok : (e : Entry) (octets p : List ℕ) → payload_of fields.Unknown e octets ≡ Ok p → passed None e octets ≡ Ok p
unknown_ok e octets p h = (if_held (nat_lt e.kind kind_limit && (e.flags % kind_limit == 0)) BadNumber (passed None e octets) p (content_ok fields.Unknown e octets p h)).1

-- they are within those passed in
within_held : (own : Fields) (e : Entry) (octets p : List ℕ) → is_passed own ≡ true → payload_of own e octets ≡ Ok p → e.offset + e.length ≤ length octets
within_held (fields.Passed form size) e octets p holds h = (passed_held size e octets p (content_ok (fields.Passed form size) e octets p h)).within
within_held fields.Peer e octets p holds h = (headed_held e octets p (content_ok fields.Peer e octets p h)).all.within
within_held fields.Limits e octets p holds h =
    let was = rewritten_ok (passed (Some 48) e octets) p (content_ok fields.Limits e octets p h) in
    (passed_held (Some 48) e octets was.0 was.1).within
within_held fields.Unknown e octets p holds h = (passed_held None e octets p (unknown_ok e octets p h)).within
within_held own e octets p holds h = absurd cc

pub passed_within : (own : Fields) (e : Entry) (octets : List ℕ) (n : ℕ) → is_passed own ≡ true → Ok n ≡ sized (payload_of own e octets) → e.offset + e.length ≤ length octets
passed_within own e octets n holds h =
    let (p, is, count) = sized_ok (payload_of own e octets) n h in
    within_held own e octets p holds is

pub passed_shown : (own : Fields) (e : Entry) (octets : List ℕ) (n m : ℕ) → is_passed own ≡ true → Ok n ≡ sized (payload_of own e octets) → m ≡ e.length → Shows own e octets (take m (drop e.offset octets))
passed_shown own e octets n m holds h same =
    let (p, is, count) = sized_ok (payload_of own e octets) n h in
    (p, is, ap (λ k. take k (drop e.offset octets)) same ∙ sym (ap (λ b. cond b (referred e octets) p) holds))

-- ---- payloads in the fields of an entry

few_in : (w : Width) → bytes_in w ≤ 8
few_in widths.One = omega arith
few_in widths.Two = omega arith
few_in widths.Four = omega arith
few_in widths.Eight = omega arith

pair_length : (n a b : ℕ) (second_first : Bool) → length (pair_of second_first (bytes_of n a) (bytes_of n b)) ≡ n + n
pair_length n a b true = omega (arith, length-append (bytes_of n b) (bytes_of n a), length-bytes_of n a, length-bytes_of n b)
pair_length n a b false = omega (arith, length-append (bytes_of n a) (bytes_of n b), length-bytes_of n a, length-bytes_of n b)

few_bytes : (own : Fields) (e : Entry) (octets p : List ℕ) → length e.octets ≡ 16 → is_passed own ≡ false → payload_of own e octets ≡ Ok p → length p ≤ 16
few_bytes fields.Empty e octets p held other h = omega (arith, ap length (same_these [] p (content_ok fields.Empty e octets p h)))
few_bytes (fields.Number form w most order) e octets p held other h =
    let own = (only_held (nat_le e.number most) BadNumber (bytes_by order (bytes_in w) e.number) p (content_ok (fields.Number form w most order) e octets p h)).1 in
    omega (arith, ap length own, length-bytes_by order (bytes_in w) e.number, few_in w)
few_bytes fields.FlagOrBool e octets p held other h = let few = flag_few e.length e.number p (content_ok fields.FlagOrBool e octets p h) in omega (arith, few)
few_bytes fields.Signed e octets p held other h = omega (arith, ap length (only_held _ BadNumber (bytes_of 4 e.number) p (content_ok fields.Signed e octets p h)).1, length-bytes_of 4 e.number)
few_bytes (fields.Shorts form second_first) e octets p held other h =
    let own = (only_held _ BadNumber (pair_of second_first (bytes_of 2 e.number) (bytes_of 2 e.second)) p (content_ok (fields.Shorts form second_first) e octets p h)).1 in
    omega (arith, ap length own, pair_length 2 e.number e.second second_first)
few_bytes (fields.Words form second_first) e octets p held other h =
    let own = (only_held _ BadNumber (pair_of second_first (bytes_of 4 e.number) (bytes_of 4 e.second)) p (content_ok (fields.Words form second_first) e octets p h)).1 in
    omega (arith, ap length own, pair_length 4 e.number e.second second_first)
few_bytes fields.Protocol e octets p held other h =
    let size : length p ≡ 2 = ap length (only_held _ BadNumber (reverse (bytes_of 2 e.number)) p (content_ok fields.Protocol e octets p h)).1 in
    omega (arith, size)
few_bytes (fields.Address form size) e octets p held other h =
    let own = (only_held (e.length == size) BadOctets (take size e.octets) p (content_ok (fields.Address form size) e octets p h)).1 in
    omega (arith, ap length own, length-take size e.octets, held)
few_bytes fields.BridgeId e octets p held other h =
    let bytes = reverse (bytes_of 2 e.number) ++ take 6 e.octets in
    let own = (only_held (e.length == 8) BadOctets bytes p (if_held (nat_lt e.number 65536) BadNumber _ p (content_ok fields.BridgeId e octets p h)).1).1 in
    omega (arith, ap length own, length-append (reverse (bytes_of 2 e.number)) (take 6 e.octets), length-take 6 e.octets)
few_bytes (fields.Numbers width) e octets p held other h = omega (arith, ap length (same_these [] p (content_ok (fields.Numbers width) e octets p h)))
few_bytes (fields.Addresses size) e octets p held other h = omega (arith, ap length (same_these [] p (content_ok (fields.Addresses size) e octets p h)))
few_bytes (fields.List flag) e octets p held other h = omega (arith, ap length (same_these [] p (content_ok (fields.List flag) e octets p h)))
few_bytes own e octets p held other h = absurd cc

-- a payload that was stored after the place of its header
stored_back : (p old new : List ℕ) (m : ℕ) → StoresAt 4 (padded p) old new → length old ≡ 20 → length p ≤ 16 → m ≡ length p → take m (drop 4 new) ≡ p
stored_back p old new m stored room few is =
    let zeros : List ℕ = replicate (gap p) 0 in
    let long : length (padded p) ≡ length p + gap p = length-append p zeros ∙ ap (λ k. length p + k) (length-replicate (gap p) 0) in
    let rest : List ℕ = drop (4 + length (padded p)) old in
    let all : new ≡ with_at 4 (padded p) old = stored.stored (omega (arith, long, few, room)) in
    let front : length (take 4 old) ≡ 4 = omega (arith, length-take 4 old, room) in
    let behind : drop 4 new ≡ padded p ++ rest = ap (drop 4) all ∙ drop_at (take 4 old) (padded p ++ rest) 4 front in
    ap (take m) (behind ∙ append_assoc p zeros rest) ∙ take_at p (zeros ++ rest) m (sym is)

pub stored_shown : (own : Fields) (e : Entry) (octets old new : List ℕ) (n m : ℕ) → length e.octets ≡ 16 → is_passed own ≡ false → Ok n ≡ sized (payload_of own e octets) → StoresPayload (payload_of own e octets) old new → length old ≡ 20 → m ≡ n
    → Shows own e octets (take m (drop 4 new))
stored_shown own e octets old new n m held other h stored room same =
    let (p, is, count) = sized_ok (payload_of own e octets) n h in
    let few = few_bytes own e octets p held other is in
    let back = stored_back p old new m (subst (λ r. StoresPayload r old new) is stored) room few (omega (arith, same, count)) in
    (p, is, back ∙ sym (ap (λ b. cond b (referred e octets) p) other))

-- ---- all that is shown

-- the fields of the limits of a CAN controller
abbrev pub is_limits : Fields → Bool
is_limits fields.Limits = true
is_limits own = false

pub struct_no_limits : (layout : Layout) → is_limits (struct_fields layout) ≡ false
struct_no_limits layouts.BridgeId = refl
struct_no_limits layout = refl

-- all other payloads are shown as they are encoded
shown_same : (own : Fields) (e : Entry) (octets p : List ℕ) → is_limits own ≡ false → payload_of own e octets ≡ Ok p → shown_bytes own e octets p ≡ p
shown_same (fields.Passed form size) e octets p plain h = sym (passed_held size e octets p (content_ok (fields.Passed form size) e octets p h)).is
shown_same fields.Peer e octets p plain h = sym (headed_held e octets p (content_ok fields.Peer e octets p h)).all.is
shown_same fields.Limits e octets p plain h = absurd cc
shown_same fields.Unknown e octets p plain h = sym (passed_held None e octets p (unknown_ok e octets p h)).is
shown_same own e octets p plain h = refl

pub shown_again : (own : Fields) (e : Entry) (octets p s : List ℕ) → is_limits own ≡ false → payload_of own e octets ≡ Ok p → Shows own e octets s → s ≡ p
shown_again own e octets p s plain h (q, is, at) = at ∙ shown_same own e octets q plain is ∙ same_these q p (sym is ∙ h)

-- ---- lengths

pub value_of : (form : Form) → has_elements form ≡ false → is_value (row_fields form) ≡ true
value_of (forms.Numbers w) h = absurd cc
value_of (forms.Addresses n) h = absurd cc
value_of (forms.List flagged) h = absurd cc
value_of (forms.Struct layout) h = struct_value layout
value_of (forms.Bytes looks.Peer) h = refl
value_of form h = refl

pub single_of : (form : Form) → has_elements form ≡ false → is_single form ≡ true
single_of (forms.Addresses n) h = absurd cc
single_of (forms.List flagged) h = absurd cc
single_of form h = refl

-- so the content by a form is that of its class
pub single_content : (form : Form) (names : List (ℕ × List ℕ)) (p : List ℕ) (content : Content) → has_elements form ≡ false → BorrowsBy form p content → Borrows (Some (One (class_by form names))) p content
single_content form names p content h borrows = by_shape form names (One (class_by form names)) p content (single_of form h, refl) borrows

module _ (e : Entry) (octets s : List ℕ) (held : length e.octets ≡ 16) where
  size_of_value : (form : Form) → has_elements form ≡ false → is_limits (row_fields form) ≡ false → Shows (row_fields form) e octets s → length_cause (extent (class_by form [])) (length s) ≡ None
  size_of_value form plain other (p, is, at) =
      let same : p ≡ s = sym (at ∙ shown_same (row_fields form) e octets p other is) in
      subst (λ t. length_cause (extent (class_by form [])) (length t) ≡ None) same (size_back e octets p held form [] (value_of form plain) is)

  size_of_form : (form : Form) → has_elements form ≡ false → Shows (row_fields form) e octets s → length_cause (extent (class_by form [])) (length s) ≡ None
  size_of_form forms.Limits plain (p, is, at) =
      let (q, was) = rewritten_ok (passed (Some 48) e octets) p (content_ok fields.Limits e octets p is) in
      let same : s ≡ q = at ∙ sym (passed_held (Some 48) e octets q was).is in
      at_size (AtLeast 48) (length s) (ap length same ∙ exactly_size 48 e octets q was)
  size_of_form (forms.Struct layout) plain h = size_of_value (forms.Struct layout) plain (struct_no_limits layout) h
  size_of_form (forms.Bytes looks.Peer) plain h = size_of_value (forms.Bytes looks.Peer) plain refl h
  size_of_form form plain h = size_of_value form plain refl h

  pub shown_size : (label : Option Label) → Shows (fields_for label) e octets s → HasSize label (length s)
  shown_size None h = tt
  shown_size (Some label) h = λ plain. size_of_form label.form plain h
