-- What an entry has, by the form of its content and the value of its payload: all contents of a payload give one entry.
use Rattle.std.proofs.Common.{◌≡◌, ℕ, ◌-◌, ◌<◌, ◌≤◌, Bool, true, false, cond, take, drop, reverse, List, [], length, Option, Some, None, refl, sym, ap, ap₂, ◌∙◌, arith, take_all}
use Rattle.std.specs.Int.{w64, cast_unsigned}
use Rattle.std.proofs.lemmas.Bool.{cond_both, le-ltb}
use Rattle.link_base.specs.declared.wire.buffer.NlaBuffer.{NlaBuffer}
use Rattle.link_base.specs.declared.views.content.Content.{Content}
use Rattle.link_base.specs.declared.views.content.Content.TheVariants as contents
use Rattle.link_base.specs.declared.rows.form.Order.{Order}
use Rattle.link_base.specs.declared.rows.form.Order.TheVariants as orders
use Rattle.link_base.specs.declared.rows.form.Role.{Role}
use Rattle.link_base.specs.declared.rows.form.Role.TheVariants as roles
use Rattle.link_base.specs.declared.rows.form.Look.TheVariants as looks
use Rattle.link_base.specs.declared.rows.form.Layout.{Layout}
use Rattle.link_base.specs.declared.rows.form.Layout.TheVariants as layouts
use Rattle.link_base.specs.declared.rows.form.Form.{Form}
use Rattle.link_base.specs.declared.rows.form.Form.TheVariants as forms
use Rattle.link_base.specs.Class as classes
use Rattle.link_base.specs.Class.{Value, flag_value, is_on, meant, named, is_listed, size_of}
use Rattle.link_base.specs.Forms.{bytes_in as width_of, layout_extent}
use Rattle.link_base.specs.Number.{number, bytes_of, bound, four_bytes}
use Rattle.link_base.specs.Layout.{number_at}
use Rattle.link_base.specs.Buffer.{kind_field_of, payload_of}
use Rattle.link_base.specs.Table.{Table, Shape, One, Nested, Addresses, class_at, form_at}
use Rattle.link_base.specs.Borrowed.{Borrows, Says, as_named, number_value, form_of, HasContent}
use Rattle.link_entries.specs.declared.entry.Entry.{Entry}
use Rattle.link_entries.specs.Forms.{form_empty, form_bool, form_unsigned, form_signed, form_named, form_masked, form_bridge_id, form_qos_mapping, form_peer, form_bittiming_const, form_bytes, form_list, form_unknown}
use Rattle.link_entries.specs.Entry.{padded}
use Rattle.link_entries.specs.Content.{with_struct, filled}
use Rattle.link_entries.specs.declared.fields.Fields.{Fields}
use Rattle.link_entries.specs.declared.fields.Fields.TheVariants as fields
use Rattle.link_entries.specs.Fields.{role_form, struct_fields, fields_in}
use Rattle.link_base.proofs.Orders.{be_again}
use Rattle.link_base.specs.Frame.{kind_of}

-- ---- what a value holds

-- the number of an entry with this value; a flag without a byte is on
abbrev pub number_in : Value → ℕ
number_in (classes.Number n x) = x
number_in (classes.Name n d) = d
number_in (classes.Unlisted n listed d) = d
number_in (classes.EtherType d) = d
number_in (classes.LowByte b) = b
number_in (classes.Boolean b) = cond b 1 0
number_in (classes.Integer z) = cast_unsigned w64 z
number_in (classes.Raw bytes) = number bytes
number_in v = 1

abbrev pub bytes_in : Value → List ℕ
bytes_in (classes.Raw bytes) = bytes
bytes_in v = []

-- a number is the same with and without a name
pub number-named : (n : ℕ) (listed : List ℕ) (d : ℕ) → number_in (named n listed d) ≡ d
number-named n listed d = cond_both (is_listed listed d) (classes.Name n d) (classes.Unlisted n listed d) (λ v. number_in v ≡ d) (λ _. refl) (λ _. refl)

-- the value of a payload of this shape, if it has one
abbrev pub value_at : Option Shape → List ℕ → Value
value_at (Some (One c)) p = meant c p
value_at shape p = classes.Nothing

-- a content that has a value: all but lists, limits, and payloads of no row
abbrev has_value : Content → Bool
has_value (contents.Limits name numbers) = false
has_value (contents.Addresses list size) = false
has_value (contents.List list flagged) = false
has_value (contents.Other p) = false
has_value content = true

pub says_at : (o : Option Shape) (p : List ℕ) (x : Content) → has_value x ≡ true → Borrows o p x → Says x (value_at o p)
says_at None p (contents.Other q) s h = absurd cc
says_at (Some (Nested flagged rows)) p (contents.List q with_flag) s h = absurd cc
says_at (Some (Addresses n)) p (contents.Addresses list size) s h = absurd cc
says_at (Some (One classes.Limits)) p (contents.Limits name numbers) s h = absurd cc
says_at (Some (One classes.Limits)) p x s h = absurd h
says_at (Some (One c)) p x s h = h
says_at o p x s h = absurd h

-- the number of a value whose bytes are in this order
abbrev pub number_by_order : Order → Value → ℕ
number_by_order orders.Little v = number_in v
number_by_order orders.Big v = number (reverse (bytes_in v))

-- ---- the entry

-- that of an attribute with these fields; n elements follow a list
abbrev pub with_payload_value : ℕ → Fields → Value → ℕ → Entry → Entry
with_payload_value f fields.Empty v n e = record e { form = form_empty; length = 0 }
with_payload_value f (fields.Number form w most order) v n e = record e { form = form; number = number_by_order order v }
with_payload_value f fields.FlagOrBool v n e = record e { form = form_bool; number = number_in v }
with_payload_value f fields.Signed v n e = record e { form = form_signed; number = number_in v }
with_payload_value f (fields.Shorts form second_first) v n e = record e { form = form; number = number_at 2 (cond second_first 2 0) (bytes_in v); second = number_at 2 (cond second_first 0 2) (bytes_in v) }
with_payload_value f (fields.Words form second_first) v n e = record e { form = form; number = number_at 4 (cond second_first 4 0) (bytes_in v); second = number_at 4 (cond second_first 0 4) (bytes_in v) }
with_payload_value f fields.Protocol v n e = record e { form = form_named; number = number_in v }
with_payload_value f (fields.Address form size) v n e = record e { form = form; octets = padded (bytes_in v) }
with_payload_value f fields.BridgeId v n e = record e { form = form_bridge_id; number = number (reverse (take 2 (bytes_in v))); octets = padded (take 6 (drop 2 (bytes_in v))) }
with_payload_value f (fields.Passed form size) v n e = record e { form = form }
with_payload_value f fields.Peer v n e = record e { form = form_peer }
with_payload_value f fields.Limits v n e = record e { form = form_bittiming_const; length = 48 }
with_payload_value f fields.Unknown v n e = record e { form = form_unknown; flags = f - kind_of f }
with_payload_value f own v n e = record e { form = form_list; number = n }

-- likewise, by the form of its values
abbrev pub fields_by : ℕ → Option Form → Value → ℕ → Entry → Entry
fields_by f (Some (forms.Struct layout)) v n e = with_struct layout (bytes_in v) e
fields_by f form v n e = with_payload_value f (fields_in form) v n e

-- a struct that is complete
pub struct_taken : (f n : ℕ) (layout : Layout) (q : List ℕ) (e : Entry) → length q ≡ size_of (layout_extent layout) → length q ≤ e.length
    → with_struct layout q e ≡ with_payload_value f (struct_fields layout) (classes.Raw q) n (record e { length = size_of (layout_extent layout) })
struct_taken f n (layouts.Other lengths) q e size long = ap (λ m. record e { form = form_bytes; length = m }) (omega (arith, size, long))
struct_taken f n layouts.Clock q e size long =
    ap (λ b. cond b (record e { form = form_bytes }) (record e { form = form_unsigned; number = number_at 4 0 q; length = 4 })) (le-ltb (length q) 4 (omega (arith, size)))
    ∙ ap (λ p. record e { form = form_unsigned; number = number p; length = 4 }) (take_all 4 q (omega (arith, size)))
struct_taken f n layout q e size long =
    let m = size_of (layout_extent layout) in
    ap (λ b. cond b (record e { form = form_bytes }) (with_payload_value f (struct_fields layout) (classes.Raw q) n (record e { length = m }))) (le-ltb (length q) m (omega (arith, size)))

-- a flag has this number
flag_number : (flag : Option Bool) → cond (is_on flag) 1 0 ≡ number_in (flag_value flag)
flag_number None = refl
flag_number (Some b) = refl

-- the number of the four bytes of a word
word_bytes : (x : ℕ) → number (bytes_of 4 x) ≡ four_bytes x
word_bytes x = omega arith

-- a number is the same with and without its name, and so are bytes
as_named_same : (v : Value) → number_in (as_named v) ≡ number_in v
as_named_same (classes.Unlisted m listed d) = refl
as_named_same v = refl

as_named_bytes : (v : Value) → bytes_in (as_named v) ≡ bytes_in v
as_named_bytes (classes.Unlisted m listed d) = refl
as_named_bytes v = refl

as_named_number : (order : Order) (role : Role) (n x : ℕ) (v : Value) → as_named v ≡ number_value order role n x → x < bound n → number_by_order order v ≡ x
as_named_number orders.Little roles.Enum n x v is low = sym (as_named_same v) ∙ ap number_in is
as_named_number orders.Little role n x v is low = sym (as_named_same v) ∙ ap number_in is
as_named_number orders.Big role n x v is low = ap (λ q. number (reverse q)) (sym (as_named_bytes v) ∙ ap bytes_in is) ∙ be_again n x low

module _ (f n : ℕ) (e : Entry) (o : Option Shape) (p : List ℕ) where
  pub filled_by : (x : Content) → Borrows o p x → filled f x n e ≡ fields_by f (form_of x) (value_at o p) n e
  filled_by (contents.Number x w order role) h =
      let is = says_at o p (contents.Number x w order role) refl h in
      ap (λ d. record e { form = role_form role; number = d }) (sym (as_named_number order role (width_of w) x (value_at o p) is.0 is.1))
  filled_by (contents.FlagOrBool flag) h =
      ap (λ d. record e { form = form_bool; number = d }) (flag_number flag)
      ∙ ap (λ v. fields_by f (Some forms.FlagOrBool) v n e) (sym (says_at o p (contents.FlagOrBool flag) refl h))
  filled_by (contents.MaskedFlags bits mask) h =
      ap₂ (λ a b. record e { form = form_masked; number = a; second = b }) (sym (word_bytes bits)) (sym (word_bytes mask))
      ∙ ap (λ v. fields_by f (Some forms.MaskedFlags) v n e) (sym (says_at o p (contents.MaskedFlags bits mask) refl h))
  filled_by (contents.Pair from to) h =
      ap₂ (λ a b. record e { form = form_qos_mapping; number = a; second = b }) (sym (word_bytes from)) (sym (word_bytes to))
      ∙ ap (λ v. fields_by f (Some forms.Pair) v n e) (sym (says_at o p (contents.Pair from to) refl h))
  filled_by (contents.Bytes looks.Peer q) h = ap (λ v. fields_by f (Some (forms.Bytes looks.Peer)) v n e) (sym (says_at o p (contents.Bytes looks.Peer q) refl h))
  filled_by (contents.Limits name numbers) h = refl
  filled_by (contents.Addresses list size) h = refl
  filled_by (contents.List list flagged) h = refl
  filled_by (contents.Other q) h = refl
  filled_by x h = ap (λ v. fields_by f (form_of x) v n e) (sym (says_at o p x refl h))

-- the entry of an attribute that was read, by its type and its payload
pub entry_read : (table : Table) (b : NlaBuffer) (content : Content) → HasContent table b content → (n : ℕ) (bare : ℕ → ℕ → Entry) (k : ℕ) (p : List ℕ) → kind_of (kind_field_of b) ≡ k → payload_of b ≡ p
    → filled (kind_field_of b) content n (bare (kind_of (kind_field_of b)) (length (payload_of b))) ≡ fields_by (kind_field_of b) (form_at table k) (value_at (class_at table k) p) n (bare k (length p))
entry_read table b content has n bare k p kind bytes =
    let f = kind_field_of b in
    let q = payload_of b in
    let e = bare (kind_of f) (length q) in
    filled_by f n e (class_at table (kind_of f)) q content has.borrows
    ∙ ap (λ m. fields_by f m (value_at (class_at table (kind_of f)) q) n e) has.form
    ∙ (λ i. fields_by f (form_at table (kind i)) (value_at (class_at table (kind i)) (bytes i)) n (bare (kind i) (length (bytes i))))
