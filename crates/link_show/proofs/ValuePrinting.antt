-- The texts of values and of errors are printable.
use Rattle.std.proofs.Common.{◌≡◌, ℕ, ◌+◌, ◌==◌, nat_lt, Bool, true, false, ◌&&◌, not, List, [], ◌∷◌, ◌++◌, length, map, take, drop, Option, Some, None, option_map, refl, ap₂, codes}
use Rattle.std.specs.Prelude.{nat_le, if◌then◌else◌}
use Rattle.std.specs.List.{list_all, AllByRecursion}
use Rattle.std.specs.Str.{bytes_eq}
use Rattle.std.specs.Int.RustNames.{bit_and}
use Rattle.std.specs.Net.Addr.{ipv4_octets}
use Rattle.std.proofs.lemmas.Bool.{and_parts}
use Rattle.std.specs.Int.{w32, cast_signed}
use Rattle.link_base.specs.declared.rows.form.ArrayOf.{ArrayOf}
use Rattle.link_base.specs.declared.rows.form.ArrayOf.TheVariants.{I32}
use Rattle.link_base.specs.declared.views.content.Content.{Content}
use Rattle.link_base.specs.declared.views.content.Content.TheVariants as contents
use Rattle.link_base.specs.declared.rows.form.Look.TheVariants as looks
use Rattle.link_base.specs.declared.wire.fault.Cause.{Cause}
use Rattle.link_base.specs.declared.wire.fault.Cause.TheVariants as causes
use Rattle.link_base.specs.declared.wire.fault.DecodeFault.{DecodeFault}
use Rattle.link_base.specs.declared.wire.fault.DecodeFault.TheVariants as faults
use Rattle.link_base.specs.declared.rows.label.Quantity.{Quantity}
use Rattle.link_base.specs.declared.rows.label.Quantity.TheVariants as quantities
use Rattle.link_base.specs.declared.rows.form.Form.{Form}
use Rattle.link_base.specs.declared.rows.form.Form.TheVariants as forms
use Rattle.link_base.specs.declared.rows.form.Width.{Width}
use Rattle.link_base.specs.declared.rows.form.Role.{Role}
use Rattle.link_base.specs.declared.rows.form.Role.TheVariants as roles
use Rattle.link_base.specs.declared.rows.form.Layout.{Layout}
use Rattle.link_base.specs.declared.rows.form.Layout.TheVariants as layouts
use Rattle.link_base.specs.Class.{is_on}
use Rattle.link_base.specs.Fields.{FieldRow, names_for}
use Rattle.link_base.specs.Orders.{number_by}
use Rattle.link_base.specs.Payloads.{limit_fields}
use Rattle.link_base.specs.Frame.{kind_limit}
use Rattle.link_base.specs.Forms.{bytes_in}
use Rattle.link_base.specs.IpAddress.{sixteen_octets}
use Rattle.link_base.specs.Labels as Labels
use Rattle.link_base.specs.Named.{Label as Named_label, are_distinct, text_of}
use Rattle.link_base.specs.Protocol.{vlan_protocols, protocol_number}
use Rattle.link_base.specs.Table.{Label, Row, Rows, Shape, One, Nested, Addresses, Table, row_at, label_by, label_at}
use Rattle.link_base.specs.Borrowed.{elements_by, elements_at}
use Rattle.link_base.specs.Coherent.{is_shape_of}
use Rattle.link_base.specs.WellFormed.{is_printable, are_names, are_fields, has_text, rows_in, is_shape, are_rows, is_row, is_table}
use Rattle.link_base.specs.Lift.{lift_table}
use Rattle.netlink_packet_route.specs.Opening.{without_nul}
use Rattle.link_show.specs.Text.{hex_number}
use Rattle.link_show.specs.Number.{beside, unit_of, number_text, item_text, array_text}
use Rattle.link_show.specs.Counters.{place_text, zeros_word, counter_words, counters_text, numbers_text}
use Rattle.link_show.specs.Flags.{named_text, enum_text, set_names, unnamed, last_word, flag_words, is_all, flags_text}
use Rattle.link_show.specs.Structs.{field, role_text, form_text, field_in, field_text, pair_fields, masked_fields, has_fields, fields_text, bridge_id_text, struct_text, limits_text}
use Rattle.link_show.specs.Value.{other_text, counted_in, number_or_address, content_text, value_text}
use Rattle.link_show.specs.Fault.{bytes_text, opaque_text, cause_words, kind_text, is_array, payload_fault, fault_text}
use Rattle.link_show.specs.Printable.{IsText, has_texts}
use Rattle.link_show.proofs.Printing.{text, none, and, either, mapped, joined_text, decimal_text, signed_text, hex_digits, hex_bytes, address_digits, quoted_text, ipv4_is_text, ip6_is_text}

-- ---- names

abbrev pub EachName : List (ℕ × List ℕ) → Type 0
EachName names = AllByRecursion (λ x. IsText x.1) names

pub each_name : (names : List (ℕ × List ℕ)) → are_names names ≡ true → EachName names
each_name [] h = tt
each_name (x ∷ names) h = let k = and_parts (list_all is_printable x.1) (are_names names) h in (text k.0, each_name names k.1)

-- a name, if there is one
abbrev pub OnText : Option (List ℕ) → Type 0
OnText None = Unit {0}
OnText (Some t) = IsText t

module _ {A : Type 0} (P : A → Type 0) where
  pub choose : (b : Bool) (s t : A) → P s → P t → P (if b then s else t)
  choose true s t h k = h
  choose false s t h k = k

pub name_found : (names : List (ℕ × List ℕ)) → EachName names → (n : ℕ) → OnText (Labels.name_in names n)
name_found [] h n = tt
name_found (x ∷ names) h n = choose OnText (x.0 == n) (Some x.1) (Labels.name_in names n) h.0 (name_found names h.1 n)

pub beside_text : {t more : List ℕ} → IsText t → IsText more → IsText (beside t more)
beside_text h k = and h (and {s = codes " ("} (text refl) (and k (text refl)))

named_is_text : (found : Option (List ℕ)) (n : ℕ) → OnText found → IsText (named_text found n)
named_is_text None n h = decimal_text n
named_is_text (Some name) n h = beside_text h (decimal_text n)

pub enum_is_text : (names : List (ℕ × List ℕ)) (n : ℕ) → EachName names → IsText (enum_text names n)
unfolding enum_text
enum_is_text names n h = named_is_text (Labels.name_in names n) n (name_found names h n)

-- ---- numbers

unit_text : (q : Quantity) → IsText (unit_of q)
unit_text quantities.Number = none
unit_text q = text refl

hex_number_text : (n : ℕ) → IsText (hex_number n)
hex_number_text n = and {s = codes "0x"} (text refl) (hex_digits n)

pub number_is_text : (q : Quantity) (n : ℕ) → IsText (number_text q n)
number_is_text quantities.ClockTicks n = beside_text (decimal_text n) (and (and (decimal_text _) (and {s = codes "."} (text refl) (and (decimal_text _) (decimal_text _)))) (text refl))
number_is_text quantities.InterfaceIndex n = and {s = codes "ifindex "} (text refl) (decimal_text n)
number_is_text quantities.Mask n = beside_text (decimal_text n) (hex_number_text n)
number_is_text q n = and (decimal_text n) (unit_text q)

item_is_text : (a : ArrayOf) (n : ℕ) → IsText (item_text a n)
item_is_text I32 n = signed_text (cast_signed w32 n)
item_is_text a n = decimal_text n

array_is_text : (q : Quantity) (a : ArrayOf) (numbers : List ℕ) → IsText (array_text q a numbers)
unfolding array_text
array_is_text q a [] = text refl
array_is_text q a (n ∷ numbers) = and (joined_text (codes " ") (map (item_text a) (n ∷ numbers)) (text refl) (mapped (item_text a) (item_is_text a) (n ∷ numbers))) (unit_text q)

-- ---- arrays whose places have names

place_is_text : (found : Option (List ℕ)) (i : ℕ) → OnText found → IsText (place_text found i)
place_is_text None i h = and {s = codes "["} (text refl) (and (decimal_text i) (text refl))
place_is_text (Some name) i h = and h (text refl)

zeros_text : (zeros : ℕ) → AllByRecursion IsText (zeros_word zeros)
zeros_text zeros = choose (AllByRecursion IsText) (zeros == 0) [] _ tt (and {s = codes "("} (text refl) (and (decimal_text zeros) (text refl)), tt)

words_are_text : (names : List (ℕ × List ℕ)) (a : ArrayOf) (i zeros : ℕ) (numbers : List ℕ) → EachName names → AllByRecursion IsText (counter_words names a i zeros numbers)
words_are_text names a i zeros [] h = zeros_text zeros
words_are_text names a i zeros (n ∷ numbers) h =
    choose (AllByRecursion IsText) (n == 0) (counter_words names a (i + 1) (zeros + 1) numbers) _ (words_are_text names a (i + 1) (zeros + 1) numbers h)
    (and (place_is_text (Labels.name_in names i) i (name_found names h i)) (item_is_text a n), words_are_text names a (i + 1) zeros numbers h)

counters_are_text : (names : List (ℕ × List ℕ)) (a : ArrayOf) (numbers : List ℕ) → EachName names → IsText (counters_text names a numbers)
unfolding counters_text
counters_are_text names a [] h = text refl
counters_are_text names a (n ∷ numbers) h = joined_text (codes " ") (counter_words names a 0 0 (n ∷ numbers)) (text refl) (words_are_text names a 0 0 (n ∷ numbers) h)

numbers_are_text : (names : List (ℕ × List ℕ)) (q : Quantity) (a : ArrayOf) (numbers : List ℕ) → EachName names → IsText (numbers_text names q a numbers)
numbers_are_text [] q a numbers h = array_is_text q a numbers
numbers_are_text (x ∷ names) q a numbers h = counters_are_text (x ∷ names) a numbers h

-- ---- sets of flags

set_is_text : (names : List (ℕ × List ℕ)) (bits : ℕ) → EachName names → EachName (set_names names bits)
set_is_text [] bits h = tt
set_is_text (x ∷ names) bits h =
    let rest = set_is_text names bits h.1 in
    choose EachName (not (bit_and bits x.0 == 0)) (x ∷ set_names names bits) (set_names names bits) (h.0, rest) rest

words_then : (names : List (ℕ × List ℕ)) (last : List (List ℕ)) → EachName names → AllByRecursion IsText last → AllByRecursion IsText (map (λ x. x.1) names ++ last)
words_then [] last h k = k
words_then (x ∷ names) last h k = (h.0, words_then names last h.1 k)

last_text : (left : ℕ) → AllByRecursion IsText (last_word left)
last_text left = choose (AllByRecursion IsText) (left == 0) [] (hex_number left ∷ []) tt (hex_number_text left, tt)

pub flags_is_text : (names : List (ℕ × List ℕ)) (n bits : ℕ) → EachName names → IsText (flags_text names n bits)
unfolding flags_text
flags_is_text names n bits h =
    let words = words_then (set_names names bits) (last_word (unnamed names bits)) (set_is_text names bits h) (last_text (unnamed names bits)) in
    either (bits == 0) (text refl) (either (is_all names n bits) (text refl) (joined_text (codes "|") (flag_words names bits) (text refl) words))

-- ---- structs

pub field_is_text : (name : List ℕ) {t : List ℕ} → IsText name → IsText t → IsText (field name t)
field_is_text name h k = and {s = name} h (and {s = codes " "} (text refl) k)

role_is_text : (names : List (ℕ × List ℕ)) (q : Quantity) (role : Role) (width : Width) (n : ℕ) → EachName names → IsText (role_text names q role width n)
role_is_text names q roles.Plain width n h = number_is_text q n
role_is_text names q roles.Coded width n h = enum_is_text names n h
role_is_text names q roles.Enum width n h = enum_is_text names n h
role_is_text names q roles.Flags width n h = flags_is_text names (bytes_in width) n h

form_is_text : (names : List (ℕ × List ℕ)) (q : Quantity) (form : Form) (bytes : List ℕ) → EachName names → IsText (form_text names q form bytes)
form_is_text names q (forms.Number w order role) bytes h = role_is_text names q role w (number_by order bytes) h
form_is_text names q forms.Mac bytes h = address_digits bytes
form_is_text names q form bytes h = hex_bytes bytes

-- the names of fields are texts, and so are those of their numbers or bits
abbrev pub EachField : List FieldRow → Type 0
EachField fields = AllByRecursion (λ f. IsText f.name × EachName f.names) fields

abbrev has_names : FieldRow → Bool
has_names f = list_all is_printable f.name && are_names f.names

each_field : (fields : List FieldRow) → list_all has_names fields ≡ true → EachField fields
each_field [] h = tt
each_field (f ∷ fields) h =
    let k = and_parts (has_names f) (list_all has_names fields) h in
    let own = and_parts (list_all is_printable f.name) (are_names f.names) k.0 in
    ((text own.0, each_name f.names own.1), each_field fields k.1)

fields_named : (fields : List FieldRow) → are_fields fields ≡ true → EachField fields
fields_named fields h = each_field fields (and_parts (list_all has_names fields) (are_distinct bytes_eq (map (λ f. f.name) fields)) h).0

either_names : (row own : List (ℕ × List ℕ)) → EachName row → EachName own → EachName (names_for row own)
either_names row [] h k = h
either_names row (x ∷ own) h k = k

each_is_text : (start : ℕ) (names : List (ℕ × List ℕ)) (p : List ℕ) (fields : List FieldRow) → EachName names → EachField fields → AllByRecursion IsText (map (field_text start names p) fields)
each_is_text start names p [] n h = tt
each_is_text start names p (f ∷ fields) n h =
    let own = either_names names f.names n h.0.1 in
    (field_is_text f.name h.0.0 (form_is_text (names_for names f.names) f.quantity f.form (field_in start p f) own), each_is_text start names p fields n h.1)

fields_are_text : (fields : List FieldRow) (start : ℕ) (names : List (ℕ × List ℕ)) (p : List ℕ) → EachName names → EachField fields → IsText (fields_text fields start names p)
unfolding fields_text
fields_are_text fields start names p n h = either (has_fields fields start p) (joined_text (codes " ") (map (field_text start names p) fields) (text refl) (each_is_text start names p fields n h)) (hex_bytes p)

pub bridge_id_is_text : (p : List ℕ) → IsText (bridge_id_text p)
unfolding bridge_id_text
bridge_id_is_text p = either (nat_lt (length p) 8) (hex_bytes p) (and (hex_bytes (take 2 p)) (and {s = codes "."} (text refl) (address_digits (take 6 (drop 2 p)))))

struct_is_text : (layout : Layout) (fields : List FieldRow) (names : List (ℕ × List ℕ)) (p : List ℕ) → EachField fields → EachName names → IsText (struct_text layout fields names p)
struct_is_text layouts.BridgeId fields names p h n = bridge_id_is_text p
struct_is_text layout fields names p h n = fields_are_text fields 0 names p n h

limits_is_text : (name p : List ℕ) → IsText (limits_text name p)
limits_is_text name p = and (field_is_text (codes "name") (text refl) (quoted_text name)) (and {s = codes " "} (text refl) (fields_are_text limit_fields 16 [] p tt (each_field limit_fields refl)))

-- ---- what is known of an attribute type

-- its name, and those of its numbers or bits, are texts, and so are those of its fields, which are distinct
abbrev pub IsLabelText : Option Label → Type 0
IsLabelText None = Unit {0}
IsLabelText (Some label) = IsText label.name × (EachName label.names × (are_fields label.fields ≡ true))

row_label : (r : Row Shape) → has_text r ≡ true → IsLabelText (Some (label_by r))
row_label r h =
    let begins = and_parts (bytes_eq (take (length r.prefix) r.name) r.prefix) (list_all is_printable r.name && (are_names r.names && are_fields r.fields)) h in
    let named = and_parts (list_all is_printable r.name) (are_names r.names && are_fields r.fields) begins.1 in
    let both = and_parts (are_names r.names) (are_fields r.fields) named.1 in
    (text named.0, (each_name r.names both.0, both.1))

-- the names in a row, and in the rows of its nested lists
abbrev row_texts : Row Shape → Bool
row_texts r = has_text r && list_all has_text (rows_in r.class)

abbrev OnRow : Option (Row Shape) → Type 0
OnRow None = Unit {0}
OnRow (Some r) = (has_text r ≡ true) × (list_all has_text (rows_in r.class) ≡ true)

row_has : (table : Table) (k : ℕ) → has_texts table ≡ true → OnRow (row_at table k)
row_has [] k h = tt
row_has (r ∷ table) k h =
    let both = and_parts (row_texts r) (has_texts table) h in
    choose OnRow (r.kind == k) (Some r) (row_at table k) (and_parts (has_text r) (list_all has_text (rows_in r.class)) both.0) (row_has table k both.1)

pub label_is_text : (table : Table) (k : ℕ) → has_texts table ≡ true → IsLabelText (label_at table k)
label_is_text table k h = by_row (row_at table k) (row_has table k h) where
  by_row : (found : Option (Row Shape)) → OnRow found → IsLabelText (option_map label_by found)
  by_row None h = tt
  by_row (Some r) h = row_label r h.0

-- the names in a nested list
lifted_text : (rows : Rows) → list_all has_text rows ≡ true → has_texts (lift_table rows) ≡ true
lifted_text [] h = refl
lifted_text (r ∷ rows) h =
    let both = and_parts (has_text r) (list_all has_text rows) h in
    ap₂ (λ a b. (a && true) && b) both.0 (lifted_text rows both.1)

shape_text : (shape : Shape) → list_all has_text (rows_in shape) ≡ true → has_texts (elements_by (Some shape)) ≡ true
shape_text (One c) h = refl
shape_text (Nested flagged rows) h = lifted_text rows h
shape_text (Addresses n) h = refl

pub elements_text : (table : Table) (k : ℕ) → has_texts table ≡ true → has_texts (elements_at table k) ≡ true
elements_text table k h = by_row (row_at table k) (row_has table k h) where
  by_row : (found : Option (Row Shape)) → OnRow found → has_texts (elements_by (option_map (λ r. r.class) found)) ≡ true
  by_row None h = refl
  by_row (Some r) h = shape_text r.class h.1

-- the names in a well-formed table
formed_from : (least : ℕ) (table : Table) → are_rows is_row least table ≡ true → has_texts table ≡ true
formed_from least [] h = refl
formed_from least (r ∷ table) h =
    let one = and_parts (nat_le least r.kind) (nat_lt r.kind kind_limit && (is_row r && are_rows is_row (r.kind + 1) table)) h in
    let two = and_parts (nat_lt r.kind kind_limit) (is_row r && are_rows is_row (r.kind + 1) table) one.1 in
    let three = and_parts (is_row r) (are_rows is_row (r.kind + 1) table) two.1 in
    let row = and_parts (is_shape r.class) (is_shape_of r.form r.names r.class && row_texts r) three.0 in
    let texts = and_parts (is_shape_of r.form r.names r.class) (row_texts r) row.1 in
    ap₂ (λ a b. a && b) texts.1 (formed_from (r.kind + 1) table three.1)

pub formed_texts : (table : Table) → is_table table ≡ true → has_texts table ≡ true
formed_texts table h = formed_from 0 table h

-- ---- values

pub bytes_is_text : (n : ℕ) {more : List ℕ} → IsText more → IsText (bytes_text n more)
bytes_is_text n h = and (decimal_text n) (and (either (n == 1) (text refl) (text refl)) h)

pub opaque_is_text : (n : ℕ) → IsText (opaque_text n)
opaque_is_text n = and {s = codes "("} (text refl) (bytes_is_text n (text refl))

named_label_text : {T : Type 0} (labels : List (Named_label T)) (d : ℕ) → list_all (λ l. list_all is_printable l.text) labels ≡ true → IsText (text_of labels d)
named_label_text [] d h = none
named_label_text (l ∷ labels) d h =
    let both = and_parts (list_all is_printable l.text) (list_all (λ m. list_all is_printable m.text) labels) h in
    either (l.number == d) (text both.0) (named_label_text labels d both.1)

pub other_is_text : (p : List ℕ) → IsText (other_text p)
other_is_text [] = text refl
other_is_text (b ∷ p) = and {s = codes "hex "} (text refl) (hex_bytes (b ∷ p))

number_or_address_text : (quantity : Quantity) (n : Option ℕ) (p : List ℕ) → IsText (number_or_address quantity n p)
number_or_address_text quantity None p = address_digits p
number_or_address_text quantity (Some n) p = number_is_text quantity n

pub content_is_text : (label : Label) (content : Content) → IsLabelText (Some label) → IsText (content_text label content)
content_is_text label (contents.Bool b) l = either b (text refl) (text refl)
content_is_text label (contents.FlagOrBool flag) l = either (is_on flag) (text refl) (text refl)
content_is_text label (contents.Number n width order role) l = role_is_text label.names label.quantity role width n l.1.0
content_is_text label (contents.Signed z) l = signed_text z
content_is_text label (contents.LowFlags bits) l = flags_is_text label.names 1 bits l.1.0
content_is_text label (contents.MaskedFlags flags mask) l = fields_are_text masked_fields 0 label.names _ l.1.0 (each_field masked_fields refl)
content_is_text label (contents.Pair from to) l = fields_are_text pair_fields 0 [] _ tt (each_field pair_fields refl)
content_is_text label (contents.Protocol p) l = beside_text (named_label_text vlan_protocols.labels (protocol_number p) refl) (hex_number_text (protocol_number p))
content_is_text label (contents.Mac a) l = address_digits a
content_is_text label (contents.Ipv4 a) l = ipv4_is_text (ipv4_octets a)
content_is_text label (contents.Ipv6 a) l = ip6_is_text (sixteen_octets a)
content_is_text label (contents.Bytes looks.Address p) l = number_or_address_text label.quantity (counted_in label.quantity p.now) p.now
content_is_text label (contents.Bytes looks.Text p) l = quoted_text (without_nul p.now)
content_is_text label (contents.Bytes looks.Held p) l = opaque_is_text (length p.now)
content_is_text label (contents.Bytes looks.Peer p) l = opaque_is_text (length p.now)
content_is_text label (contents.Struct layout p) l = struct_is_text layout label.fields label.names p.now (fields_named label.fields l.1.1) l.1.0
content_is_text label (contents.Numbers a p) l = numbers_are_text label.names label.quantity a _ l.1.0
content_is_text label (contents.Limits name numbers) l = limits_is_text name.now numbers.now
content_is_text label (contents.Other p) l = other_is_text p.now
content_is_text label content l = none

pub value_is_text : (label : Option Label) (content : Content) → IsLabelText label → IsText (value_text label content)
value_is_text None (contents.Other p) l = other_is_text p.now
value_is_text None content l = none
value_is_text (Some label) content l = content_is_text label content l

-- ---- errors

pub cause_is_text : (b : Bool) (cause : Cause) → IsText (cause_words b cause)
cause_is_text b (causes.ShortFrame left) = bytes_is_text left (text refl)
cause_is_text b (causes.SmallLength n) = and {s = codes "nla_len "} (text refl) (and (decimal_text n) (text refl))
cause_is_text b (causes.Overrun n left) = and (and {s = codes "nla_len "} (text refl) (and (decimal_text n) (text refl))) (bytes_is_text left (text refl))
cause_is_text b (causes.WrongLength want got) = and {s = codes "has "} (text refl) (bytes_is_text got (and (either b (text refl) (text refl)) (decimal_text want)))
cause_is_text b (causes.TooShort want got) = and {s = codes "has "} (text refl) (bytes_is_text got (and {s = codes ", expected at least "} (text refl) (decimal_text want)))
cause_is_text b (causes.AddressLength got) = and {s = codes "has "} (text refl) (bytes_is_text got (text refl))

kind_is_text : (label : Option Label) (k : ℕ) → IsLabelText label → IsText (kind_text label k)
kind_is_text None k l = and {s = codes "type "} (text refl) (decimal_text k)
kind_is_text (Some label) k l = l.0

payload_is_text : (label : Option Label) (k : ℕ) (cause : Cause) → IsLabelText label → IsText (payload_fault label k cause)
payload_is_text label k cause l = and (kind_is_text label k l) (and {s = codes " "} (text refl) (cause_is_text (is_array label) cause))

pub fault_is_text : (table : Table) (fault : DecodeFault) → has_texts table ≡ true → IsText (fault_text table fault)
fault_is_text table (faults.Frame cause) h = cause_is_text false cause
fault_is_text table (faults.Value k cause) h = payload_is_text (label_at table k) k cause (label_is_text table k h)
fault_is_text table (faults.NestedFrame k cause) h =
    and (kind_is_text (label_at table k) k (label_is_text table k h)) (and {s = codes ": "} (text refl) (cause_is_text false cause))
fault_is_text table (faults.NestedValue k inner cause) h =
    and (kind_is_text (label_at table k) k (label_is_text table k h))
    (and {s = codes ": "} (text refl) (payload_is_text (label_at (elements_at table k) inner) inner cause (label_is_text (elements_at table k) inner (elements_text table k h))))
fault_is_text table (faults.Payload cause) h = cause_is_text false cause
fault_is_text table faults.Text h = text refl
