-- Arrays whose places have names: the keys of the members for their numbers are distinct.
use Rattle.std.proofs.Common.{◌≡◌, ℕ, zero, suc, ◌+◌, ◌/◌, ◌^◌, ◌<◌, ◌≤◌, ◌==◌, ◌&&◌, Bool, true, List, [], ◌∷◌, length, Option, Some, None, option_map, Bor, refl, sym, ap, subst, ◌∙◌, arith, eqb-true, bytes_eq, length-take}
use Rattle.std.specs.Prelude.{if◌then◌else◌, get_or}
use Rattle.std.specs.Fmt.{decimal}
use Rattle.std.specs.List.{list_all}
use Rattle.std.specs.Option.{IfSome}
use Rattle.std.specs.Str.Parse.{digits_value}
use Rattle.std.proofs.Math.Nat.{div-le_self}
use Rattle.std.proofs.lemmas.Bool.{and_parts, cond_both}
use Rattle.std.proofs.lemmas.Fmt.{decimal_is_IsNumeral}
use Rattle.json.specs.Strict.{keys, AreDistinct}
use Rattle.json.specs.Word.{after_number}
use Rattle.json.proofs.Printed.Decimals.{IsNumber-decimal}
use Rattle.link_base.specs.declared.wire.buffer.NlaBuffer.{NlaBuffer}
use Rattle.link_base.specs.declared.views.content.Content.{Content}
use Rattle.link_base.specs.declared.views.content.Content.TheVariants as contents
use Rattle.link_base.specs.declared.rows.form.ArrayOf.{ArrayOf}
use Rattle.link_base.specs.declared.rows.form.Form.{Form}
use Rattle.link_base.specs.declared.rows.form.Form.TheVariants as forms
use Rattle.link_base.specs.Class.{Class, Octets, Optional, Named, Limits, Value, Raw, Name, Unlisted, is_listed, size_of, meant}
use Rattle.link_base.specs.Forms.{size_in}
use Rattle.link_base.specs.Number.{number}
use Rattle.link_base.specs.Frame.{kind_of}
use Rattle.link_base.specs.Buffer.{kind_field_of, payload_of}
use Rattle.link_base.specs.Labels.{name_in}
use Rattle.link_base.specs.Layout.{numbers_at, numbers_of}
use Rattle.link_base.specs.Table.{Label, Row, Shape, One, Nested, Addresses, Table, row_at, label_by}
use Rattle.link_base.specs.Borrowed.{elements_by, Borrows, HasContent, form_of}
use Rattle.netlink_packet_route.specs.declared.family.Family.{Family}
use Rattle.netlink_packet_route.specs.Family.{table_of}
use Rattle.netlink_packet_route.proofs.Families.{each_family}
use Rattle.link_messages.specs.Shown.{rows_in, label_for}
use Rattle.link_json.specs.Doc.{members_of}
use Rattle.link_json.specs.Value.{place_key, places_json}

-- ---- names

-- the first number with this name
abbrev number_of : List (ℕ × List ℕ) → List ℕ → ℕ
number_of [] key = 0
number_of (x ∷ names) key = if bytes_eq x.1 key then x.0 else number_of names key

-- the index that a key is that of: a number of JSON is one itself
abbrev index_of : List (ℕ × List ℕ) → List ℕ → ℕ
index_of names key = by_rest (after_number key)
  where
    by_rest : Option (List ℕ) → ℕ
    by_rest (Some []) = digits_value 10 key
    by_rest rest = number_of names key

-- the names of places tell their indices: they are distinct, and none is a number
abbrev pub are_keys : List (ℕ × List ℕ) → Bool
are_keys names = list_all (λ x. index_of names x.1 == x.0) names

found : (index : List ℕ → ℕ) (names : List (ℕ × List ℕ)) (i : ℕ) (key : List ℕ) → list_all (λ x. index x.1 == x.0) names ≡ true → name_in names i ≡ Some key → index key ≡ i
found index [] i key h e = absurd cc
found index (x ∷ names) i key h e =
    let both = and_parts (index x.1 == x.0) (list_all (λ y. index y.1 == y.0) names) h in
    cond_both (x.0 == i) (Some x.1) (name_in names i) (λ o. o ≡ Some key → index key ≡ i)
    (λ t is. let same : x.1 ≡ key = cc in ap index (sym same) ∙ eqb-true (index x.1) x.0 both.0 ∙ eqb-true x.0 i t) (λ t. found index names i key both.1) e

module _ (names : List (ℕ × List ℕ)) (ok : are_keys names ≡ true) where
  key_tells : (i : ℕ) → i < 2 ^ 64 → index_of names (place_key i (name_in names i)) ≡ i
  key_tells i small = by_name (name_in names i) refl where
    by_name : (found : Option (List ℕ)) → name_in names i ≡ found → index_of names (place_key i found) ≡ i
    by_name None e = let number : after_number (decimal i) ≡ Some [] = IsNumber-decimal i small in rw number (decimal_is_IsNumeral i small).1
    by_name (Some key) e = found (index_of names) names i key ok e

  tells : (a : ArrayOf) (s : ℕ) (ns : List ℕ) (i : ℕ) (d : List ℕ) → s + length ns ≤ 2 ^ 64 → i < length (keys (members_of (places_json names a s ns)))
      → index_of names (get_or (keys (members_of (places_json names a s ns))) i d) ≡ s + i
  tells a s [] i d few within = absurd (omega arith)
  tells a s (n ∷ ns) zero d few within = key_tells s (omega arith) ∙ omega arith
  tells a s (n ∷ ns) (suc i) d few within = tells a (s + 1) ns i d (omega arith) (omega arith) ∙ omega arith

  pub places_distinct : (a : ArrayOf) (ns : List ℕ) → length ns ≤ 2 ^ 64 → AreDistinct (keys (members_of (places_json names a 0 ns)))
  places_distinct a ns few i j d lt within same = omega (arith, lt, tells a 0 ns i d (omega arith) (omega arith), tells a 0 ns j d (omega arith) within, ap (index_of names) same)

-- ---- tables

-- the names of the places of an array are keys
abbrev are_keys_of : Form → List (ℕ × List ℕ) → Bool
are_keys_of (forms.Numbers a) names = are_keys names
are_keys_of form names = true

abbrev has_keys : {C : Type 0} → Row C → Bool
has_keys r = are_keys_of r.form r.names

-- those in a table, and in its nested lists, are
abbrev have_keys : Table → Bool
have_keys table = list_all has_keys table && list_all (λ r. list_all has_keys (elements_by (Some r.class))) table

family_has_keys : (family : Family) → have_keys (table_of family) ≡ true
unfolding after_number
family_has_keys family = each_family (λ family. have_keys (table_of family)) refl family

-- what holds of each row holds of one that is found
at_row : {C : Type 0} (p : Row C → Bool) (rows : List (Row C)) (k : ℕ) → list_all p rows ≡ true → IfSome (row_at rows k) (λ r. p r ≡ true)
at_row p [] k h = tt
at_row p (r ∷ rows) k h =
    let both = and_parts (p r) (list_all p rows) h in
    cond_both (r.kind == k) (Some r) (row_at rows k) (λ found. IfSome found (λ x. p x ≡ true)) (λ e. both.0) (λ e. at_row p rows k both.1)

rows_have_keys : (family : Family) (k : Option ℕ) → list_all has_keys (rows_in family k) ≡ true
rows_have_keys family None = (and_parts _ _ (family_has_keys family)).0
rows_have_keys family (Some k) =
    let nested : Row Shape → Bool = λ r. list_all has_keys (elements_by (Some r.class)) in
    by_row (row_at (table_of family) k) (at_row nested (table_of family) k (and_parts _ _ (family_has_keys family)).1)
  where
    by_row : (found : Option (Row Shape)) → IfSome found (λ r. list_all has_keys (elements_by (Some r.class)) ≡ true) → list_all has_keys (elements_by (option_map (λ r. r.class) found)) ≡ true
    by_row None h = refl
    by_row (Some r) h = h

-- ---- contents

-- an array whose places have names: these are keys, and its numbers are few
abbrev pub IsKeyed : Option Label → Content → Type 0
IsKeyed (Some label) (contents.Numbers a p) = (are_keys label.names ≡ true) × (length (numbers_of (size_in a) p.now) ≤ 2 ^ 64)
IsKeyed label content = Unit {0}

-- how many bytes a value keeps unchanged
abbrev kept : Value → ℕ
kept (Raw bytes) = length bytes
kept v = 0

meant_few : (c : Class) (p : List ℕ) → kept (meant c p) ≤ length p
meant_few (Octets e) p = omega (arith, length-take (size_of e) p)
meant_few Optional [] = omega arith
meant_few Optional (b ∷ p) = omega arith
meant_few (Named n listed) p = cond_both (is_listed listed (number p)) (Name n (number p)) (Unlisted n listed (number p)) (λ v. kept v ≤ length p) (λ e. omega arith) (λ e. omega arith)
meant_few c p = omega arith

array_few : (shape : Shape) (p : List ℕ) (a : ArrayOf) (q : Bor (List ℕ)) → Borrows (Some shape) p (contents.Numbers a q) → length q.now ≤ length p
array_few (One Limits) p a q h = absurd h
array_few (One c) p a q h = omega (arith, meant_few c p, ap kept h)
array_few (Nested flagged rows) p a q h = absurd h
array_few (Addresses n) p a q h = absurd h

length_numbers : (width n offset : ℕ) (p : List ℕ) → length (numbers_at width n offset p) ≡ n
length_numbers width zero offset p = refl
length_numbers width (suc n) offset p = let more = length_numbers width n (offset + width) p in omega arith

pub keyed : (family : Family) (k : Option ℕ) (b : NlaBuffer) (content : Content) → HasContent (rows_in family k) b content → IsKeyed (label_for (rows_in family k) b) content
keyed family k b content has =
    let kind = kind_of (kind_field_of b) in
    by_row (row_at (rows_in family k) kind) content (at_row has_keys (rows_in family k) kind (rows_have_keys family k)) has.form has.borrows
  where
    by_row : (found : Option (Row Shape)) (content : Content) → IfSome found (λ r. has_keys r ≡ true) → form_of content ≡ option_map (λ r. r.form) found → Borrows (option_map (λ r. r.class) found) (payload_of b) content
        → IsKeyed (option_map label_by found) content
    by_row (Some r) (contents.Numbers a q) h f g =
        let form : r.form ≡ forms.Numbers a = cc in
        let size = length q.now / size_in a in
        (subst (λ x. are_keys_of x r.names ≡ true) form h, omega (arith, length_numbers (size_in a) size 0 q.now, div-le_self (length q.now) (size_in a), array_few r.class (payload_of b) a q g, b.short))
    by_row None content h f g = tt
    by_row (Some r) content h f g = tt
