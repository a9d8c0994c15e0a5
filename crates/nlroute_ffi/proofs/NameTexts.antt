-- The names of numbers and bits are those in the texts of values.
use Rattle.std.proofs.Common.{◌≡◌, ◌≢◌, ℕ, zero, suc, ◌+◌, ◌-◌, ◌*◌, ◌^◌, ◌<◌, ◌==◌, ◌&&◌, ◌||◌, Bool, true, false, cond, not, List, [], ◌∷◌, ◌++◌, map, Option, Some, None, option_map, refl, sym, ap, ap₂, subst, ◌∙◌, arith, codes}
use Rattle.std.specs.Fmt.{decimal}
use Rattle.std.specs.Str.{bytes_eq}
use Rattle.std.specs.Int.RustNames.{bit_and}
use Rattle.std.proofs.lemmas.Bool.{and_parts, eqb-true, eq-eqb, ne_eqb, lt-ltb}
use Rattle.std.proofs.lemmas.List.{append-nil}
use Rattle.std.proofs.lemmas.Nat.{pow_pos, pow-add}
use Rattle.std.proofs.lemmas.Slice.Eq.{bytes_eq-Decides}
use Rattle.link_base.specs.declared.rows.form.Form.{Form}
use Rattle.link_base.specs.declared.rows.form.Form.TheVariants as forms
use Rattle.link_base.specs.declared.views.content.Content.TheVariants as contents
use Rattle.link_base.specs.declared.names.vlan_protocol.VlanProtocol.{VlanProtocol}
use Rattle.link_base.specs.declared.names.vlan_protocol.VlanProtocol.TheVariants.{Ieee8021Q, Ieee8021Ad}
use Rattle.link_base.specs.Labels.{name_in}
use Rattle.link_base.specs.Named.{text_of}
use Rattle.link_base.specs.Protocol.{protocol_number, vlan_protocols}
use Rattle.link_base.specs.Table.{Row, Shape, Table, Label, row_at, label_at, label_by}
use Rattle.link_base.specs.Borrowed.{elements_by, elements_at}
use Rattle.link_base.specs.WellFormed.{are_rows}
use Rattle.link_base.proofs.LimitLemmas.{row_passes}
use Rattle.netlink_packet_route.specs.declared.family.Family.{Family}
use Rattle.netlink_packet_route.specs.Family.{table_of}
use Rattle.netlink_packet_route.proofs.Families.{each_family}
use Rattle.link_entries.specs.declared.entry.Entry.{Entry}
use Rattle.link_show.specs.Text.{joined, hex_number}
use Rattle.link_show.specs.Number.{beside}
use Rattle.link_show.specs.Flags.{named_text, enum_text, set_names, unnamed, last_word, flag_words, is_all, flags_text}
use Rattle.link_show.specs.Value.{protocol_text, content_text}
use Rattle.nlroute_ffi.specs.Names.{is_indexed, label_for, number_names_by, number_name, bit_names_by, flag_name}
use Rattle.nlroute_ffi.specs.Shown.{IsWithName, IsByName}

-- ---- attribute types

-- a test of what is known of each attribute type
module _ (test : Label → Bool) where
  abbrev pub rows_pass : Table → Bool
  rows_pass table = are_rows (λ r. test (label_by r)) 0 table

  abbrev pub elements_pass : Option Shape → Bool
  elements_pass o = rows_pass (elements_by o)

  -- also of those of nested lists
  abbrev pub types_pass : Table → Bool
  types_pass table = rows_pass table && are_rows (λ r. elements_pass (Some r.class)) 0 table

  pub label_passes : (table : Table) (k : ℕ) (label : Label) → rows_pass table ≡ true → label_at table k ≡ Some label → test label ≡ true
  label_passes table k label h at = by_row (row_at table k) refl at where
    by_row : (o : Option (Row Shape)) → row_at table k ≡ o → option_map label_by o ≡ Some label → test label ≡ true
    by_row None row is = absurd cc
    by_row (Some r) row is = let same : label_by r ≡ label = cc in subst (λ l. test l ≡ true) same (row_passes (λ q. test (label_by q)) 0 table k r h row)

  pub nested_pass : (table : Table) (k : ℕ) → are_rows (λ r. elements_pass (Some r.class)) 0 table ≡ true → rows_pass (elements_at table k) ≡ true
  nested_pass table k h = by_row (row_at table k) refl where
    by_row : (o : Option (Row Shape)) → row_at table k ≡ o → elements_pass (option_map (λ r. r.class) o) ≡ true
    by_row None row = refl
    by_row (Some r) row = row_passes (λ q. elements_pass (Some q.class)) 0 table k r h row

  type_passes : (family : Family) → types_pass (table_of family) ≡ true → (e : Entry) (label : Label) → label_for family e ≡ Some label → test label ≡ true
  type_passes family h e label at = by_test ((e.depth == 0) || is_indexed family e) (e.depth == 1) at where
    table : Table
    table = table_of family

    both : (rows_pass table ≡ true) × (are_rows (λ r. elements_pass (Some r.class)) 0 table ≡ true)
    both = and_parts (rows_pass table) (are_rows (λ r. elements_pass (Some r.class)) 0 table) h

    by_test : (b one : Bool) → cond b (label_at table e.kind) (cond one (label_at (elements_at table e.kind) e.inner) None) ≡ Some label → test label ≡ true
    by_test true one at = label_passes table e.kind label both.0 at
    by_test false true at = label_passes (elements_at table e.kind) e.inner label (nested_pass table e.kind both.1) at
    by_test false false at = absurd cc

-- ---- numbers

with_name : (o : Option (List ℕ)) (n : ℕ) → IsWithName o (decimal n) (named_text o n)
with_name None n = refl
with_name (Some name) n = refl

enum_shown : (names : List (ℕ × List ℕ)) (n : ℕ) → IsWithName (name_in names n) (decimal n) (enum_text names n)
unfolding enum_text
enum_shown names n = with_name (name_in names n) n

-- a number of a form whose numbers have names
pub number_shown : (label : Label) (n : ℕ) (form : Form) → label.form ≡ form → number_names_by form label ≡ label.names → IsWithName (number_name (Some label) n) (decimal n) (enum_text label.names n)
number_shown label n form is named =
    subst (λ names. IsWithName (name_in names n) (decimal n) (enum_text label.names n)) (sym (ap (λ f. number_names_by f label) is ∙ named)) (enum_shown label.names n)

-- ---- bits

and_false : (a : Bool) → (a && false) ≡ false
and_false true = refl
and_false false = refl

-- a number that has no bit of these
abbrev is_clear : List (ℕ × List ℕ) → ℕ → Bool
is_clear [] n = true
is_clear (x ∷ names) n = not (x.0 == n) && ((bit_and n x.0 == 0) && is_clear names n)

-- a number that is at most one of these, and has no bit of the others
abbrev is_single : List (ℕ × List ℕ) → ℕ → Bool
is_single [] n = true
is_single (x ∷ names) n = cond (x.0 == n) ((bit_and n n == n) && is_clear names n) ((bit_and n x.0 == 0) && is_single names n)

unnamed_none : (names : List (ℕ × List ℕ)) → unnamed names 0 ≡ 0
unnamed_none [] = refl
unnamed_none (x ∷ names) = let none : 0 - bit_and 0 x.0 ≡ 0 = omega arith in ap (unnamed names) none ∙ unnamed_none names

-- what is written of a number, by its name
abbrev IsNamed : Option (List ℕ) → List (ℕ × List ℕ) → ℕ → Type 0
IsNamed (Some name) names n = (map (λ x. x.1) (set_names names n) ≡ name ∷ []) × (unnamed names n ≡ 0)
IsNamed None names n = (map (λ x. x.1) (set_names names n) ≡ []) × (unnamed names n ≡ n)

-- a name whose bit is not set
set_passed : (x : ℕ × List ℕ) (names : List (ℕ × List ℕ)) (n : ℕ) → (bit_and n x.0 == 0) ≡ true → set_names (x ∷ names) n ≡ set_names names n
set_passed x names n h = ap (λ b. cond (not b) (x ∷ set_names names n) (set_names names n)) h

unnamed_passed : (x : ℕ × List ℕ) (names : List (ℕ × List ℕ)) (n : ℕ) → (bit_and n x.0 == 0) ≡ true → unnamed (x ∷ names) n ≡ unnamed names n
unnamed_passed x names n h =
    let none : bit_and n x.0 ≡ 0 = eqb-true (bit_and n x.0) 0 h in
    let same : n - bit_and n x.0 ≡ n = omega (arith, none) in
    ap (unnamed names) same

named_passed : (o : Option (List ℕ)) (x : ℕ × List ℕ) (names : List (ℕ × List ℕ)) (n : ℕ) → (bit_and n x.0 == 0) ≡ true → IsNamed o names n → IsNamed o (x ∷ names) n
named_passed (Some name) x names n h its_name = (ap (map (λ y. y.1)) (set_passed x names n h) ∙ its_name.0, unnamed_passed x names n h ∙ its_name.1)
named_passed None x names n h its_name = (ap (map (λ y. y.1)) (set_passed x names n h) ∙ its_name.0, unnamed_passed x names n h ∙ its_name.1)

clear_set : (names : List (ℕ × List ℕ)) (n : ℕ) → is_clear names n ≡ true → set_names names n ≡ []
clear_set [] n h = refl
clear_set (x ∷ names) n h =
    let rest = and_parts (bit_and n x.0 == 0) (is_clear names n) (and_parts (not (x.0 == n)) ((bit_and n x.0 == 0) && is_clear names n) h).1 in
    set_passed x names n rest.0 ∙ clear_set names n rest.1

single_named : (names : List (ℕ × List ℕ)) (n : ℕ) → n ≢ 0 → is_single names n ≡ true → IsNamed (name_in names n) names n
single_named [] n some h = (refl, refl)
single_named (x ∷ names) n some h = by_test (x.0 == n) refl h (single_named names n some) where
  by_test : (b : Bool) → (x.0 == n) ≡ b → cond b ((bit_and n n == n) && is_clear names n) ((bit_and n x.0 == 0) && is_single names n) ≡ true
      → (is_single names n ≡ true → IsNamed (name_in names n) names n) → IsNamed (cond b (Some x.1) (name_in names n)) (x ∷ names) n
  by_test true e h more =
      let both = and_parts (bit_and n n == n) (is_clear names n) h in
      let all : bit_and n x.0 ≡ n = ap (bit_and n) (eqb-true x.0 n e) ∙ eqb-true (bit_and n n) n both.0 in
      let set : (bit_and n x.0 == 0) ≡ false = ne_eqb (bit_and n x.0) 0 (λ z. some (sym all ∙ z)) in
      let none : n - bit_and n x.0 ≡ 0 = omega (arith, all) in (
        ap (λ b. map (λ y. y.1) (cond (not b) (x ∷ set_names names n) (set_names names n))) set
            ∙ ap (λ t. x.1 ∷ map (λ y. y.1) t) (clear_set names n both.1),
        ap (unnamed names) none ∙ unnamed_none names,
      )
  by_test false e h more = let both = and_parts (bit_and n x.0 == 0) (is_single names n) h in named_passed (name_in names n) x names n both.0 (more both.1)

-- one bit is not all bits of some bytes
not_full : (bit width : ℕ) → 2 ^ bit ≢ 2 ^ (8 * width) - 1
not_full bit zero e = omega (arith, pow_pos bit, e)
not_full zero (suc v) e =
    let high : 2 ^ (8 + 8 * v) ≡ 256 * 2 ^ (8 * v) = pow-add 2 8 (8 * v) in
    let same : 8 * suc v ≡ 8 + 8 * v = omega arith in
    omega (arith, ap (λ k. 2 ^ k) same, high, pow_pos (8 * v), e)
not_full (suc b) (suc v) e =
    let high : 2 ^ (8 + 8 * v) ≡ 256 * 2 ^ (8 * v) = pow-add 2 8 (8 * v) in
    let same : 8 * suc v ≡ 8 + 8 * v = omega arith in
    let twice : 2 ^ (1 + b) ≡ 2 * 2 ^ b = pow-add 2 1 b in
    let next : suc b ≡ 1 + b = omega arith in
    omega (arith, ap (λ k. 2 ^ k) same, high, pow_pos (8 * v), ap (λ k. 2 ^ k) next, twice, e)

-- the names that are written, and the bits without a name after them
words_named : (names : List (ℕ × List ℕ)) (width n m : ℕ) (its_name : List (List ℕ)) → n ≢ 0 → map (λ x. x.1) (set_names names n) ≡ its_name → unnamed names n ≡ m → ((n == 2 ^ (8 * width) - 1) && not (m == 0)) ≡ false
    → flags_text names width n ≡ joined (codes "|") (its_name ++ last_word m)
unfolding flags_text
words_named names width n m its_name some set left other =
    let words = joined (codes "|") (flag_words names n) in
    ap (λ b. cond b (codes "0") (cond (is_all names width n) (codes "all") words)) (ne_eqb n 0 some)
    ∙ ap (λ b. cond b (codes "all") words) (ap (λ k. (n == 2 ^ (8 * width) - 1) && not (k == 0)) left ∙ other)
    ∙ ap₂ (λ t k. joined (codes "|") (t ++ last_word k)) set left

bit_named : (o : Option (List ℕ)) (names : List (ℕ × List ℕ)) (width bit : ℕ) → IsNamed o names (2 ^ bit) → IsByName o (hex_number (2 ^ bit)) (flags_text names width (2 ^ bit))
bit_named (Some name) names width bit its_name =
    words_named names width (2 ^ bit) 0 (name ∷ []) (λ z. omega (arith, pow_pos bit, z)) its_name.0 its_name.1 (and_false (2 ^ bit == 2 ^ (8 * width) - 1)) ∙ append-nil name
bit_named None names width bit its_name =
    let n = 2 ^ bit in
    let some : n ≢ 0 = λ z. omega (arith, pow_pos bit, z) in
    words_named names width n n [] some its_name.0 its_name.1 (ap (λ b. b && not (n == 0)) (ne_eqb n (2 ^ (8 * width) - 1) (not_full bit width)))
    ∙ ap (λ b. joined (codes "|") (cond b [] (hex_number n ∷ []))) (ne_eqb n 0 some) ∙ append-nil (hex_number n)

-- ---- the names in the tables

-- each of the first n bits is at most one of these names
abbrev each_single : ℕ → List (ℕ × List ℕ) → Bool
each_single zero names = true
each_single (suc b) names = is_single names (2 ^ b) && each_single b names

one_single : (n : ℕ) (names : List (ℕ × List ℕ)) → each_single n names ≡ true → (b : ℕ) → b < n → is_single names (2 ^ b) ≡ true
one_single zero names h b low = absurd (omega (arith, low))
one_single (suc m) names h b low = by_test (b == m) refl (one_single m names both.1 b) where
  both : (is_single names (2 ^ m) ≡ true) × (each_single m names ≡ true)
  both = and_parts (is_single names (2 ^ m)) (each_single m names) h

  by_test : (t : Bool) → (b == m) ≡ t → (b < m → is_single names (2 ^ b) ≡ true) → is_single names (2 ^ b) ≡ true
  by_test true e more = ap (λ k. is_single names (2 ^ k)) (eqb-true b m e) ∙ both.0
  by_test false e more = let other : b ≢ m = λ z. let yes : (b == m) ≡ true = eq-eqb b m z in absurd cc in more (omega arith)

abbrev is_plain : Label → Bool
is_plain label = each_single 64 (bit_names_by label.form label)

-- a bit of an attribute type is written by its name
pub bits_shown : (family : Family) (e : Entry) (label : Label) (bit width : ℕ) → label_for family e ≡ Some label → bit < 64
    → IsByName (flag_name (Some label) bit) (hex_number (2 ^ bit)) (flags_text (bit_names_by label.form label) width (2 ^ bit))
bits_shown family e label bit width at low =
    let names = bit_names_by label.form label in
    let plain : is_plain label ≡ true = type_passes is_plain family (each_family (λ family. types_pass is_plain (table_of family)) refl family) e label at in
    let single = one_single 64 names plain bit low in
    let its_name = single_named names (2 ^ bit) (λ z. omega (arith, pow_pos bit, z)) single in
    subst (λ o. IsByName o (hex_number (2 ^ bit)) (flags_text names width (2 ^ bit))) (sym (ap (λ b. cond b (name_in names (2 ^ bit)) None) (lt-ltb bit 64 low)))
    (bit_named (name_in names (2 ^ bit)) names width bit its_name)

-- ---- VLAN protocols

abbrev is_text : Option (List ℕ) → List ℕ → Bool
is_text None text = false
is_text (Some name) text = bytes_eq name text

-- a protocol has its name among these
abbrev has_name : List (ℕ × List ℕ) → VlanProtocol → Bool
has_name names p = is_text (name_in names (protocol_number p)) (text_of vlan_protocols.labels (protocol_number p))

abbrev has_protocols : Form → List (ℕ × List ℕ) → Bool
has_protocols forms.Protocol names = has_name names Ieee8021Q && has_name names Ieee8021Ad
has_protocols form names = true

abbrev names_protocols : Label → Bool
names_protocols label = has_protocols label.form label.names

one_named : (names : List (ℕ × List ℕ)) (p : VlanProtocol) → has_protocols forms.Protocol names ≡ true → has_name names p ≡ true
one_named names Ieee8021Q h = (and_parts (has_name names Ieee8021Q) (has_name names Ieee8021Ad) h).0
one_named names Ieee8021Ad h = (and_parts (has_name names Ieee8021Q) (has_name names Ieee8021Ad) h).1

protocol_named : (o : Option (List ℕ)) (p : VlanProtocol) → is_text o (text_of vlan_protocols.labels (protocol_number p)) ≡ true → IsWithName o (hex_number (protocol_number p)) (protocol_text p)
protocol_named None p h = absurd cc
protocol_named (Some name) p h = ap (λ t. beside t (hex_number (protocol_number p))) (sym ((bytes_eq-Decides name (text_of vlan_protocols.labels (protocol_number p))).0 h))

pub protocols_shown : (family : Family) (e : Entry) (label : Label) (p : VlanProtocol) → label_for family e ≡ Some label → label.form ≡ forms.Protocol
    → IsWithName (number_name (Some label) (protocol_number p)) (hex_number (protocol_number p)) (content_text label (contents.Protocol p))
protocols_shown family e label p at form =
    let its_name : names_protocols label ≡ true = type_passes names_protocols family (each_family (λ family. types_pass names_protocols (table_of family)) refl family) e label at in
    subst (λ f. IsWithName (name_in (number_names_by f label) (protocol_number p)) (hex_number (protocol_number p)) (protocol_text p)) (sym form)
    (protocol_named (name_in label.names (protocol_number p)) p (one_named label.names p (subst (λ f. has_protocols f label.names ≡ true) form its_name)))
