-- The laws of enums for named numbers.
use Rattle.std.proofs.Common.{◌≡◌, ◌≢◌, ℕ, ◌+◌, ◌-◌, ◌<◌, ◌^◌, Bool, true, false, cond, List, [], ◌∷◌, map, slice_index, drop, ◌++◌, Result, Ok, Err, refl, sym, ap, subst, ◌∙◌, arith, inl, inr, ⊎_elim}
use Rattle.std.specs.Prelude.{◌==◌, ◌||◌, not, nat_lt}
use Rattle.std.specs.List.{AllByRecursion, list_any, list_all}
use Rattle.std.specs.Fmt.{decimal}
use Rattle.std.specs.Char.{is_ascii_digit}
use Rattle.std.specs.Str.{bytes_eq}
use Rattle.std.specs.Str.Parse.{IsNumeral, AllDigits, digits_value, without_leading_plus, ParsesUnsigned}
use Rattle.std.proofs.lemmas.Bool.{both_ways, cond-true, cond-false, cond_both, and_parts, and_from, or_left, or_right, not-true, false≢true, cases_Bool, eqb-true, eq-eqb, ltb-true, le-leb}
use Rattle.std.proofs.lemmas.Slice.Eq.{bytes_eq-Decides}
use Rattle.std.proofs.lemmas.Fmt.{decimal_digit, decimal_is_IsNumeral}
use Rattle.std.proofs.lemmas.Str.Parse.{digit_from_value, without_leading_plus_none}
use Rattle.link_base.specs.declared.wire.fault.DecodeError.{DecodeError}
use Rattle.link_base.specs.Class as class
use Rattle.link_base.specs.Class.{is_listed}
use Rattle.link_base.specs.Named.{Label, Naming, Bare, Accepted, NoText, TextOrDigit, TextOrNumber, AnyCase, numbers_of, case_of, value_of, Seen, Listed, Free, number_of, seen_of, IsSeen, seen_value, seen_canon, text_of, free_text, displayed, lower, WritesNumber, HasLabel, AcceptsBy, Accepts, ReadsText, all_labels, are_distinct, begins_number, are_told_apart, is_naming}

-- ---- numbers

-- the numbers of labels
abbrev numbers_in : {T : Type 0} → List (Label T) → List ℕ
numbers_in labels = map {A = ℕ × List ℕ} (λ x. x.0) (map (λ l. (l.number, l.text)) labels)

same_numbers : {T : Type 0} (labels : List (Label T)) → numbers_in labels ≡ map (λ l. l.number) labels
same_numbers [] = refl
same_numbers (l ∷ labels) = ap (λ ns. l.number ∷ ns) (same_numbers labels)

-- the number of what a number decodes to
number_of-seen : (listed : List ℕ) (d : ℕ) → number_of (seen_of listed d) ≡ d
number_of-seen listed d = cond_both (is_listed listed d) (Listed d) (Free d) (λ s. number_of s ≡ d) (λ e. refl) (λ e. refl)

module _ {T : Type 0} (seen : T → Seen) (other : ℕ → T) where
  -- what the value for a number holds
  case_seen : (labels : List (Label T)) → AllByRecursion (λ l. seen l.case ≡ Listed l.number) labels → ((d : ℕ) → seen (other d) ≡ Free d)
      → (d : ℕ) → seen (case_of labels other d) ≡ seen_of (numbers_in labels) d
  case_seen [] h free d = free d
  case_seen (l ∷ labels) h free d =
      ⊎_elim
      (λ e.
      ap seen (cond-true (l.number == d) l.case (case_of labels other d) e) ∙ h.0 ∙ ap Listed (eqb-true l.number d e)
      ∙ sym (cond-true (l.number == d || is_listed (numbers_in labels) d) (Listed d) (Free d) (or_left _ _ e)))
      (λ e.
      ap seen (cond-false (l.number == d) l.case (case_of labels other d) e) ∙ case_seen labels h.1 free d
      ∙ ap (λ b. cond (b || is_listed (numbers_in labels) d) (Listed d) (Free d)) (sym e))
      (cases_Bool (l.number == d))

-- the value that holds this
abbrev is_value : {T : Type 0} → Naming T → Seen → T
is_value names (Listed d) = value_of names d
is_value names (Free d) = names.other d

-- a value is the one that holds what it holds
value_is : {T : Type 0} (names : Naming T) (v : T) (s : Seen) → IsSeen names v s → v ≡ is_value names s
value_is names v (Listed d) h = h.1
value_is names v (Free d) h = h

-- the normal form of what a value holds is what its number decodes to
canon_seen : {T : Type 0} (names : Naming T) (v : T) (s : Seen) → IsSeen names v s → seen_of (numbers_of names) (number_of s) ≡ seen_canon (numbers_of names) s
canon_seen names v (Listed d) h = cond-true (is_listed (numbers_of names) d) (Listed d) (Free d) h.0
canon_seen names v (Free d) h = refl

-- the normal form, as a value of the class
class_canon : (n : ℕ) (listed : List ℕ) (s : Seen) → class.canon (seen_value n listed s) ≡ seen_value n listed (seen_canon listed s)
class_canon n listed (Listed d) = refl
class_canon n listed (Free d) =
    cond_both (is_listed listed d) (Listed d) (Free d) (λ s. class.named n listed d ≡ seen_value n listed s)
    (λ e. cond-true (is_listed listed d) (class.Name n d) (class.Unlisted n listed d) e)
    (λ e. cond-false (is_listed listed d) (class.Name n d) (class.Unlisted n listed d) e)

module _ {T : Type 0} (names : Naming T) (seen : T → Seen) (cases_hold : AllByRecursion (λ l. seen l.case ≡ Listed l.number) names.labels) (other_holds : (d : ℕ) → seen (names.other d) ≡ Free d) where
  -- what the value for a number holds
  pub seen_back : (d : ℕ) → seen (value_of names d) ≡ seen_of (numbers_of names) d
  seen_back d = case_seen seen names.other names.labels cases_hold other_holds d

  -- the value for a number has that number
  pub number_back : (d : ℕ) → number_of (seen (value_of names d)) ≡ d
  number_back d = ap number_of (seen_back d) ∙ number_of-seen (numbers_of names) d

  -- the value for the number of a value holds the value's normal form
  pub value_back : (v : T) → IsSeen names v (seen v) → seen (value_of names (number_of (seen v))) ≡ seen_canon (numbers_of names) (seen v)
  value_back v h = seen_back (number_of (seen v)) ∙ canon_seen names v (seen v) h

  -- the same, as values of the class
  pub canon_back : (v : T) (n : ℕ) → IsSeen names v (seen v)
      → class.canon (seen_value n (numbers_of names) (seen v)) ≡ seen_value n (numbers_of names) (seen (value_of names (number_of (seen v))))
  canon_back v n h = class_canon n (numbers_of names) (seen v) ∙ ap (seen_value n (numbers_of names)) (sym (value_back v h))

-- two values that hold the same are identical
pub different : {T : Type 0} (names : Naming T) (seen : T → Seen) (a b : T) → IsSeen names a (seen a) → IsSeen names b (seen b) → seen a ≡ seen b → a ≡ b
different names seen a b h k e = value_is names a (seen a) h ∙ ap (is_value names) e ∙ sym (value_is names b (seen b) k)

-- ---- `Display` output is accepted

-- the first label of a number
first_label : {T : Type 0} (l : Label T) (labels : List (Label T)) (other : ℕ → T) (d : ℕ) (b : Bool) → (b || is_listed (numbers_in labels) d) ≡ true
    → (is_listed (numbers_in labels) d ≡ true → HasLabel labels (case_of labels other d) (λ m. text_of labels d ≡ m.text))
    → HasLabel (l ∷ labels) (cond b l.case (case_of labels other d)) (λ m. cond b l.text (text_of labels d) ≡ m.text)
first_label l labels other d true h rest = inl (refl, refl)
first_label l labels other d false h rest = inr (rest h)

-- the value for a number that has a name has a label with its string
has_text : {T : Type 0} (labels : List (Label T)) (other : ℕ → T) (d : ℕ) → is_listed (numbers_in labels) d ≡ true
    → HasLabel labels (case_of labels other d) (λ m. text_of labels d ≡ m.text)
has_text [] other d h = absurd (false≢true h)
has_text (l ∷ labels) other d h = first_label l labels other d (l.number == d) h (has_text labels other d)

-- a label for which a rule holds also satisfies any rule that follows from it
weaker : {T : Type 0} (labels : List (Label T)) (v : T) (P Q : Label T → Type 0) → ((l : Label T) → P l → Q l) → HasLabel labels v P → HasLabel labels v Q
weaker [] v P Q f h = h
weaker (l ∷ labels) v P Q f h = ⊎_elim (λ a. inl (a.0, f l a.1)) (λ a. inr (weaker labels v P Q f a)) h

-- a label in the first of two lists is in both together
in_first : {T : Type 0} (labels further : List (Label T)) (v : T) (P : Label T → Type 0) → HasLabel labels v P → HasLabel (labels ++ further) v P
in_first [] further v P h = absurd h
in_first (l ∷ labels) further v P h = ⊎_elim (λ a. inl a) (λ a. inr (in_first labels further v P a)) h

-- so is a label in the second
in_second : {T : Type 0} (labels further : List (Label T)) (v : T) (P : Label T → Type 0) → HasLabel further v P → HasLabel (labels ++ further) v P
in_second [] further v P h = h
in_second (l ∷ labels) further v P h = inr (in_second labels further v P h)

-- a string is accepted
text_by : {T : Type 0} (rule : Accepted) (names : Naming T) (text : List ℕ) (v : T) → rule ≢ NoText → HasLabel (all_labels names) v (λ l. text ≡ l.text) → AcceptsBy rule names text v
text_by NoText names text v some h = absurd (some refl)
text_by TextOrDigit names text v some h = inl h
text_by (TextOrNumber bits) names text v some h = inl h
text_by AnyCase names text v some h = weaker (all_labels names) v _ _ (λ l e. ap lower e) h

-- the string of a name
name_text : {T : Type 0} (names : Naming T) (v : T) (d : ℕ) → IsSeen names v (Listed d) → HasLabel (all_labels names) v (λ l. text_of names.labels d ≡ l.text)
name_text names v d h =
    in_first names.labels names.further v _
    (subst (λ w. HasLabel names.labels w (λ l. text_of names.labels d ≡ l.text)) (sym h.1) (has_text names.labels names.other d h.0))

-- the `Display` output for a number that has a name is accepted
pub name_back : {T : Type 0} (names : Naming T) (v : T) (s : Seen) (d : ℕ) → IsSeen names v s → names.accepted ≢ NoText → s ≡ Listed d → Accepts names (displayed names s) v
name_back names v (Listed n) d h some e = text_by names.accepted names (text_of names.labels n) v some (name_text names v n h)
name_back names v (Free n) d h some e = absurd cc

-- an additional string is accepted
pub further_read : {T : Type 0} (names : Naming T) (text : List ℕ) (v : T) → names.accepted ≢ NoText → HasLabel names.further v (λ l. text ≡ l.text) → Accepts names text v
further_read names text v some h = text_by names.accepted names text v some (in_second names.labels names.further v _ h)

-- a list of digits does not start with a plus
no_plus : (ds : List ℕ) → IsNumeral 10 ds → without_leading_plus ds ≡ ds
no_plus [] h = refl
no_plus (c ∷ ds) h = let digit = digit_from_value c h.1.0 in without_leading_plus_none (c ∷ ds) (λ e. omega (arith, e, digit.0, digit.1))

-- the decimal representation of a number is accepted for it
decimal_writes : (bits d : ℕ) → d < 2 ^ bits → d < 2 ^ 64 → WritesNumber bits (decimal d) d
decimal_writes bits d fits below =
    let is = decimal_is_IsNumeral d below in
    subst (λ ds. IsNumeral 10 ds × (digits_value 10 ds ≡ d) × (d < 2 ^ bits)) (sym (no_plus (decimal d) is.0)) (is.0, is.1, fits)

-- the `Display` output of a value is accepted for the value of its number, if numbers are accepted
pub number_accepted : {T : Type 0} (names : Naming T) (v : T) (s : Seen) (bits : ℕ) → IsSeen names v s → names.accepted ≡ TextOrNumber bits → names.other_text ≡ Bare
    → number_of s < 2 ^ bits → number_of s < 2 ^ 64 → Accepts names (displayed names s) (value_of names (number_of s))
number_accepted names v (Listed d) bits h rule bare fits below =
    subst (λ a. AcceptsBy a names (text_of names.labels d) (value_of names d)) (sym rule)
    (inl (in_first names.labels names.further _ _ (has_text names.labels names.other d h.0)))
number_accepted names v (Free d) bits h rule bare fits below =
    subst (λ a. AcceptsBy a names (free_text names.other_text d) (value_of names d)) (sym rule)
    (inr (d, subst (λ t. WritesNumber bits (free_text t d) d) (sym bare) (decimal_writes bits d fits below), refl))

-- ---- a string is accepted for one value only

-- a rule for a label may use a test that all labels pass
with_test : {T : Type 0} (test : Label T → Bool) (labels : List (Label T)) (v : T) (P Q : Label T → Type 0) → list_all test labels ≡ true
    → ((l : Label T) → test l ≡ true → P l → Q l) → HasLabel labels v P → HasLabel labels v Q
with_test test [] v P Q all f h = h
with_test test (l ∷ labels) v P Q all f h =
    let t = and_parts (test l) (list_all test labels) all in
    ⊎_elim (λ a. inl (a.0, f l t.0 a.1)) (λ a. inr (with_test test labels v P Q t.1 f a)) h

-- a rule that never holds does not hold for a label
nowhere : {T : Type 0} (labels : List (Label T)) (v : T) → HasLabel labels v (λ l. ⊥) → ⊥
nowhere [] v h = h
nowhere (l ∷ labels) v h = ⊎_elim (λ a. a.1) (λ a. nowhere labels v a) h

module _ {T K : Type 0} (eq : K → K → Bool) (reflexive : (x : K) → eq x x ≡ true) (key : Label T → K) (k : K) where
  -- a label's key is among the keys
  among : (labels : List (Label T)) (v : T) → HasLabel labels v (λ l. key l ≡ k) → list_any (λ x. eq x k) (map key labels) ≡ true
  among [] v h = absurd h
  among (l ∷ labels) v h =
      ⊎_elim (λ a. or_left _ _ (subst (λ x. eq (key l) x ≡ true) a.1 (reflexive (key l)))) (λ a. or_right _ _ (among labels v a)) h

  -- the key of a label is not that of a later one
  apart : (l : Label T) (labels : List (Label T)) (v : T) → not (list_any (λ x. eq x (key l)) (map key labels)) ≡ true → key l ≡ k → HasLabel labels v (λ m. key m ≡ k) → ⊥
  apart l labels v none e h =
      both_ways (list_any (λ x. eq x k) (map key labels)) (subst (λ y. list_any (λ x. eq x y) (map key labels) ≡ false) e (not-true _ none)) (among labels v h)

  -- labels with equal keys have the same value
  one_label : (labels : List (Label T)) (v w : T) → are_distinct eq (map key labels) ≡ true → HasLabel labels v (λ l. key l ≡ k) → HasLabel labels w (λ l. key l ≡ k) → v ≡ w
  one_label [] v w d h i = absurd h
  one_label (l ∷ labels) v w d h i =
      let t = and_parts (not (list_any (λ x. eq x (key l)) (map key labels))) (are_distinct eq (map key labels)) d in
      ⊎_elim
      (λ a. ⊎_elim (λ b. sym a.0 ∙ b.0) (λ b. absurd (apart l labels w t.0 a.1 b)) i)
      (λ a. ⊎_elim (λ b. absurd (apart l labels v t.0 b.1 a)) (λ b. one_label labels v w t.1 a b) i) h

-- equal texts pass the test
same_bytes : (text : List ℕ) → bytes_eq text text ≡ true
same_bytes text = (bytes_eq-Decides text text).1 refl

same_number : (d : ℕ) → (d == d) ≡ true
same_number d = eq-eqb d d refl

-- the decimal representation of a digit
digit_text : (d : ℕ) (text : List ℕ) → nat_lt d 10 ≡ true → text ≡ decimal d → text ≡ (48 + d) ∷ []
digit_text d text small e = e ∙ decimal_digit d (ltb-true d 10 small)

-- the number of a digit
digit_number : (d : ℕ) (text : List ℕ) → text ≡ (48 + d) ∷ [] → d ≡ slice_index text 0 - 48
digit_number d text e = let first : slice_index text 0 ≡ 48 + d = ap (λ t. slice_index t 0) e in omega arith

-- a number in a string begins with a digit or a plus
numeral_begins : (bits : ℕ) (text : List ℕ) (d : ℕ) → WritesNumber bits text d → begins_number (slice_index text 0) ≡ true
numeral_begins bits [] d h = absurd (omega (arith, h.0.0))
numeral_begins bits (c ∷ text) d h =
    cond_both (c == 43) 1 0 (λ k. AllDigits 10 (drop k (c ∷ text)) → begins_number c ≡ true)
    (λ e digits. or_right (is_ascii_digit c) (c == 43) e)
    (λ e digits. let digit = digit_from_value c digits.0 in or_left (is_ascii_digit c) (c == 43) (and_from _ _ (le-leb 48 c digit.0) (le-leb c 57 digit.1))) h.0.1

module _ {T : Type 0} (names : Naming T) (is : is_naming names ≡ true) where
  parts : (are_distinct (λ a b. a == b) (numbers_of names) ≡ true) × (are_distinct bytes_eq (map (λ l. lower l.text) (all_labels names)) ≡ true)
      × (are_told_apart names.accepted names ≡ true)
  parts =
      let a = and_parts _ _ is in
      let b = and_parts _ _ a.1 in
      (a.0, b.0, b.1)

  -- labels whose strings are equal, ignoring ASCII case, have the same value
  by_lower : (text : List ℕ) (v w : T) → HasLabel (all_labels names) v (λ l. lower text ≡ lower l.text) → HasLabel (all_labels names) w (λ l. lower text ≡ lower l.text) → v ≡ w
  by_lower text v w h i =
      one_label bytes_eq same_bytes (λ l. lower l.text) (lower text) (all_labels names) v w parts.1
      (weaker (all_labels names) v _ _ (λ l e. sym e) h) (weaker (all_labels names) w _ _ (λ l e. sym e) i)

  -- labels with equal strings have the same value
  by_text : (text : List ℕ) (v w : T) → HasLabel (all_labels names) v (λ l. text ≡ l.text) → HasLabel (all_labels names) w (λ l. text ≡ l.text) → v ≡ w
  by_text text v w h i =
      by_lower text v w (weaker (all_labels names) v _ _ (λ l e. ap lower e) h) (weaker (all_labels names) w _ _ (λ l e. ap lower e) i)

  -- the string of a label is not the digit of a label
  text_or_digit : (text : List ℕ) (v w : T) → names.accepted ≡ TextOrDigit → HasLabel (all_labels names) v (λ l. text ≡ l.text) → HasLabel names.labels w (λ l. text ≡ decimal l.number) → ⊥
  text_or_digit text v w rule h i =
      let texts = map (λ l. l.text) (all_labels names) in
      let all = subst (λ a. are_told_apart a names ≡ true) rule parts.2 in
      let found = among bytes_eq same_bytes (λ l. l.text) text (all_labels names) v (weaker (all_labels names) v _ _ (λ l e. sym e) h) in
      nowhere names.labels w
      (with_test _ names.labels w _ _ all
      (λ l test e.
      let t = and_parts _ _ test in
      both_ways (list_any (λ x. bytes_eq x text) texts)
      (subst (λ y. list_any (λ x. bytes_eq x y) texts ≡ false) (sym (digit_text l.number text t.0 e)) (not-true _ t.1)) found) i)

  -- labels with equal digits have the same value
  by_digit : (text : List ℕ) (v w : T) → names.accepted ≡ TextOrDigit → HasLabel names.labels v (λ l. text ≡ decimal l.number) → HasLabel names.labels w (λ l. text ≡ decimal l.number) → v ≡ w
  by_digit text v w rule h i =
      let all = subst (λ a. are_told_apart a names ≡ true) rule parts.2 in
      let number : (u : T) → HasLabel names.labels u (λ l. text ≡ decimal l.number) → HasLabel names.labels u (λ l. l.number ≡ slice_index text 0 - 48) =
      λ u j. with_test _ names.labels u _ _ all
      (λ l test e. digit_number l.number text (digit_text l.number text (and_parts _ _ test).0 e)) j in
      one_label (λ a b. a == b) same_number (λ l. l.number) (slice_index text 0 - 48) names.labels v w (subst (λ ns. are_distinct (λ a b. a == b) ns ≡ true) (same_numbers names.labels) parts.0) (number v h) (number w i)

  -- the string of a label is not a number
  text_or_number : (text : List ℕ) (v : T) (bits d : ℕ) → names.accepted ≡ TextOrNumber bits → HasLabel (all_labels names) v (λ l. text ≡ l.text) → WritesNumber bits text d → ⊥
  text_or_number text v bits d rule h i =
      let all = subst (λ a. are_told_apart a names ≡ true) rule parts.2 in
      nowhere (all_labels names) v
      (with_test _ (all_labels names) v _ _ all
      (λ l test e.
      both_ways (begins_number (slice_index l.text 0)) (not-true _ test)
      (subst (λ t. begins_number (slice_index t 0) ≡ true) e (numeral_begins bits text d i))) h)

  -- a string is accepted for one value only, by each rule
  one_by : (rule : Accepted) (text : List ℕ) (v w : T) → names.accepted ≡ rule → AcceptsBy rule names text v → AcceptsBy rule names text w → v ≡ w
  one_by NoText text v w e h i = absurd h
  one_by TextOrDigit text v w e h i =
      ⊎_elim
      (λ a. ⊎_elim (λ b. by_text text v w a b) (λ b. absurd (text_or_digit text v w e a b)) i)
      (λ a. ⊎_elim (λ b. absurd (text_or_digit text w v e b a)) (λ b. by_digit text v w e a b) i) h
  one_by (TextOrNumber bits) text v w e h i =
      ⊎_elim
      (λ a. ⊎_elim (λ b. by_text text v w a b) (λ b. absurd (text_or_number text v bits b.0 e a b.1)) i)
      (λ a. ⊎_elim (λ b. absurd (text_or_number text w bits a.0 e b a.1)) (λ b. a.2 ∙ ap (value_of names) (sym a.1.1 ∙ b.1.1) ∙ sym b.2) i) h
  one_by AnyCase text v w e h i = by_lower text v w h i

  -- a string is accepted for one value only
  pub one_text : (text : List ℕ) (v w : T) → Accepts names text v → Accepts names text w → v ≡ w
  one_text text v w h i = one_by names.accepted text v w refl h i

  -- a string that is accepted for a value parses to it
  pub reads_as : (text : List ℕ) (v : T) (r : Result T DecodeError) → Accepts names text v → ReadsText names text r → r ≡ Ok v
  reads_as text v (Ok w) a h = ap Ok (one_text text w v h a)
  reads_as text v (Err e) a h = absurd (h.1 v a)

-- ---- numbers that `parse` accepts

-- the parsed number is the one in the string
pub parsed_number : {E : Type 0} (bits : ℕ) (text : List ℕ) (r : Result ℕ E) (d : ℕ) → ParsesUnsigned bits 10 text r → r ≡ Ok d → WritesNumber bits text d
parsed_number bits text (Ok n) d h e = let same : n ≡ d = cc in (h.0.0, sym h.1 ∙ same, subst (λ m. m < 2 ^ bits) (sym h.1 ∙ same) h.0.1)
parsed_number bits text (Err x) d h e = absurd cc

-- a string that is rejected is not a number
pub parsed_none : {E : Type 0} (bits : ℕ) (text : List ℕ) (r : Result ℕ E) (x : E) (d : ℕ) → ParsesUnsigned bits 10 text r → r ≡ Err x → ¬ (WritesNumber bits text d)
parsed_none bits text (Ok n) x d h e = absurd cc
parsed_none bits text (Err y) x d h e = λ w. h (w.0, subst (λ m. m < 2 ^ bits) (sym w.1) w.2)
