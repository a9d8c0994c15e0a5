-- Which decoded values do not fit.
use Rattle.std.proofs.Common.{◌≡◌, ℕ, ◌+◌, ◌*◌, ◌<◌, ◌≤◌, Bool, true, List, [], ◌∷◌, length, Option, Some, None, option_map, Ok, refl, sym, ap, subst, ◌∙◌, arith, ⊎_elim, length-append, length-take}
use Rattle.std.specs.Prelude.{nat_lt, nat_le, ◌==◌, ◌||◌, ◌&&◌, ◌↔◌}
use Rattle.std.specs.List.{AllByRecursion, list_all}
use Rattle.std.proofs.lemmas.Bool.{cases_Bool, cond-true, cond-false, and_parts, or_cases, eqb-true, cases_lt, false≢true, ltb-false}
use Rattle.link_base.specs.Number.{IsBytes, number}
use Rattle.link_base.specs.declared.wire.fault.Cause.TheVariants.{TooShort, WrongLength}
use Rattle.link_base.specs.Frame.{Frame, Frames, AreFrames, kind_of, pad, frame_bytes, bytes_of_frames}
use Rattle.link_base.specs.Wire.{whole}
use Rattle.link_base.specs.Class.{Exactly, AtLeast, Fixed, Multiple, AtMost, Class, Unsigned, Signed, Truth, Optional, Octets, Bytes, Headed, Many, Named, Protocol, Low, Empty, Limits, extent, length_cause, meant, written}
use Rattle.link_base.specs.Table.{Row, row_at, class_at, Rows, Leaf, LeafGives, leaf_field, leaf_payload, written_leaves, Shape, One, Nested, Addresses, Content, Table, AttrValue, of_length, Gives, addresses_from, content_payload, Fits}
use Rattle.link_base.specs.Coherent.{is_shape_of}
use Rattle.link_base.specs.Held.{IsOctets}
use Rattle.link_base.specs.WellFormed.{is_class, is_kept, are_rows, is_nested_class, has_text, rows_in, is_shape, is_row, is_table, IsOverfull}
use Rattle.link_base.proofs.Numbers.{length-bytes_of}
use Rattle.link_base.proofs.ClassLemmas.{exactly, at_most, optional_length, written_short, written-named, none_else}
use Rattle.link_base.proofs.FrameBytes.{length-frame_bytes, length-complete}
use Rattle.link_base.proofs.Readings.{ReadEach}
use Rattle.link_base.proofs.Written.{known_of}
use Rattle.link_base.proofs.Leaves.{LeafRead, no_row, a_row, leaf_read}
use Rattle.link_base.proofs.Addresses.{payloads, octets-frames, short-addresses, length-whole}
use Rattle.link_base.proofs.Contents.{Means}
use Rattle.link_base.proofs.TableLaws as tables
use Rattle.link_base.proofs.TableLaws.{AttrRead, attr_read}

-- ---- kept classes: the written payload is as long as the decoded one

-- a payload of n bytes, neither fewer nor more
whole_is : (n got : ℕ) → length_cause (Fixed n) got ≡ None → got ≡ n
whole_is n got e =
    let low = none_else (nat_lt got n) _ (TooShort n got) e in
    let high = none_else (nat_lt n got) None (WrongLength n got) low.1 in
    omega (arith, ltb-false got n low.0, ltb-false n got high.0)

-- what is written for a value of a kept class is as long as the decoded payload
kept_length : (c : Class) (p : List ℕ) → is_kept c ≡ true → length_cause (extent c) (length p) ≡ None → length (written (meant c p)) ≡ length p
kept_length (Unsigned n) p k e = omega (arith, exactly n (length p) e, length-bytes_of n (number p))
kept_length Signed p k e = omega (arith, exactly 4 (length p) e)
kept_length Truth p k e = omega (arith, exactly 1 (length p) e)
kept_length Optional p k e = optional_length p (at_most 1 (length p) e)
kept_length (Octets (Exactly n)) p k e = omega (arith, exactly n (length p) e, length-take n p)
kept_length (Octets (AtLeast n)) p k e = absurd (false≢true k)
kept_length (Octets (Fixed n)) p k e = omega (arith, whole_is n (length p) e, length-take n p)
kept_length (Octets (Multiple n)) p k e = absurd (false≢true k)
kept_length (Octets (AtMost n)) p k e = absurd (false≢true k)
kept_length Bytes p k e = refl
kept_length (Headed n) p k e = refl
kept_length (Many n) p k e = refl
kept_length (Named n listed) p k e = omega (arith, exactly n (length p) e, ap length (written-named n listed (number p)), length-bytes_of n (number p))
kept_length Protocol p k e = omega (arith, exactly 2 (length p) e)
kept_length Low p k e = omega (arith, exactly 2 (length p) e)
kept_length Empty p k e = absurd (false≢true k)
kept_length Limits p k e = absurd (false≢true k)

-- ---- rows

-- a row that is found passes the test that all rows pass
pub row_passes : {C : Type 0} (test : Row C → Bool) (least : ℕ) (rows : List (Row C)) (k : ℕ) (c : Row C) → are_rows test least rows ≡ true → row_at rows k ≡ Some c → test c ≡ true
row_passes test least [] k c h e = absurd cc
row_passes test least (r ∷ rows) k c h e =
    let first = and_parts (nat_le least r.kind) _ h in
    let second = and_parts (nat_lt r.kind 16384) _ first.1 in
    let third = and_parts (test r) (are_rows test (r.kind + 1) rows) second.1 in
    ⊎_elim
    (λ holds.
    let is : Some r ≡ Some c = sym (cond-true (r.kind == k) (Some r) (row_at rows k) holds) ∙ e in
    let same : r ≡ c = cc in
    subst (λ d. test d ≡ true) same third.0)
    (λ fails. row_passes test (r.kind + 1) rows k c third.1 (sym (cond-false (r.kind == k) (Some r) (row_at rows k) fails) ∙ e))
    (cases_Bool (r.kind == k))

-- what all rows pass by their class, that of an attribute type passes
class_passes : {C : Type 0} (test : Row C → Bool) (part : C → Bool) (least : ℕ) (rows : List (Row C)) (k : ℕ) (c : C) → ((r : Row C) → test r ≡ true → part r.class ≡ true) → are_rows test least rows ≡ true → class_at rows k ≡ Some c → part c ≡ true
class_passes test part least rows k c implies h e = by_row (row_at rows k) refl e where
  by_row : (o : Option (Row _)) → row_at rows k ≡ o → option_map (λ r. r.class) o ≡ Some c → part c ≡ true
  by_row None at is = absurd cc
  by_row (Some r) at is =
      let same : r.class ≡ c = cc in
      subst (λ d. part d ≡ true) same (implies r (row_passes test least rows k r h at))

-- the classes in a nested list are kept
abbrev AreKept : Rows → Type 0
AreKept rows = are_rows (λ r. is_nested_class r.class) 0 rows ≡ true

-- an attribute of a nested list is written with the length of the decoded one
leaf_kept : (rows : Rows) (f : ℕ) (p : List ℕ) (v : Leaf) → AreKept rows → LeafGives rows f p (Ok v) → length (leaf_payload v) ≡ length p
leaf_kept rows f p v k h = go (leaf_read (class_at rows (kind_of f)) f p v h)
  where
    -- by the way in which the value was decoded
    go : LeafRead (class_at rows (kind_of f)) f p v → length (leaf_payload v) ≡ length p
    go (no_row e is) = ap (λ w. length (leaf_payload w)) is
    go (a_row c e a is) =
        let kept = and_parts (is_class c) (is_kept c) (class_passes (λ r. is_nested_class r.class) is_nested_class 0 rows (kind_of f) c (λ r h. h) k e) in
        ap (λ w. length (leaf_payload w)) is ∙ kept_length c p kept.1 a

-- a nested list is written with the length of the decoded one, padded
list_kept : (rows : Rows) (xs : List Frame) (vs : List Leaf) → AreKept rows → AreFrames xs → ReadEach (LeafGives rows) xs vs → length (written_leaves vs) ≡ pad (length (bytes_of_frames xs))
list_kept rows [] [] k hx r = omega arith
list_kept rows [] (v ∷ vs) k hx r = absurd r
list_kept rows (x ∷ xs) [] k hx r = absurd r
list_kept rows (x ∷ []) (v ∷ []) k hx r =
    let same = leaf_kept rows x.kind_field x.payload v k r.0 in
    let y = whole (leaf_field v) (leaf_payload v) in
    omega (arith, hx.padding, length-whole (leaf_field v) (leaf_payload v), length-append (frame_bytes y) [], length-append (frame_bytes x) [], length-frame_bytes x)
list_kept rows (x ∷ []) (v ∷ w ∷ vs) k hx r = absurd r.1
list_kept rows (x ∷ y ∷ xs) (v ∷ []) k hx r = absurd r.1
list_kept rows (x ∷ y ∷ xs) (v ∷ w ∷ vs) k hx r =
    let same = leaf_kept rows x.kind_field x.payload v k r.0 in
    let z = whole (leaf_field v) (leaf_payload v) in
    let own = length-complete x hx.0 in
    let rest = list_kept rows (y ∷ xs) (w ∷ vs) k hx.1 r.1 in
    omega (arith, length-whole (leaf_field v) (leaf_payload v), length-append (frame_bytes z) (written_leaves (w ∷ vs)), length-append (frame_bytes x) (bytes_of_frames (y ∷ xs)))

-- ---- addresses

-- an element of a list of four-byte addresses takes eight bytes
four_each : (i : ℕ) (octets : List (List ℕ)) → AllByRecursion (IsOctets 4) octets → length (bytes_of_frames (addresses_from i octets)) ≡ 8 * length octets
four_each i [] h = omega arith
four_each i (a ∷ others) h =
    let size = h.0.0 in
    let rest = four_each (i + 1) others h.1 in
    omega (arith, length-whole i a, length-append (frame_bytes (whole i a)) (bytes_of_frames (addresses_from (i + 1) others)))

-- an element of a list of sixteen-byte addresses takes twenty bytes
sixteen_each : (i : ℕ) (octets : List (List ℕ)) → AllByRecursion (IsOctets 16) octets → length (bytes_of_frames (addresses_from i octets)) ≡ 20 * length octets
sixteen_each i [] h = omega arith
sixteen_each i (a ∷ others) h =
    let size = h.0.0 in
    let rest = sixteen_each (i + 1) others h.1 in
    omega (arith, length-whole i a, length-append (frame_bytes (whole i a)) (bytes_of_frames (addresses_from (i + 1) others)))

-- decoded addresses fit
addresses_fit : (n : ℕ) (p : List ℕ) (xs : List Frame) → (n == 4 || n == 16) ≡ true → IsBytes p → length p ≤ 65531 → Frames p xs
    → length (bytes_of_frames (addresses_from 0 (of_length n (payloads xs)))) ≤ 65531
addresses_fit n p xs k hp hl w =
    let octets = of_length n (payloads xs) in
    let each = octets-frames n xs (known_of p xs hp w) in
    let short = short-addresses n 0 xs w.frames in
    let len = ap length w.string in
    ⊎_elim
    (λ four. let all = four_each 0 octets (subst (λ m. AllByRecursion (IsOctets m) octets) (eqb-true n 4 four) each) in omega arith)
    (λ sixteen. let all = sixteen_each 0 octets (subst (λ m. AllByRecursion (IsOctets m) octets) (eqb-true n 16 sixteen) each) in omega arith)
    (or_cases (n == 4) (n == 16) k)

-- ---- a decoded value fits, unless it is an overfull list

-- what is written for a content does not fit if and only if the content is an overfull list
content_limit : (s : Shape) (p : List ℕ) (c : Content) → is_shape s ≡ true → IsBytes p → length p ≤ 65531 → Means s p c
    → (length (content_payload c) ≤ 65531 → ⊥) ↔ IsOverfull (Some s) p
content_limit (One k) p c sound hp hl m =
    let short = written_short k p m.0 in
    (λ h. h (omega (arith, ap (λ d. length (content_payload d)) m.1)), λ h. absurd h)
content_limit (Nested flagged rows) p c sound hp hl m =
    let len = list_kept rows m.1.frames m.0 sound m.1.string.frames m.1.values in
    let is = ap (λ d. length (content_payload d)) m.2 in
    let string = ap length m.1.string.string in
    (λ h. ⊎_elim (λ (low : length p < 65529). absurd (h (omega arith))) (λ (high : 65529 ≤ length p). high) (cases_lt (length p) 65529), λ h fit. omega arith)
content_limit (Addresses n) p c sound hp hl m =
    let fit = addresses_fit n p m.0 sound hp hl m.1 in
    (λ h. h (omega (arith, ap (λ d. length (content_payload d)) m.2)), λ h. absurd h)

-- in a well-formed table, a decoded value does not fit if and only if it is an overfull list
pub limit : (table : Table) (f : ℕ) (p : List ℕ) (v : AttrValue) → is_table table ≡ true → IsBytes p → length p ≤ 65531 → Gives table f p (Ok v)
    → ¬ (Fits v) ↔ IsOverfull (class_at table (kind_of f)) p
limit table f p v sound hp hl h = go (attr_read (class_at table (kind_of f)) f p v h)
  where
    -- by the way in which the value was decoded
    go : AttrRead (class_at table (kind_of f)) f p v → ¬ (Fits v) ↔ IsOverfull (class_at table (kind_of f)) p
    go (tables.no_row e is) =
        subst (λ o. ¬ (Fits v) ↔ IsOverfull o p) (sym e)
        (λ miss. miss (subst Fits (sym is) hl), λ over. absurd over)
    go (tables.a_row s c e m is) =
        subst (λ o. ¬ (Fits v) ↔ IsOverfull o p) (sym e)
        (subst (λ w. ¬ (Fits w) ↔ IsOverfull (Some s) p) (sym is)
        (content_limit s p c (class_passes is_row is_shape 0 table (kind_of f) s (λ r h. (and_parts (is_shape r.class) (is_shape_of r.form r.names r.class && (has_text r && list_all has_text (rows_in r.class))) h).0) sound e) hp hl m))
