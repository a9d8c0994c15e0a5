-- The laws of tables without lists.
use Rattle.std.proofs.Common.{◌≡◌, ◌↔◌, ℕ, ◌<◌, ◌≤◌, List, length, Option, Some, None, Result, Ok, Err, refl, sym, ap, subst, ◌∙◌, arith}
use Rattle.link_base.specs.OneForm.{leaf_form}
use Rattle.link_base.specs.Number.{IsBytes}
use Rattle.link_base.specs.declared.wire.fault.Cause.{Cause}
use Rattle.link_base.specs.Frame.{kind_of}
use Rattle.link_base.specs.Class
use Rattle.link_base.specs.Class.{Class, Value, class_value, written, extent, length_cause, meant, IsCanonicalPayload}
use Rattle.link_base.specs.Table.{Case, Other, class_at, Rows, Leaf, leaf_case, leaf_by, LeafGives, leaf_field, leaf_payload, leaf_canon, leaf_cut, leaf_allows_by, LeafAllows}
use Rattle.link_base.specs.Held.{LeafInRangeBy, LeafInRange, LeafHidesNone, LeafIsUncut}
use Rattle.link_base.specs.Lawful.{IsReading, IsHolding, IsWriting}
use Rattle.link_base.proofs.ClassLemmas.{accepted_meaning, value_of_accepted, tidy_iff, written_short}
use Rattle.link_base.proofs.Values.{meant_in_range, meant_canon, back, written_bytes, uncut_stays, cut_canonical, cut_again, length-cut}
use Rattle.link_base.proofs.Readings.{ok, same_ok}

-- ---- attribute types

-- taking the attribute type twice is taking it once
pub kind-kind : (f : ℕ) → kind_of (kind_of f) ≡ kind_of f
kind-kind f = omega arith

-- a number below 16384 is its own attribute type
pub kind_below : (k : ℕ) → k < 16384 → kind_of k ≡ k
kind_below k h = omega arith

-- ---- decoding

-- `nla_type` and a payload have one result
pub leaf_reading : (rows : Rows) → IsReading (LeafGives rows)
leaf_reading rows = record {
  decided = λ f p hf hp. (leaf_by (class_at rows (kind_of f)) f p, refl);
  one = λ f p r q a b. a ∙ sym b;
}

-- the value of a variant
case_ok : (k : ℕ) (r : Result Value Cause) (v : Leaf) → ok v ≡ leaf_case k r → (w : Value) × (r ≡ Ok w) × (v ≡ Case k w)
case_ok k (Ok w) v e = (w, refl, same_ok v (Case k w) e)
case_ok k (Err c) v e = absurd cc

-- the two ways in which a value is decoded: its attribute type has no row, or has one
pub data LeafRead (o : Option Class) (f : ℕ) (p : List ℕ) (v : Leaf) : Type 0 where
  no_row : o ≡ None → v ≡ Other f p → LeafRead o f p v
  a_row : (c : Class) → o ≡ Some c → length_cause (extent c) (length p) ≡ None → v ≡ Case (kind_of f) (meant c p) → LeafRead o f p v

-- a value was decoded in one of these ways
pub leaf_read : (o : Option Class) (f : ℕ) (p : List ℕ) (v : Leaf) → ok v ≡ leaf_by o f p → LeafRead o f p v
leaf_read None f p v e = no_row refl (same_ok v (Other f p) e)
leaf_read (Some c) f p v e =
    let read = case_ok (kind_of f) (class_value c p) v e in
    let is = accepted_meaning c p read.0 read.1 in
    a_row c refl is.0 (read.2 ∙ ap (Case (kind_of f)) is.1)

-- what a payload of a row decodes to
reads_row : (o : Option Class) (c : Class) (f : ℕ) (p : List ℕ) (w : Value) → o ≡ Some c → class_value c p ≡ Ok w → leaf_by o f p ≡ Ok (Case (kind_of f) w)
reads_row o c f p w e h = ap (λ x. leaf_by x f p) e ∙ ap (leaf_case (kind_of f)) h

-- ---- values in range

-- the row of a variant in range
in_row : (o : Option Class) (v : Value) → LeafInRangeBy o v → (c : Class) × (o ≡ Some c) × Class.IsInRange c v
in_row None v h = absurd h
in_row (Some c) v h = (c, refl, h)

-- the `nla_type` written for a value in range has 16 bits
leaf_field_below : (rows : Rows) (v : Leaf) → LeafInRange rows v → leaf_field v < 65536
leaf_field_below rows (Case k v) h = omega (arith, h.0)
leaf_field_below rows (Other f p) h = h.0

-- the payload written for a value in range consists of bytes
leaf_payload_bytes : (rows : Rows) (v : Leaf) → LeafInRange rows v → IsBytes (leaf_payload v)
leaf_payload_bytes rows (Case k v) h = let row = in_row (class_at rows k) v h.1 in written_bytes row.0 v row.2
leaf_payload_bytes rows (Other f p) h = h.1

-- what is written for a value in range decodes to its normal form, after `cut`
leaf_back : (rows : Rows) (v : Leaf) → LeafInRange rows v → LeafHidesNone rows v → LeafGives rows (leaf_field v) (leaf_payload v) (Ok (leaf_cut (leaf_canon v)))
leaf_back rows (Case k v) h none =
    let row = in_row (class_at rows k) v h.1 in
    let m = Class.cut (Class.canon v) in
    sym (reads_row (class_at rows (kind_of k)) row.0 k (written v) m (ap (class_at rows) (kind_below k h.0) ∙ row.1) (back row.0 v row.2)
    ∙ ap (λ n. ok (Case n m)) (kind_below k h.0))
leaf_back rows (Other f p) h none = sym (ap (λ o. leaf_by o f p) none)

-- `cut` leaves an uncut value and its normal form unchanged
leaf_uncut_stays : (rows : Rows) (v : Leaf) → LeafInRange rows v → LeafIsUncut v → (leaf_cut v ≡ v) × (leaf_cut (leaf_canon v) ≡ leaf_canon v)
leaf_uncut_stays rows (Case k v) h u =
    let row = in_row (class_at rows k) v h.1 in
    let stays = uncut_stays row.0 v row.2 u in
    (ap (Case k) stays.0, ap (Case k) stays.1)
leaf_uncut_stays rows (Other f p) h u = (refl, refl)

-- ---- decoded values

module _ (rows : Rows) (f : ℕ) (p : List ℕ) (v : Leaf) (hf : f < 65536) (hp : IsBytes p) (h : LeafGives rows f p (Ok v)) where
  -- what holds for a decoded `Other` and for a decoded variant holds for a decoded value
  by_case : (P : Leaf → Type 0) → (class_at rows (kind_of f) ≡ None → P (Other f p))
      → ((c : Class) → class_at rows (kind_of f) ≡ Some c → length_cause (extent c) (length p) ≡ None → P (Case (kind_of f) (meant c p))) → P v
  by_case P other row = go (leaf_read (class_at rows (kind_of f)) f p v h)
    where
      -- by the way in which the value was decoded
      go : LeafRead (class_at rows (kind_of f)) f p v → P v
      go (no_row e is) = subst P (sym is) (other e)
      go (a_row c e a is) = subst P (sym is) (row c e a)

  -- a decoded value is in range
  leaf_in_range : LeafInRange rows v
  leaf_in_range = by_case (LeafInRange rows) (λ e. (hf, hp))
      (λ c e a. (omega arith, subst (λ o. LeafInRangeBy o (meant c p)) (sym e) (meant_in_range c p hp a)))

  -- a decoded value hides none
  leaf_hides_none : LeafHidesNone rows v
  leaf_hides_none = by_case (LeafHidesNone rows) (λ e. e) (λ c e a. tt)

  -- a decoded value is its own normal form
  leaf_own : leaf_canon v ≡ v
  leaf_own = by_case (λ w. leaf_canon w ≡ w) (λ e. refl) (λ c e a. ap (Case (kind_of f)) (meant_canon c p))

  -- the attribute type of a row has the row
  same_class : (c : Class) → class_at rows (kind_of f) ≡ Some c → class_at rows (kind_of (kind_of f)) ≡ Some c
  same_class c e = ap (class_at rows) (kind-kind f) ∙ e

  -- a decoded value is written unchanged if and only if the attribute is allowed
  leaf_fixed : ((leaf_field v ≡ f) × (leaf_payload v ≡ p)) ↔ LeafAllows rows f p
  leaf_fixed = by_case (λ w. ((leaf_field w ≡ f) × (leaf_payload w ≡ p)) ↔ LeafAllows rows f p)
      (λ e. (λ same. subst (λ q. leaf_allows_by q f p) (sym e) tt, λ allowed. (refl, refl)))
      (λ c e a.
      let tidy = tidy_iff c p hp a in (
        λ same. subst (λ q. leaf_allows_by q f p) (sym e) (omega (arith, same.0), record { is_accepted = a; is_tidy = tidy.0 same.1 }),
        λ allowed.
            let is : (f < 16384) × IsCanonicalPayload c p = subst (λ q. leaf_allows_by q f p) e allowed in
            (omega (arith, is.0), tidy.1 is.1.is_tidy),
      ))

  -- a decoded value is written no longer than the input
  pub leaf_short : length (leaf_payload v) ≤ length p
  leaf_short = by_case (λ w. length (leaf_payload w) ≤ length p) (λ e. omega arith) (λ c e a. written_short c p a)

  -- after `cut`, a decoded value is written as an allowed attribute
  leaf_cut_allowed : LeafAllows rows (leaf_field (leaf_cut v)) (leaf_payload (leaf_cut v))
  leaf_cut_allowed = by_case (λ w. LeafAllows rows (leaf_field (leaf_cut w)) (leaf_payload (leaf_cut w)))
      (λ e. subst (λ q. leaf_allows_by q f p) (sym e) tt)
      (λ c e a. subst (λ q. leaf_allows_by q (kind_of f) (written (Class.cut (meant c p)))) (sym (same_class c e)) (omega arith, cut_canonical c p hp a))

  -- a second `cut` leaves a decoded value unchanged
  leaf_cut_once : leaf_cut (leaf_cut v) ≡ leaf_cut v
  leaf_cut_once = by_case (λ w. leaf_cut (leaf_cut w) ≡ leaf_cut w) (λ e. refl) (λ c e a. ap (Case (kind_of f)) (cut_again c p))

-- `cut` changes no length
pub length-leaf_cut : (v : Leaf) → length (leaf_payload (leaf_cut v)) ≡ length (leaf_payload v)
length-leaf_cut (Case k v) = length-cut v
length-leaf_cut (Other f p) = refl

-- an allowed attribute decodes to a value
allowed_value : (o : Option Class) (f : ℕ) (p : List ℕ) → leaf_allows_by o f p → (v : Leaf) × (ok v ≡ leaf_by o f p)
allowed_value None f p h = (Other f p, refl)
allowed_value (Some c) f p h = (Case (kind_of f) (meant c p), sym (ap (leaf_case (kind_of f)) (value_of_accepted c p h.1.is_accepted)))

-- ---- the laws

-- what holds for each value in range
pub leaf_holding : (rows : Rows) → IsHolding (LeafGives rows) leaf_field leaf_payload leaf_canon leaf_cut (LeafInRange rows) (LeafHidesNone rows) LeafIsUncut
leaf_holding rows = record {
  field_below = leaf_field_below rows;
  payload_bytes = leaf_payload_bytes rows;
  back = λ v h none fit. leaf_back rows v h none;
  one_form = leaf_form;
  uncut_stays = leaf_uncut_stays rows;
  read_in_range = leaf_in_range rows;
  read_hides_none = leaf_hides_none rows;
  read_own = leaf_own rows;
}

-- what holds for each decoded value, and for what is allowed
pub leaf_writing : (rows : Rows) → IsWriting (LeafGives rows) leaf_field leaf_payload leaf_cut (LeafAllows rows)
leaf_writing rows = record {
  allowed_reads = λ f p hf hp a. allowed_value (class_at rows (kind_of f)) f p a;
  allowed_stays = λ f p v hf hp h a. (leaf_fixed rows f p v hf hp h).1 a;
  stays_allowed = λ f p v hf hp hl h same. (leaf_fixed rows f p v hf hp h).0 same;
  length_bound = λ f p v hf hp h. let short = leaf_short rows f p v hf hp h in omega arith;
  cut_allowed = λ f p v hf hp h fit. leaf_cut_allowed rows f p v hf hp h;
  cut_fits = λ f p v hf hp h fit. omega (arith, fit, length-leaf_cut v);
  cut_once = λ f p v hf hp h fit. leaf_cut_once rows f p v hf hp h;
}
