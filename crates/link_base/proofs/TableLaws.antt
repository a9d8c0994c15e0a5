-- The laws of tables with lists: every table is lawful.
use Rattle.std.proofs.Common.{◌≡◌, ℕ, ◌+◌, ◌<◌, ◌≤◌, true, false, List, length, Option, Some, None, Result, Ok, refl, sym, ap, subst, ◌∙◌, arith}
use Rattle.link_base.specs.OneForm.{attr_form}
use Rattle.link_base.specs.Number.{IsBytes}
use Rattle.link_base.specs.declared.wire.fault.DecodeFault.{DecodeFault}
use Rattle.link_base.specs.Frame.{kind_of, pad}
use Rattle.link_base.specs.Table.{Case, Other, class_at, Shape, One, Nested, Addresses, Content, Table, AttrValue, ShapeGives, GivesBy, Gives, content_flag, content_payload, written_kind, written_payload, Fits, content_canon, canon, content_cut, cut, IsCanonicalContent, shape_flag, allows_by, Allows}
use Rattle.link_base.specs.Held.{ContentInRange, ContentHidesNone, InRangeBy, IsInRange, HidesNoneBy, HidesNone, AttrIsUncut}
use Rattle.link_base.specs.Lawful.{IsReading, IsHolding, IsWriting, IsLawful}
use Rattle.link_base.proofs.Readings.{same_ok}
use Rattle.link_base.proofs.Leaves.{kind_below}
use Rattle.link_base.proofs.Contents.{shape_decided, shape_one, Means, content_of, content_given, content_bytes, content_flagged, content_back, content_uncut_stays, read_content, content_stays, content_allowed, content_reads, content_length, content_cut_allowed, content_cut_flag, length-content_cut, content_cut_once}

-- ---- decoding

-- an attribute has a result
decided_by : (o : Option Shape) (f : ℕ) (p : List ℕ) → IsBytes p → (r : Result AttrValue DecodeFault) × GivesBy o f p r
decided_by None f p hp = (Ok (Other f p), refl)
decided_by (Some s) f p hp = shape_decided s (kind_of f) p hp

-- an attribute has one result only
one_by : (o : Option Shape) (f : ℕ) (p : List ℕ) (r q : Result AttrValue DecodeFault) → GivesBy o f p r → GivesBy o f p q → r ≡ q
one_by None f p r q a b = a ∙ sym b
one_by (Some s) f p r q a b = shape_one s (kind_of f) p r q a b

-- `nla_type` and a payload have one result
table_reading : (table : Table) → IsReading (Gives table)
table_reading table = record {
  decided = λ f p hf hp. decided_by (class_at table (kind_of f)) f p hp;
  one = λ f p r q a b. one_by (class_at table (kind_of f)) f p r q a b;
}

-- the two ways in which a value is decoded: its attribute type has no row, or has one
pub data AttrRead (o : Option Shape) (f : ℕ) (p : List ℕ) (v : AttrValue) : Type 0 where
  no_row : o ≡ None → v ≡ Other f p → AttrRead o f p v
  a_row : (s : Shape) (c : Content) → o ≡ Some s → Means s p c → v ≡ Case (kind_of f) c → AttrRead o f p v

-- a value was decoded in one of these ways
pub attr_read : (o : Option Shape) (f : ℕ) (p : List ℕ) (v : AttrValue) → GivesBy o f p (Ok v) → AttrRead o f p v
attr_read None f p v h = no_row refl (same_ok v (Other f p) h)
attr_read (Some s) f p v h = let all = content_of s (kind_of f) p v h in a_row s all.0 refl all.1 all.2

-- ---- `nla_type`

-- an attribute type with a flag has this attribute type
kind-flagged : (f : ℕ) (s : Shape) → kind_of (kind_of f + shape_flag s) ≡ kind_of f
kind-flagged f (One k) = omega arith
kind-flagged f (Nested true rows) = omega arith
kind-flagged f (Nested false rows) = omega arith
kind-flagged f (Addresses n) = omega arith

-- an attribute type with a flag is an `nla_type`
flagged_below : (f : ℕ) (s : Shape) → kind_of f + shape_flag s < 65536
flagged_below f (One k) = omega arith
flagged_below f (Nested true rows) = omega arith
flagged_below f (Nested false rows) = omega arith
flagged_below f (Addresses n) = omega arith

-- ---- values in range

-- the row of a variant in range
in_row : (o : Option Shape) (c : Content) → InRangeBy o c → (s : Shape) × (o ≡ Some s) × ContentInRange s c
in_row None c h = absurd h
in_row (Some s) c h = (s, refl, h)

-- the `nla_type` written for a value in range has 16 bits
attr_field_below : (table : Table) (v : AttrValue) → IsInRange table v → written_kind v < 65536
attr_field_below table (Case k c) h =
    let row = in_row (class_at table k) c h.1 in
    subst (λ n. n < 65536) (ap (λ n. n + shape_flag row.0) (kind_below k h.0) ∙ ap (λ n. k + n) (sym (content_flagged row.0 c row.2))) (flagged_below k row.0)
attr_field_below table (Other f p) h = h.0

-- the payload written for a value in range consists of bytes
attr_payload_bytes : (table : Table) (v : AttrValue) → IsInRange table v → IsBytes (written_payload v)
attr_payload_bytes table (Case k c) h = let row = in_row (class_at table k) c h.1 in content_bytes row.0 c row.2
attr_payload_bytes table (Other f p) h = h.1

-- the written `nla_type` has the attribute type
kind-written : (k : ℕ) (s : Shape) (c : Content) → k < 16384 → content_flag c ≡ shape_flag s → kind_of (k + content_flag c) ≡ k
kind-written k s c h flag =
    ap (λ n. kind_of (k + n)) flag ∙ ap (λ n. kind_of (n + shape_flag s)) (sym (kind_below k h)) ∙ kind-flagged k s ∙ kind_below k h

-- what is written for a value in range decodes to its normal form, after `cut`
attr_back : (table : Table) (v : AttrValue) → IsInRange table v → HidesNone table v → Fits v → Gives table (written_kind v) (written_payload v) (Ok (cut (canon v)))
attr_back table (Case k c) h none fit =
    let row = in_row (class_at table k) c h.1 in
    let s = row.0 in
    let f = k + content_flag c in
    let d = content_cut (content_canon c) in
    let kind : kind_of f ≡ k = kind-written k s c h.0 (content_flagged s c row.2) in
    let hides : ContentHidesNone s c = subst (λ o. HidesNoneBy o c) row.1 none in
    subst (λ o. GivesBy o f (content_payload c) (Ok (Case k d))) (sym (ap (class_at table) kind ∙ row.1))
    (subst (λ n. ShapeGives s (kind_of f) (content_payload c) (Ok (Case n d))) kind
    (content_given s (kind_of f) (content_payload c) d (content_back s c row.2 hides fit)))
attr_back table (Other f p) h none fit = subst (λ o. GivesBy o f p (Ok (Other f p))) (sym none) refl

-- `cut` leaves an uncut value and its normal form unchanged
attr_uncut_stays : (table : Table) (v : AttrValue) → IsInRange table v → AttrIsUncut v → (cut v ≡ v) × (cut (canon v) ≡ canon v)
attr_uncut_stays table (Case k c) h u =
    let row = in_row (class_at table k) c h.1 in
    let stays = content_uncut_stays row.0 c row.2 u in
    (ap (Case k) stays.0, ap (Case k) stays.1)
attr_uncut_stays table (Other f p) h u = (refl, refl)

-- ---- decoded values

module _ (table : Table) (f : ℕ) (p : List ℕ) (v : AttrValue) (hf : f < 65536) (hp : IsBytes p) (h : Gives table f p (Ok v)) where
  -- what holds for a decoded `Other` and for a decoded variant holds for a decoded value
  by_case : (P : AttrValue → Type 0) → (class_at table (kind_of f) ≡ None → P (Other f p))
      → ((s : Shape) (c : Content) → class_at table (kind_of f) ≡ Some s → Means s p c → P (Case (kind_of f) c)) → P v
  by_case P other row = go (attr_read (class_at table (kind_of f)) f p v h)
    where
      -- by the way in which the value was decoded
      go : AttrRead (class_at table (kind_of f)) f p v → P v
      go (no_row e is) = subst P (sym is) (other e)
      go (a_row s c e m is) = subst P (sym is) (row s c e m)

  -- a decoded value is in range
  attr_in_range : IsInRange table v
  attr_in_range = by_case (IsInRange table) (λ e. (hf, hp))
      (λ s c e m. (omega arith, subst (λ o. InRangeBy o c) (sym e) (read_content s p c hp m).in_range))

  -- a decoded value hides none
  attr_hides_none : HidesNone table v
  attr_hides_none = by_case (HidesNone table) (λ e. e)
      (λ s c e m. subst (λ o. HidesNoneBy o c) (sym e) (read_content s p c hp m).hides_none)

  -- a decoded value is its own normal form
  attr_own : canon v ≡ v
  attr_own = by_case (λ w. canon w ≡ w) (λ e. refl) (λ s c e m. ap (Case (kind_of f)) (read_content s p c hp m).own)

  -- the flag of a decoded content is that of the row
  flag_is : (s : Shape) (c : Content) → Means s p c → content_flag c ≡ shape_flag s
  flag_is s c m = content_flagged s c (read_content s p c hp m).in_range

  -- a decoded value is written unchanged if the attribute is allowed
  attr_stays : Allows table f p → (written_kind v ≡ f) × (written_payload v ≡ p)
  attr_stays = by_case (λ w. Allows table f p → (written_kind w ≡ f) × (written_payload w ≡ p))
      (λ e allowed. (refl, refl))
      (λ s c e m allowed.
      let is : (f ≡ kind_of f + shape_flag s) × IsCanonicalContent s p = subst (λ o. allows_by o f p) e allowed in
      (ap (λ n. kind_of f + n) (flag_is s c m) ∙ sym is.0, content_stays s p c hp m is.1))

  -- the attribute is allowed if the value is written unchanged
  attr_allowed : length p ≤ 65531 → (written_kind v ≡ f) × (written_payload v ≡ p) → Allows table f p
  attr_allowed hl = by_case (λ w. (written_kind w ≡ f) × (written_payload w ≡ p) → Allows table f p)
      (λ e same. subst (λ o. allows_by o f p) (sym e) tt)
      (λ s c e m same. subst (λ o. allows_by o f p) (sym e) (sym same.0 ∙ ap (λ n. kind_of f + n) (flag_is s c m), content_allowed s p c hp hl m same.1))

  -- a decoded value is written no longer than the input, rounded up to a multiple of four
  attr_length : length (written_payload v) ≤ pad (length p)
  attr_length = by_case (λ w. length (written_payload w) ≤ pad (length p)) (λ e. omega arith) (λ s c e m. content_length s p c hp m)

  -- after `cut`, a decoded value is written as an allowed attribute
  attr_cut_allowed : length (written_payload v) ≤ 65531 → Allows table (written_kind (cut v)) (written_payload (cut v))
  attr_cut_allowed = by_case (λ w. length (written_payload w) ≤ 65531 → Allows table (written_kind (cut w)) (written_payload (cut w)))
      (λ e fit. subst (λ o. allows_by o f p) (sym e) tt)
      (λ s c e m fit.
      let d = content_cut c in
      let flag : content_flag d ≡ shape_flag s = content_cut_flag c ∙ flag_is s c m in
      let k = kind_of f in
      let kind : kind_of (k + content_flag d) ≡ k = kind-written k s d (omega arith) flag in
      subst (λ o. allows_by o (k + content_flag d) (content_payload d)) (sym (ap (class_at table) kind ∙ e)) (
        ap (λ n. k + n) flag ∙ ap (λ n. n + shape_flag s) (sym kind),
        content_cut_allowed s p c hp m fit,
      ))

  -- a second `cut` leaves a decoded value unchanged
  attr_cut_once : cut (cut v) ≡ cut v
  attr_cut_once = by_case (λ w. cut (cut w) ≡ cut w) (λ e. refl) (λ s c e m. ap (Case (kind_of f)) (content_cut_once s p c hp m))

-- `cut` changes no length
length-attr_cut : (v : AttrValue) → length (written_payload (cut v)) ≡ length (written_payload v)
length-attr_cut (Case k c) = length-content_cut c
length-attr_cut (Other f p) = refl

-- an allowed attribute decodes to a value
allowed_by : (o : Option Shape) (f : ℕ) (p : List ℕ) → IsBytes p → allows_by o f p → (v : AttrValue) × GivesBy o f p (Ok v)
allowed_by None f p hp a = (Other f p, refl)
allowed_by (Some s) f p hp a =
    let all = content_reads s p hp a.1 in
    (Case (kind_of f) all.0, content_given s (kind_of f) p all.0 all.1)

-- ---- the laws

-- what holds for each value in range
table_holding : (table : Table) → IsHolding (Gives table) written_kind written_payload canon cut (IsInRange table) (HidesNone table) AttrIsUncut
table_holding table = record {
  field_below = attr_field_below table;
  payload_bytes = attr_payload_bytes table;
  back = attr_back table;
  one_form = attr_form;
  uncut_stays = attr_uncut_stays table;
  read_in_range = attr_in_range table;
  read_hides_none = attr_hides_none table;
  read_own = attr_own table;
}

-- what holds for each decoded value, and for what is allowed
table_writing : (table : Table) → IsWriting (Gives table) written_kind written_payload cut (Allows table)
table_writing table = record {
  allowed_reads = λ f p hf hp a. allowed_by (class_at table (kind_of f)) f p hp a;
  allowed_stays = attr_stays table;
  stays_allowed = λ f p v hf hp hl h same. attr_allowed table f p v hf hp h hl same;
  length_bound = attr_length table;
  cut_allowed = attr_cut_allowed table;
  cut_fits = λ f p v hf hp h fit. omega (arith, fit, length-attr_cut v);
  cut_once = λ f p v hf hp h fit. attr_cut_once table f p v hf hp h;
}

-- every table is lawful
pub lawful : (table : Table) → IsLawful table
lawful table = record { reading = table_reading table; holding = table_holding table; writing = table_writing table }
