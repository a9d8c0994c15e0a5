-- Attributes that are skipped, since others of their length decode.
use Rattle.std.proofs.Common.{◌≡◌, ◌≢◌, ℕ, ◌+◌, ◌≤◌, List, [], ◌∷◌, ◌++◌, length, take, drop, suc, Option, Some, None, Result, Ok, refl, sym, ap, subst, ◌∙◌, arith}
use Rattle.std.specs.List.{AllZip}
use Rattle.std.proofs.lemmas.List.{length-append, length-take}
use Rattle.link_base.specs.declared.wire.fault.Cause.{Cause}
use Rattle.link_base.specs.declared.wire.fault.DecodeFault.{DecodeFault}
use Rattle.link_base.specs.Class.{Class, Value, extent, length_cause, unless, meant}
use Rattle.link_base.specs.Number.{IsBytes}
use Rattle.link_base.specs.Frame.{Frame, BeginsWith, bare, kind_of, pad, frame_bytes, bytes_of_frames}
use Rattle.link_base.specs.Layout.{number_at}
use Rattle.link_base.specs.Wire.{Reading, FrameGives}
use Rattle.link_base.specs.Table.{Rows, Shape, One, Table, AttrValue, Other, Gives, GivesBy, class_at, single_case}
use Rattle.link_base.specs.Default.{default_table}
use Rattle.link_base.specs.Lift.{lift_table}
use Rattle.link_base.specs.Checked.{Passes, AllDecode}
use Rattle.link_base.proofs.Lifted.{lift_option, class_at-lift}
use Rattle.link_base.proofs.Checks.{accepted_one}
use Rattle.link_base.proofs.FrameBytes.{length-frame_bytes, bytes-back}
use Rattle.link_base.proofs.FrameAtFront.{Splits, begins_by, splits}
use Rattle.link_base.proofs.Streaming.{Underway, underway_none, underway_more}

-- a decoded value
abbrev ok : AttrValue → Result AttrValue DecodeFault
ok v = Ok v

-- ---- attributes that are passed

zip_length : {A B : Type 0} (P : A → B → Type 0) (xs : List A) (ys : List B) → AllZip P xs ys → length xs ≡ length ys
zip_length P [] [] h = refl
zip_length P [] (y ∷ ys) h = absurd h
zip_length P (x ∷ xs) [] h = absurd h
zip_length P (x ∷ xs) (y ∷ ys) h = ap suc (zip_length P xs ys h.1)

least : (xs : List Frame) → length xs ≤ length (bytes_of_frames xs)
least [] = omega arith
least (x ∷ xs) = omega (arith, length-append (frame_bytes x) (bytes_of_frames xs), length-frame_bytes x, least xs)

module _ {V : Type 0} (gives : Reading V) (s : List ℕ) where
  -- the values so far, with as many frames
  pub underway : (n : ℕ) (rest : List ℕ) → (h : Passes gives s n rest) → Underway gives s n rest h.0
  underway n rest (vs, b, many) = record {
    counted = record { front = b.frames; string = b.string; frames = b.all; many = many ∙ sym (zip_length (λ x v. FrameGives gives x (Ok v)) b.frames vs b.values) };
    values = b.values;
  }

  pub passes_of : (n : ℕ) (rest : List ℕ) (vs : List V) → Underway gives s n rest vs → Passes gives s n rest
  passes_of n rest vs w = (
    vs,
    record { frames = w.counted.front; string = w.counted.string; all = w.counted.frames; values = w.values },
    w.counted.many ∙ zip_length (λ x v. FrameGives gives x (Ok v)) w.counted.front vs w.values,
  )

  -- each attribute has bytes
  pub passes_few : (n : ℕ) (rest : List ℕ) → Passes gives s n rest → n + length rest ≤ length s
  passes_few n rest h =
      let w = underway n rest h in
      omega (arith, w.counted.many, least w.counted.front, ap length w.counted.string, length-append (bytes_of_frames w.counted.front) rest)

  -- what follows consists of bytes
  pub passes_bytes : (n : ℕ) (rest : List ℕ) → Passes gives s n rest → IsBytes s → IsBytes rest
  passes_bytes n rest (vs, b, many) known = bytes-back (bytes_of_frames b.frames) rest (subst IsBytes b.string known)

  -- none yet
  pub passes_none : Passes gives s 0 s
  passes_none = passes_of 0 s [] (underway_none gives s)

  -- one more
  pub passes_more : (n : ℕ) (rest next : List ℕ) (f : ℕ) (p : List ℕ) → Passes gives s n rest → rest ≢ [] → Splits rest f p next → (v : V) × gives f p (Ok v) → Passes gives s (n + 1) next
  passes_more n rest next f p h some split given = passes_of (n + 1) next (h.0 ++ given.0 ∷ []) (underway_more gives s n rest next h.0 f p given.0 (underway n rest h) some split given.1)

-- ---- attributes that show that others decode

by_cause : (o : Option Cause) (k : ℕ) (w : Value) (v : AttrValue) → ok v ≡ single_case k (unless o w) → o ≡ None
by_cause None k w v e = refl
by_cause (Some c) k w v e = absurd cc

-- no list
abbrev pub IsNoList : Option Shape → Type 0
IsNoList None = Unit {0}
IsNoList (Some (One c)) = Unit {0}
IsNoList (Some shape) = ⊥

all_decoded_by : (o : Option Shape) (f : ℕ) (p : List ℕ) → IsNoList o → (v : AttrValue) × GivesBy o f p (Ok v)
    → (q : List ℕ) → length q ≡ length p → (v : AttrValue) × GivesBy o f q (Ok v)
all_decoded_by None f p h given q same = (Other f q, refl)
all_decoded_by (Some (One c)) f p h given q same = accepted_one c (kind_of f) q (ap (λ n. length_cause (extent c) n) same ∙ by_cause (length_cause (extent c) (length p)) (kind_of f) (meant c p) given.0 given.1)
all_decoded_by (Some shape) f p h given q same = absurd h

-- if an attribute decodes and is no list, those of its type and length decode
pub all_decoded : (table : Table) (f : ℕ) (p : List ℕ) → IsNoList (class_at table (kind_of f)) → (v : AttrValue) × Gives table f p (Ok v) → AllDecode (Gives table) f (length p)
all_decoded table f p h given q same = all_decoded_by (class_at table (kind_of f)) f p h given q same

no_lists : (o : Option Class) → IsNoList (lift_option o)
no_lists None = tt
no_lists (Some c) = tt

-- so does any that decodes, in a table without lists
pub leaves_decode : (table : Table) (rows : Rows) (f : ℕ) (p : List ℕ) → table ≡ lift_table rows → (v : AttrValue) × Gives table f p (Ok v) → AllDecode (Gives table) f (length p)
leaves_decode table rows f p is given =
    let known : class_at table (kind_of f) ≡ lift_option (class_at rows (kind_of f)) = ap (λ t. class_at t (kind_of f)) is ∙ class_at-lift rows (kind_of f) in
    all_decoded table f p (subst IsNoList (sym known) (no_lists (class_at rows (kind_of f)))) given

-- any attribute without a row decodes
pub elements_decode_all : (f n : ℕ) → AllDecode (Gives default_table) f n
elements_decode_all f n p same = (Other f p, refl)

-- ---- attributes of one length

-- bytes that start with a header, and are long enough for its attribute
pub alike_splits : (s : List ℕ) (n : ℕ) → IsBytes s → number_at 2 0 s ≡ 4 + n → pad (4 + n) ≤ length s
    → Splits s (number_at 2 2 s) (take n (drop 4 s)) (drop (pad (4 + n)) s)
alike_splits [] n h stated room = absurd (omega arith)
alike_splits (a ∷ []) n h stated room = absurd (omega arith)
alike_splits (a ∷ b ∷ []) n h stated room = absurd (omega arith)
alike_splits (a ∷ b ∷ c ∷ []) n h stated room = absurd (omega arith)
alike_splits (a ∷ b ∷ c ∷ d ∷ body) n h stated room =
    let s = a ∷ b ∷ c ∷ d ∷ body in
    let p = take n body in
    let f = number_at 2 2 s in
    let len : length p ≡ n = omega (arith, length-take n body) in
    let begins = begins_by a b c d body (4 + n) f h.0 h.1.0 h.1.1.0 h.1.1.1.0 (omega (arith, stated)) (omega arith) (omega arith) (omega arith) in
    subst (Splits s f p) (ap (λ i. drop i s) (omega (arith, len))) (splits s f p (subst (λ m. BeginsWith s (bare f (take m body))) (omega arith) begins))
