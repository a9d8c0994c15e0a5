-- What entries encode to, taken apart; and lists of whole attributes.
use Rattle.std.proofs.Common.{◌≡◌, ℕ, ◌+◌, ◌<◌, ◌≤◌, ◌&&◌, Bool, true, false, cond, List, [], ◌∷◌, ◌++◌, length, take, drop, Option, None, Result, Ok, Err, refl, sym, ap}
use Rattle.std.specs.Prelude.{nat_le}
use Rattle.std.proofs.lemmas.Bool.{leb-true}
use Rattle.link_base.specs.Frame.{frame_bytes, max_payload}
use Rattle.link_base.specs.Wire.{Reading, Wire, whole}
use Rattle.link_base.specs.Table.{Table}
use Rattle.link_base.proofs.Readings.{AreFrames-cons}
use Rattle.link_base.proofs.Written.{IsComplete-whole}
use Rattle.link_entries.specs.declared.entry.Entry.{Entry}
use Rattle.link_entries.specs.declared.fields.Fields.{Fields}
use Rattle.link_entries.specs.declared.fields.Fields.TheVariants as fields
use Rattle.link_entries.specs.declared.misfit.Misfit.{Misfit}
use Rattle.link_entries.specs.declared.misfit.Misfit.TheVariants.{TooLong, BadForm, BadOctets}
use Rattle.link_entries.specs.Payload.{has_form, only_if, has_size, passed, headed, content_of, payload_of}
use Rattle.link_entries.specs.Encoded.{Encoding, alone, before, framed, fitted, element_content}
use Rattle.link_entries.proofs.RowForms.{is_list}

-- ---- tests that held

abbrev pub these : List ℕ → Result (List ℕ) Misfit
these p = Ok p

abbrev pub encodes : List ℕ → Encoding
encodes s = Ok s

pub same_these : (p q : List ℕ) → these p ≡ Ok q → p ≡ q
same_these p q e = cc

pub same_encodings : (p q : List ℕ) → encodes p ≡ Ok q → p ≡ q
same_encodings p q e = cc

pub if_held : {E : Type 0} (b : Bool) (m : E) (r : Result (List ℕ) E) (p : List ℕ) → cond b r (Err m) ≡ Ok p → (b ≡ true) × (r ≡ Ok p)
if_held true m r p e = (refl, e)
if_held false m r p e = absurd cc

pub only_held : (b : Bool) (m : Misfit) (q p : List ℕ) → only_if b m q ≡ Ok p → (b ≡ true) × (p ≡ q)
only_held b m q p e =
    let held = if_held b m (Ok q) p e in
    (held.0, sym (same_these q p held.1))

pub both_true : (a b : Bool) → (a && b) ≡ true → (a ≡ true) × (b ≡ true)
both_true true b h = (refl, h)
both_true false b h = absurd cc

-- an entry that was written has the form of its attribute type
pub form_held : (own : Fields) (e : Entry) (octets p : List ℕ) → payload_of own e octets ≡ Ok p → has_form own e ≡ true
form_held own e octets p h = (if_held (has_form own e) BadForm (content_of own e octets) p h).0

pub content_ok : (own : Fields) (e : Entry) (octets p : List ℕ) → payload_of own e octets ≡ Ok p → content_of own e octets ≡ Ok p
content_ok own e octets p h = (if_held (has_form own e) BadForm (content_of own e octets) p h).1

-- the own payload of a list is empty
pub no_bytes : (own : Fields) (e : Entry) (octets p : List ℕ) → is_list own ≡ true → payload_of own e octets ≡ Ok p → p ≡ []
no_bytes (fields.Numbers n) e octets p a h = sym (same_these [] p (content_ok (fields.Numbers n) e octets p h))
no_bytes (fields.Addresses size) e octets p a h = sym (same_these [] p (content_ok (fields.Addresses size) e octets p h))
no_bytes (fields.List flag) e octets p a h = sym (same_these [] p (content_ok (fields.List flag) e octets p h))
no_bytes own e octets p a h = absurd cc

-- what is no list has no elements
pub no_content : (table : Table) (own : Fields) (i : ℕ) (e : Entry) (octets s : List ℕ) → is_list own ≡ false → element_content table own i e octets ≡ Ok s → ⊥
no_content table (fields.Numbers n) i e octets s no_list h = cc
no_content table own i e octets s no_list h = cc

-- the bytes that were passed in
pub record WasPassed (size : Option ℕ) (e : Entry) (octets p : List ℕ) : Type 0 where
  pub sized : has_size size e ≡ true
  pub within : e.offset + e.length ≤ length octets
  pub is : p ≡ take e.length (drop e.offset octets)

pub passed_held : (size : Option ℕ) (e : Entry) (octets p : List ℕ) → passed size e octets ≡ Ok p → WasPassed size e octets p
passed_held size e octets p h =
    let fit = if_held (has_size size e && nat_le (e.offset + e.length) (length octets)) BadOctets (only_if (nat_le e.length 65531) TooLong (take e.length (drop e.offset octets))) p h in
    let tests = both_true (has_size size e) (nat_le (e.offset + e.length) (length octets)) fit.0 in
    record { sized = tests.0; within = leb-true (e.offset + e.length) (length octets) tests.1; is = (only_held (nat_le e.length 65531) TooLong (take e.length (drop e.offset octets)) p fit.1).1 }

-- those that have a header
pub record WasHeaded (e : Entry) (octets p : List ℕ) : Type 0 where
  pub least : 16 ≤ e.length
  pub all : WasPassed None e octets p

pub headed_held : (e : Entry) (octets p : List ℕ) → headed e octets ≡ Ok p → WasHeaded e octets p
headed_held e octets p h =
    let right = if_held (nat_le 16 e.length) BadOctets (passed None e octets) p h in
    record { least = leb-true 16 e.length right.0; all = passed_held None e octets p right.1 }

-- ---- encodings

pub record Both (a b : Encoding) (t : List ℕ) : Type 0 where
  pub first : List ℕ
  pub second : List ℕ
  pub is_first : a ≡ Ok first
  pub is_second : b ≡ Ok second
  pub is : t ≡ first ++ second

pub before_ok : (a b : Encoding) (t : List ℕ) → before a b ≡ Ok t → Both a b t
before_ok (Ok s) (Ok u) t e = record { first = s; second = u; is_first = refl; is_second = refl; is = cc }
before_ok (Ok s) (Err x) t e = absurd cc
before_ok (Err x) b t e = absurd cc

pub alone_ok : (r : Result (List ℕ) Misfit) (s : List ℕ) → alone r ≡ Ok s → r ≡ Ok s
alone_ok (Ok u) s e = let same : u ≡ s = cc in ap (λ t. Ok t) same
alone_ok (Err m) s e = absurd cc

-- an attribute that was framed
pub framed_ok : (f : ℕ) (r : Result (List ℕ) Misfit) (s : List ℕ) → framed f r ≡ Ok s → (p : List ℕ) × (r ≡ Ok p) × (s ≡ frame_bytes (whole f p))
framed_ok f (Ok p) s e = (p, refl, sym (same_these (frame_bytes (whole f p)) s e))
framed_ok f (Err m) s e = absurd cc

pub record Fitted (f : ℕ) (r : Encoding) (s : List ℕ) : Type 0 where
  pub payload : List ℕ
  pub is : r ≡ Ok payload
  pub short : length payload ≤ max_payload
  pub text : s ≡ frame_bytes (whole f payload)

pub fitted_ok : (f : ℕ) (r : Encoding) (s : List ℕ) → fitted f r ≡ Ok s → Fitted f r s
fitted_ok f (Ok p) s e =
    let (fits, own) = if_held (nat_le (length p) max_payload) (0, TooLong) (encodes (frame_bytes (whole f p))) s e in
    record { payload = p; is = refl; short = leb-true (length p) max_payload fits; text = sym (same_encodings (frame_bytes (whole f p)) s own) }
fitted_ok f (Err x) s e = absurd cc

-- ---- lists

pub wire_none : {V : Type 0} (gives : Reading V) → Wire gives [] []
wire_none gives = record { frames = []; string = record { frames = tt; string = refl }; values = tt }

pub wire_more : {V : Type 0} (gives : Reading V) (f : ℕ) (p t : List ℕ) (v : V) (vs : List V) → f < 65536 → length p ≤ 65531 → gives f p (Ok v) → Wire gives t vs → Wire gives (frame_bytes (whole f p) ++ t) (v ∷ vs)
wire_more gives f p t v vs kind short given w = record {
  frames = whole f p ∷ w.frames;
  string = record { frames = AreFrames-cons (whole f p) w.frames (IsComplete-whole f p kind short) w.string.frames; string = ap (λ s. frame_bytes (whole f p) ++ s) w.string.string };
  values = (given, w.values);
}
