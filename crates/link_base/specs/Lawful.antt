-- The laws of one attribute, from which the laws of lists are proved.
use Rattle.std.specs.Prelude.{◌≡◌, ℕ, ◌<◌, ◌≤◌, List, length, Result, Ok}
use Rattle.link_base.specs.Number.{IsBytes}
use Rattle.link_base.specs.Frame.{pad, max_payload}
use Rattle.link_base.specs.declared.wire.fault.DecodeFault.{DecodeFault}
use Rattle.link_base.specs.Wire.{Reading, FitsBy}
use Rattle.link_base.specs.Table.{Table, Gives, written_kind, written_payload, canon, cut, Allows}
use Rattle.link_base.specs.Held.{IsInRange, HidesNone, AttrIsUncut}

-- each `nla_type` and payload decode to exactly one value, or have exactly one error
pub record IsReading {V : Type 0} (gives : Reading V) : Type 0 where
  pub decided : (f : ℕ) (p : List ℕ) → f < 65536 → IsBytes p → (r : Result V DecodeFault) × gives f p r
  pub one : (f : ℕ) (p : List ℕ) (r q : Result V DecodeFault) → gives f p r → gives f p q → r ≡ q

-- what holds for the values that a program can hold
pub record IsHolding {V : Type 0} (gives : Reading V) (field : V → ℕ) (payload : V → List ℕ) (canon cut : V → V) (in_range hides_none uncut : V → Type 0) : Type 0 where
  -- the written `nla_type` has 16 bits, and the written payload consists of bytes
  pub field_below : (v : V) → in_range v → field v < 65536
  pub payload_bytes : (v : V) → in_range v → IsBytes (payload v)
  -- if a value fits and hides none, what is written decodes to its normal form (`canon`), after `cut`
  pub back : (v : V) → in_range v → hides_none v → FitsBy payload v → gives (field v) (payload v) (Ok (cut (canon v)))
  -- a value and its normal form are written in the same way
  pub one_form : (v : V) → (field (canon v) ≡ field v) × (payload (canon v) ≡ payload v)
  -- `cut` leaves an uncut value and its normal form unchanged
  pub uncut_stays : (v : V) → in_range v → uncut v → (cut v ≡ v) × (cut (canon v) ≡ canon v)
  -- a decoded value is in range, hides none, and is its own normal form
  pub read_in_range : (f : ℕ) (p : List ℕ) (v : V) → f < 65536 → IsBytes p → gives f p (Ok v) → in_range v
  pub read_hides_none : (f : ℕ) (p : List ℕ) (v : V) → f < 65536 → IsBytes p → gives f p (Ok v) → hides_none v
  pub read_own : (f : ℕ) (p : List ℕ) (v : V) → f < 65536 → IsBytes p → gives f p (Ok v) → canon v ≡ v

-- what holds for decoded values, and for canonical attributes
pub record IsWriting {V : Type 0} (gives : Reading V) (field : V → ℕ) (payload : V → List ℕ) (cut : V → V) (allows : ℕ → List ℕ → Type 0) : Type 0 where
  -- a canonical attribute decodes to a value
  pub allowed_reads : (f : ℕ) (p : List ℕ) → f < 65536 → IsBytes p → allows f p → (v : V) × gives f p (Ok v)
  -- the value of a canonical attribute is written as the same `nla_type` and payload
  pub allowed_stays : (f : ℕ) (p : List ℕ) (v : V) → f < 65536 → IsBytes p → gives f p (Ok v) → allows f p → (field v ≡ f) × (payload v ≡ p)
  -- an attribute whose value is written as the same `nla_type` and payload is canonical; the bound is that of a
  -- payload, and address lists need one
  pub stays_allowed : (f : ℕ) (p : List ℕ) (v : V) → f < 65536 → IsBytes p → length p ≤ max_payload → gives f p (Ok v) → (field v ≡ f) × (payload v ≡ p) → allows f p
  -- the written payload of a decoded value is no longer than the input, rounded up to a multiple of four
  pub length_bound : (f : ℕ) (p : List ℕ) (v : V) → f < 65536 → IsBytes p → gives f p (Ok v) → length (payload v) ≤ pad (length p)
  -- after `cut`, a decoded value that fits is written canonically, it fits, and a second `cut` leaves it unchanged
  pub cut_allowed : (f : ℕ) (p : List ℕ) (v : V) → f < 65536 → IsBytes p → gives f p (Ok v) → FitsBy payload v → allows (field (cut v)) (payload (cut v))
  pub cut_fits : (f : ℕ) (p : List ℕ) (v : V) → f < 65536 → IsBytes p → gives f p (Ok v) → FitsBy payload v → FitsBy payload (cut v)
  pub cut_once : (f : ℕ) (p : List ℕ) (v : V) → f < 65536 → IsBytes p → gives f p (Ok v) → FitsBy payload v → cut (cut v) ≡ cut v

-- the laws of the attributes of a table
pub record IsLawful (table : Table) : Type 0 where
  pub reading : IsReading (Gives table)
  pub holding : IsHolding (Gives table) written_kind written_payload canon cut (IsInRange table) (HidesNone table) AttrIsUncut
  pub writing : IsWriting (Gives table) written_kind written_payload cut (Allows table)
