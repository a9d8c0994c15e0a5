-- Checks: a length that is accepted or rejected; a list that is checked one attribute at a time; lists in payloads.
use Rattle.std.proofs.Common.{◌≡◌, ℕ, ◌%◌, Bool, List, [], ◌∷◌, length, map, None, Some, Ok, Err, refl, sym, ap, ◌∙◌, inl, inr}
use Rattle.std.specs.List.{AllZip, AllByRecursion}
use Rattle.link_base.specs.declared.wire.fault.Cause.{Cause}
use Rattle.link_base.specs.declared.wire.fault.DecodeFault.{DecodeFault}
use Rattle.link_base.specs.declared.wire.fault.DecodeFault.TheVariants as faults
use Rattle.link_base.specs.Class.{Extent, Multiple, Class, length_cause, unless, extent, meant}
use Rattle.link_base.specs.Frame.{Frame}
use Rattle.link_base.specs.Wire.{Wire, FirstFault, FaultsHere, FrameGives}
use Rattle.link_base.specs.Table.{Rows, Case, Single, Inner, Listed, Table, AttrValue, Gives, LeafGives, ListGives, PayloadGives, One, Addresses, ShapeGives, single_case, nested_fault, of_length}
use Rattle.link_base.specs.Lift.{lift_table}
use Rattle.link_base.specs.Default.{default_table}
use Rattle.link_base.proofs.Lifted.{nested_values, leaves_of}

-- ---- one payload

pub accepted_one : (c : Class) (k : ℕ) (p : List ℕ) → length_cause (extent c) (length p) ≡ None → (v : AttrValue) × ShapeGives (One c) k p (Ok v)
accepted_one c k p h = (Case k (Single (meant c p)), ap (λ o. single_case k (unless o (meant c p))) (sym h))

pub rejected_one : (c : Class) (k : ℕ) (p : List ℕ) (cause : Cause) → length_cause (extent c) (length p) ≡ Some cause → ShapeGives (One c) k p (Err (faults.Value k cause))
rejected_one c k p cause h = ap (λ o. single_case k (unless o (meant c p))) (sym h)

-- a length that an extent accepts or rejects is one that the class with this extent accepts or rejects
module _ (e : Extent) (k : ℕ) (p : List ℕ) (ok : length_cause e (length p) ≡ None) where
  pub accepted_by : (c : Class) → e ≡ extent c → (v : AttrValue) × ShapeGives (One c) k p (Ok v)
  accepted_by c same = accepted_one c k p (ap (λ x. length_cause x (length p)) (sym same) ∙ ok)

module _ (e : Extent) (k : ℕ) (p : List ℕ) (cause : Cause) (bad : length_cause e (length p) ≡ Some cause) where
  pub rejected_by : (c : Class) → e ≡ extent c → ShapeGives (One c) k p (Err (faults.Value k cause))
  rejected_by c same = rejected_one c k p cause (ap (λ x. length_cause x (length p)) (sym same) ∙ bad)

pub multiple_accepted : (n got : ℕ) → got % n ≡ 0 → length_cause (Multiple n) got ≡ None
multiple_accepted n got h = rw h refl

-- ---- lists in payloads

-- elements that decode to values, as the values of a nested list
pub nested_checked : (table : Table) (rows : Rows) (flagged : Bool) (k : ℕ) (s : List ℕ) (ms : List AttrValue) → table ≡ lift_table rows → Wire (Gives table) s ms
    → (v : AttrValue) × ListGives (LeafGives rows) (Inner flagged) k s (Ok v)
nested_checked table rows flagged k s ms e w =
    let leaves = leaves_of table rows s ms e w in
    (Case k (Inner flagged leaves.0), nested_values table rows flagged k s ms leaves.0 e leaves.1 w)

-- frames, each with its payload
payload_zip : (xs : List Frame) → AllZip (λ x p. FrameGives PayloadGives x (Ok p)) xs (map (λ x. x.payload) xs)
payload_zip [] = tt
payload_zip (x ∷ xs) = (refl, payload_zip xs)

payload_all : (xs : List Frame) → AllByRecursion (λ x. (p : List ℕ) × FrameGives PayloadGives x (Ok p)) xs
payload_all [] = tt
payload_all (x ∷ xs) = ((x.payload, refl), payload_all xs)

-- whole elements, as those of a list of addresses
pub elements_checked : (n k : ℕ) (s : List ℕ) (vs : List AttrValue) → Wire (Gives default_table) s vs → (v : AttrValue) × ShapeGives (Addresses n) k s (Ok v)
elements_checked n k s vs w =
    let payloads = map (λ x. x.payload) w.frames in
    (Case k (Listed (of_length n payloads)), (Ok payloads, record { frames = w.frames; string = w.string; values = payload_zip w.frames }, refl))

payload_here : (r : List ℕ) (fault : DecodeFault) → FaultsHere (Gives default_table) r fault → FaultsHere PayloadGives r fault
payload_here r fault (inl h) = inl h
payload_here r fault (inr h) = absurd cc

-- the first malformed header, as the error of a list of addresses
pub elements_rejected : (n k : ℕ) (s : List ℕ) (at : ℕ) (fault : DecodeFault) → FirstFault (Gives default_table) s at fault → ShapeGives (Addresses n) k s (Err (nested_fault k fault))
elements_rejected n k s at fault h = (
  Err (at, fault),
  record {
    front = h.front;
    rest = h.rest;
    string = h.string;
    complete = h.complete;
    values = payload_all h.front;
    some = h.some;
    offset = h.offset;
    here = payload_here h.rest fault h.here;
  },
  refl,
)
