-- The first error of a list is an error that a struct has numbers for.
use Rattle.std.proofs.Common.{◌≡◌, inl, inr, ℕ, ◌%◌, ◌<◌, ◌==◌, nat_lt, List, [], ◌∷◌, length, take, Option, Some, None, Result, Ok, Err, sym, subst, arith}
use Rattle.std.specs.Option.{IfSome}
use Rattle.std.proofs.lemmas.Bool.{cond_both}
use Rattle.std.proofs.Math.Nat.{mod-lt}
use Rattle.link_base.specs.declared.wire.fault.Cause.{Cause}
use Rattle.link_base.specs.declared.wire.fault.Cause.TheVariants.{ShortFrame, SmallLength, Overrun, WrongLength, TooShort}
use Rattle.link_base.specs.declared.wire.fault.Cause.TheVariants as causes
use Rattle.link_base.specs.declared.wire.fault.DecodeFault.{DecodeFault}
use Rattle.link_base.specs.declared.wire.fault.DecodeFault.TheVariants as faults
use Rattle.link_base.specs.Number.{IsBytes, number}
use Rattle.link_base.specs.Frame.{frame_fault, kind_of, bytes_of_frames}
use Rattle.link_base.specs.Class.{Class, Value, Extent, Exactly, AtLeast, Fixed, Multiple, AtMost, extent, length_cause, unless, meant}
use Rattle.link_base.specs.Wire.{Reading, FaultsHere, FirstFault}
use Rattle.link_base.specs.Table.{Shape, One, Nested, Addresses, Table, class_at, leaf_case, leaf_by, LeafGives, nested_fault, PayloadGives, single_case, GivesBy, Gives}
use Rattle.link_base.proofs.FrameBytes.{bytes-back, bytes-payload}
use Rattle.netlink_packet_route.specs.declared.family.Family.{Family}
use Rattle.netlink_packet_route.specs.Family.{table_of}
use Rattle.nlroute_ffi.specs.declared.fault.FirstError.{FirstError}
use Rattle.nlroute_ffi.specs.declared.refusal.Refusal.{Refusal}
use Rattle.nlroute_ffi.specs.declared.refusal.Refusal.TheVariants.{BadForm}
use Rattle.nlroute_ffi.specs.Error.{ErrorAnswers}
use Rattle.nlroute_ffi.specs.ErrorText.{CauseFits, CauseOccurs, IsListFault, FaultOccurs, fault_of, ErrorTextBy, ErrorTextAnswers}
use Rattle.nlroute_ffi.proofs.ErrorTexts.{error_found}

-- ---- causes

-- the cause, if there is one, occurs
abbrev Occurs : Option Cause → Type 0
Occurs o = IfSome o (λ c. CauseOccurs c)

-- the cause of a wrong length has no `nla_len`
length_fits : (e : Extent) (got : ℕ) → Occurs (length_cause e got)
length_fits (Exactly n) got = cond_both (got == n) None (Some (WrongLength n got)) Occurs (λ e. tt) (λ e. tt)
length_fits (AtLeast n) got = cond_both (nat_lt got n) (Some (TooShort n got)) None Occurs (λ e. tt) (λ e. tt)
length_fits (Fixed n) got = cond_both (nat_lt got n) (Some (TooShort n got)) _ Occurs (λ e. tt) (λ e. cond_both (nat_lt n got) (Some (WrongLength n got)) None Occurs (λ e. tt) (λ e. tt))
length_fits (Multiple n) got = cond_both (got % n == 0) None (Some (WrongLength n got)) Occurs (λ e. tt) (λ e. tt)
length_fits (AtMost n) got = cond_both (nat_lt n got) (Some (WrongLength n got)) None Occurs (λ e. tt) (λ e. tt)

-- the length in a header has 16 bits
stated_fits : (r : List ℕ) → IsBytes r → number (take 2 r) < 65536
stated_fits [] h = omega arith
stated_fits (a ∷ []) h = omega (arith, h.0)
stated_fits (a ∷ b ∷ r) h = omega (arith, h.0, h.1.0)

header_fits : (r : List ℕ) → IsBytes r → Occurs (frame_fault r)
header_fits r bytes =
    let stated = number (take 2 r) in
    let low = stated_fits r bytes in
    cond_both (nat_lt (length r) 4) (Some (ShortFrame (length r))) _ Occurs (λ e. tt)
    (λ e. cond_both (nat_lt stated 4) (Some (SmallLength stated)) _ Occurs (λ e. low)
    (λ e. cond_both (nat_lt (length r) stated) (Some (Overrun stated (length r))) None Occurs (λ e. low) (λ e. tt)))

-- ---- lists, for any way to decode one attribute

module _ {V : Type 0} (gives : Reading V) (P : DecodeFault → Type 0) (framed : (c : Cause) → CauseOccurs c → P (faults.Frame c)) (valued : (f : ℕ) (p : List ℕ) (fault : DecodeFault) → IsBytes p → gives f p (Err fault) → P fault) where
  here : (r : List ℕ) (fault : DecodeFault) → IsBytes r → FaultsHere gives r fault → P fault
  here r fault bytes (inl (c, is, same)) = subst P (sym same) (framed c (subst Occurs is (header_fits r bytes)))
  here r fault bytes (inr (x, begins, given)) = valued x.kind_field x.payload fault (bytes-payload x begins.rest (subst IsBytes begins.string bytes)) given

  pub first_fits : (s : List ℕ) (at : ℕ) (fault : DecodeFault) → IsBytes s → FirstFault gives s at fault → P fault
  first_fits s at fault bytes h = here h.rest fault (bytes-back (bytes_of_frames h.front) h.rest (subst IsBytes h.string bytes)) h.here

-- ---- attributes

-- an error in a list of elements
abbrev IsElementFault : DecodeFault → Type 0
IsElementFault (faults.Frame c) = CauseOccurs c
IsElementFault (faults.Value k c) = (k < 65536) × CauseOccurs c
IsElementFault fault = ⊥

kind_fits : (f : ℕ) → kind_of f < 65536
kind_fits f = let low : f % 16384 < 16384 = mod-lt f (omega arith) in omega (arith, low)

-- the error of a payload of one class
leaf_one : (o : Option Cause) (v : Value) (k : ℕ) (fault : DecodeFault) → k < 65536 → Occurs o → Err fault ≡ leaf_case k (unless o v) → IsElementFault fault
leaf_one None v k fault low h e = absurd cc
leaf_one (Some c) v k fault low h e = let same : faults.Value k c ≡ fault = cc in subst IsElementFault same (low, h)

single_one : (o : Option Cause) (v : Value) (k : ℕ) (fault : DecodeFault) → k < 65536 → Occurs o → Err fault ≡ single_case k (unless o v) → FaultOccurs fault
single_one None v k fault low h e = absurd cc
single_one (Some c) v k fault low h e = let same : faults.Value k c ≡ fault = cc in subst FaultOccurs same (low, h)

leaf_at : (o : Option Class) (f : ℕ) (p : List ℕ) (fault : DecodeFault) → Err fault ≡ leaf_by o f p → IsElementFault fault
leaf_at None f p fault e = absurd cc
leaf_at (Some c) f p fault e = leaf_one (length_cause (extent c) (length p)) (meant c p) (kind_of f) fault (kind_fits f) (length_fits (extent c) (length p)) e

nested_fits : (k : ℕ) (fault : DecodeFault) → k < 65536 → IsElementFault fault → FaultOccurs (nested_fault k fault)
nested_fits k (faults.Frame c) low h = (low, h)
nested_fits k (faults.Value i c) low h = (low, h.0, h.1)
nested_fits k fault low h = absurd h

shape_fits : (o : Option Shape) (f : ℕ) (p : List ℕ) (fault : DecodeFault) → IsBytes p → GivesBy o f p (Err fault) → FaultOccurs fault
shape_fits None f p fault bytes e = absurd cc
shape_fits (Some (One c)) f p fault bytes e = single_one (length_cause (extent c) (length p)) (meant c p) (kind_of f) fault (kind_fits f) (length_fits (extent c) (length p)) e
shape_fits (Some (Nested flagged rows)) f p fault bytes (Ok vs, reads, e) = absurd cc
shape_fits (Some (Nested flagged rows)) f p fault bytes (Err x, reads, e) =
    let inner = first_fits (LeafGives rows) IsElementFault (λ c h. h) (λ g q fault bytes e. leaf_at (class_at rows (kind_of g)) g q fault e) p x.0 x.1 bytes reads in
    let same : nested_fault (kind_of f) x.1 ≡ fault = cc in
    subst FaultOccurs same (nested_fits (kind_of f) x.1 (kind_fits f) inner)
shape_fits (Some (Addresses n)) f p fault bytes (Ok ps, reads, e) = absurd cc
shape_fits (Some (Addresses n)) f p fault bytes (Err x, reads, e) =
    let inner = first_fits PayloadGives IsElementFault (λ c h. h) (λ g q fault bytes e. absurd cc) p x.0 x.1 bytes reads in
    let same : nested_fault (kind_of f) x.1 ≡ fault = cc in
    subst FaultOccurs same (nested_fits (kind_of f) x.1 (kind_fits f) inner)

-- ---- lists

pub list_occurs : (table : Table) (s : List ℕ) (at : ℕ) (fault : DecodeFault) → IsBytes s → FirstFault (Gives table) s at fault → FaultOccurs fault
list_occurs table s at fault bytes h = first_fits (Gives table) FaultOccurs (λ c h. h) (λ f p fault bytes e. shape_fits (class_at table (kind_of f)) f p fault bytes e) s at fault bytes h

-- what occurs has numbers
cause_fits : (c : Cause) → CauseOccurs c → CauseFits c
cause_fits (causes.AddressLength got) h = absurd h
cause_fits c h = h

pub fault_fits : (fault : DecodeFault) → FaultOccurs fault → IsListFault fault
fault_fits (faults.Frame c) h = cause_fits c h
fault_fits (faults.Value k c) h = (h.0, cause_fits c h.1)
fault_fits (faults.NestedFrame k c) h = (h.0, cause_fits c h.1)
fault_fits (faults.NestedValue k i c) h = (h.0, h.1, cause_fits c h.2)
fault_fits fault h = absurd h

-- a struct with the first error of a list has that error
pub stored_found : (table : Table) (s : List ℕ) (e : FirstError) (n : ℕ) → IsBytes s → ErrorAnswers s e table (Ok n)
    → (at : ℕ) × (fault : DecodeFault) × FirstFault (Gives table) s at fault × (e.at ≡ at) × (fault_of e ≡ Some fault)
stored_found table s e n bytes (zero_is, (at, fault, first, numbers)) =
    let found = error_found e at fault (fault_fits fault (list_occurs table s at fault bytes first)) numbers in
    (at, fault, first, found.0, found.1)

-- so its text is never refused
pub stored_printed : (family other : Family) (s : List ℕ) (e : FirstError) (n : ℕ) (old new : List ℕ) (r : Result ℕ Refusal) → IsBytes s → ErrorAnswers s e (table_of family) (Ok n) → ErrorTextAnswers e old new other r → r ≡ Err BadForm → ⊥
stored_printed family other s e n old new r bytes h is_printed is =
    let (at, fault, first, place, found) = stored_found (table_of family) s e n bytes h in
    let bad : ErrorTextBy (Some fault) e old new other (Err BadForm) =
    subst (ErrorTextBy (Some fault) e old new other) is (subst (λ o. ErrorTextBy o e old new other r) found is_printed) in
    absurd bad
