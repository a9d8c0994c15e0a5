-- The errors in structs.
use Rattle.std.proofs.Common.{◌≡◌, ℕ, ◌<◌, ◌&&◌, cond, nat_lt, List, [], ◌∷◌, Some, None, option_map, ap, ap₂, ◌∙◌, arith}
use Rattle.std.proofs.lemmas.Bool.{lt-ltb}
use Rattle.netlink_packet_route.specs.declared.link.Cause.{Cause}
use Rattle.netlink_packet_route.specs.declared.link.Cause.TheVariants as causes
use Rattle.netlink_packet_route.specs.declared.link.DecodeFault.{DecodeFault}
use Rattle.netlink_packet_route.specs.declared.link.DecodeFault.TheVariants as faults
use Rattle.nlroute_ffi.specs.declared.fault.FirstError.{FirstError}
use Rattle.nlroute_ffi.specs.Numbers.{cause_numbers, fault_numbers}
use Rattle.nlroute_ffi.specs.Error.{error_numbers}
use Rattle.nlroute_ffi.specs.ErrorText.{length_of, cause_by, fault_by, fault_of, CauseFits, IsListFault}

length_found : (n : ℕ) (make : ℕ → Cause) → n < 65536 → option_map make (length_of n) ≡ Some (make n)
length_found n make h = ap (λ b. option_map make (cond b (Some n) None)) (lt-ltb n 65536 h)

if_both : (m n : ℕ) (x : DecodeFault) → m < 65536 → n < 65536 → cond (nat_lt m 65536 && nat_lt n 65536) (Some x) None ≡ Some x
if_both m n x h k = ap₂ (λ a b. cond (a && b) (Some x) None) (lt-ltb m 65536 h) (lt-ltb n 65536 k)

-- the cause with its numbers
cause_found : (cause first second : ℕ) (c : Cause) → CauseFits c → cause ∷ first ∷ second ∷ [] ≡ cause_numbers c → cause_by cause first second ≡ Some c
cause_found cause first second (causes.ShortFrame left) fits h = let a : cause ≡ 1 = cc in let b : first ≡ left = cc in ap₂ (λ t x. cause_by t x second) a b
cause_found cause first second (causes.SmallLength n) fits h =
    let a : cause ≡ 2 = cc in let b : first ≡ n = cc in ap₂ (λ t x. cause_by t x second) a b ∙ length_found n (λ k. causes.SmallLength k) fits
cause_found cause first second (causes.Overrun n left) fits h =
    let a : cause ≡ 3 = cc in let b : first ≡ n = cc in let d : second ≡ left = cc in
    ap₂ (λ t x. cause_by t x second) a b ∙ ap (λ y. cause_by 3 n y) d ∙ length_found n (λ k. causes.Overrun k left) fits
cause_found cause first second (causes.WrongLength want got) fits h =
    let a : cause ≡ 4 = cc in let b : first ≡ want = cc in let d : second ≡ got = cc in ap₂ (λ t x. cause_by t x second) a b ∙ ap (λ y. cause_by 4 want y) d
cause_found cause first second (causes.TooShort want got) fits h =
    let a : cause ≡ 5 = cc in let b : first ≡ want = cc in let d : second ≡ got = cc in ap₂ (λ t x. cause_by t x second) a b ∙ ap (λ y. cause_by 5 want y) d
cause_found cause first second (causes.AddressLength got) fits h = let a : cause ≡ 6 = cc in let b : first ≡ got = cc in ap₂ (λ t x. cause_by t x second) a b

-- a list of numbers by its parts
record Parts (e : FirstError) (at place kind inner : ℕ) (more : List ℕ) : Type 0 where
  at_is : e.at ≡ at
  place_is : e.place ≡ place
  kind_is : e.kind ≡ kind
  inner_is : e.inner ≡ inner
  more_is : e.cause ∷ e.first ∷ e.second ∷ [] ≡ more

parts : (e : FirstError) (at place kind inner : ℕ) (more : List ℕ) → error_numbers e ≡ at ∷ place ∷ kind ∷ inner ∷ more → Parts e at place kind inner more
parts e at place kind inner more h = record { at_is = cc; place_is = cc; kind_is = cc; inner_is = cc; more_is = cc }

by_parts : (e : FirstError) (at place kind inner : ℕ) (c : Cause) → CauseFits c → Parts e at place kind inner (cause_numbers c) → fault_of e ≡ fault_by place kind inner (Some c)
by_parts e at place kind inner c fits p =
    ap₂ (λ a b. fault_by a b e.inner (cause_by e.cause e.first e.second)) p.place_is p.kind_is
    ∙ ap₂ (λ a b. fault_by place kind a b) p.inner_is (cause_found e.cause e.first e.second c fits p.more_is)

pub error_found : (e : FirstError) (at : ℕ) (fault : DecodeFault) → IsListFault fault → error_numbers e ≡ fault_numbers at fault → (e.at ≡ at) × (fault_of e ≡ Some fault)
error_found e at (faults.Frame c) fits h = let p = parts e at 0 0 0 (cause_numbers c) h in (p.at_is, by_parts e at 0 0 0 c fits p)
error_found e at (faults.Value k c) fits h =
    let p = parts e at 1 k 0 (cause_numbers c) h in (p.at_is, by_parts e at 1 k 0 c fits.1 p ∙ if_both k 0 (faults.Value k c) fits.0 (omega arith))
error_found e at (faults.NestedFrame k c) fits h =
    let p = parts e at 2 k 0 (cause_numbers c) h in (p.at_is, by_parts e at 2 k 0 c fits.1 p ∙ if_both k 0 (faults.NestedFrame k c) fits.0 (omega arith))
error_found e at (faults.NestedValue k i c) fits h =
    let p = parts e at 3 k i (cause_numbers c) h in (p.at_is, by_parts e at 3 k i c fits.2 p ∙ if_both k i (faults.NestedValue k i c) fits.0 fits.1)
error_found e at fault fits h = absurd fits
