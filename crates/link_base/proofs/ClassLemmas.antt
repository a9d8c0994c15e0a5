-- The laws of the classes of payloads.
use Rattle.std.proofs.Common.{◌≡◌, ◌⊎◌, ◌↔◌, ℕ, ◌+◌, ◌-◌, ◌*◌, ◌%◌, ◌<◌, ◌≤◌, Bool, true, false, cond, List, [], ◌∷◌, ◌++◌, length, take, drop, reverse, replicate, Option, Some, None, Ok, refl, sym, ap, ap₂, subst, ◌∙◌, arith, inl, inr, ⊎_elim, length-append, length-take, length-drop, take-append-drop, take_all}
use Rattle.std.specs.Prelude.{◌==◌, nat_lt, slice_index}
use Rattle.std.specs.Int.{w32}
use Rattle.std.proofs.lemmas.Int.{of_z-to_z}
use Rattle.std.proofs.lemmas.Bool.{cond-true, cond-false, cond_both, eqb-true, eq-eqb, le-ltb, ltb-false}
use Rattle.std.proofs.lemmas.List.{take_at, length-replicate}
use Rattle.link_base.specs.Number.{IsBytes, number, bytes_of, bound}
use Rattle.link_base.specs.declared.wire.fault.Cause.{Cause}
use Rattle.link_base.specs.declared.wire.fault.Cause.TheVariants.{WrongLength, TooShort}
use Rattle.link_base.specs.Name.{name_of, name_field, IsNameField}
use Rattle.link_base.specs.Class.{Extent, Exactly, AtLeast, Fixed, Multiple, AtMost, size_of, length_cause, Class, Unsigned, Signed, Truth, Optional, Octets, Bytes, Headed, Many, Named, Protocol, Low, Empty, Limits, Value, Name, Unlisted, extent, is_listed, named, flag_in, flag_value, meant, unless, class_value, written, canon, cut, IsTidy}
use Rattle.link_base.proofs.NameLemmas.{fixed_iff}
use Rattle.link_base.proofs.Numbers.{number_below, bytes_of-number, length-bytes_of}

-- ---- lengths

-- if there is no cause, the value is the one given
unless_none : {A : Type 0} (o : Option Cause) (x v : A) → unless o x ≡ Ok v → (o ≡ None) × (v ≡ x)
unless_none None x v e = (refl, cc)
unless_none (Some c) x v e = absurd cc

-- a payload that has a value is accepted, and the value is what it means
pub accepted_meaning : (c : Class) (p : List ℕ) (v : Value) → class_value c p ≡ Ok v → (length_cause (extent c) (length p) ≡ None) × (v ≡ meant c p)
accepted_meaning c p v e = unless_none (length_cause (extent c) (length p)) (meant c p) v e

-- an accepted payload has the value that it means
pub value_of_accepted : (c : Class) (p : List ℕ) → length_cause (extent c) (length p) ≡ None → class_value c p ≡ Ok (meant c p)
value_of_accepted c p e = ap (λ o. unless o (meant c p)) e

-- if there is no cause, the test fails, and there is no other cause either
pub none_else : (b : Bool) (o : Option Cause) (c : Cause) → cond b (Some c) o ≡ None → (b ≡ false) × (o ≡ None)
none_else true o c e = absurd cc
none_else false o c e = (refl, e)

-- if there is no cause, the test holds
none_then : (b : Bool) (c : Cause) → cond b None (Some c) ≡ None → b ≡ true
none_then true c e = refl
none_then false c e = absurd cc

-- an accepted payload of the extent `Exactly n` has n bytes
pub exactly : (n got : ℕ) → length_cause (Exactly n) got ≡ None → got ≡ n
exactly n got e = eqb-true got n (none_then (got == n) (WrongLength n got) e)

-- an accepted payload has the bytes that have a meaning
pub size_reached : (e : Extent) (got : ℕ) → length_cause e got ≡ None → size_of e ≤ got
size_reached (Exactly n) got h = let is = exactly n got h in omega arith
size_reached (AtLeast n) got h = ltb-false got n (none_else (nat_lt got n) None (TooShort n got) h).0
size_reached (Fixed n) got h = ltb-false got n (none_else (nat_lt got n) _ (TooShort n got) h).0
size_reached (Multiple n) got h = omega arith
size_reached (AtMost n) got h = omega arith

-- an accepted payload of the extent `AtMost n` has at most n bytes
pub at_most : (n got : ℕ) → length_cause (AtMost n) got ≡ None → got ≤ n
at_most n got e = ltb-false n got (none_else (nat_lt n got) None (WrongLength n got) e).0

-- a payload is accepted if it has at most n bytes
pub within_most : (n got : ℕ) → got ≤ n → length_cause (AtMost n) got ≡ None
within_most n got h = cond-false (nat_lt n got) (Some (WrongLength n got)) None (le-ltb n got h)

-- the length of an accepted payload of the extent `Multiple n` is a multiple of n
pub multiple : (n got : ℕ) → length_cause (Multiple n) got ≡ None → got % n ≡ 0
multiple n got e = eqb-true (got % n) 0 (none_then (got % n == 0) (WrongLength n got) e)

-- a payload is accepted if its length is a multiple of n
pub at_multiple : (n got : ℕ) → got % n ≡ 0 → length_cause (Multiple n) got ≡ None
at_multiple n got h = cond-true (got % n == 0) None _ (eq-eqb (got % n) 0 h)

-- zero is a multiple of each number
zero_mod : (n : ℕ) → 0 % n ≡ 0
zero_mod n = grind arith

-- a payload of exactly the bytes that have a meaning is accepted
pub at_size : (e : Extent) (got : ℕ) → got ≡ size_of e → length_cause e got ≡ None
at_size (Exactly n) got h = cond-true (got == n) None _ (eq-eqb got n h)
at_size (AtLeast n) got h = cond-false (nat_lt got n) _ None (le-ltb got n (omega arith))
at_size (Multiple n) got h = at_multiple n got (ap (λ g. g % n) h ∙ zero_mod n)
at_size (Fixed n) got h = cond-false (nat_lt got n) _ _ (le-ltb got n (omega arith)) ∙ cond-false (nat_lt n got) _ None (le-ltb n got (omega arith))
at_size (AtMost n) got h = within_most n got (omega arith)

-- ---- lists of a known length

-- a list of length two
two_bytes : (p : List ℕ) → length p ≡ 2 → (a b : ℕ) × (p ≡ a ∷ b ∷ [])
two_bytes [] e = absurd (omega arith)
two_bytes (a ∷ []) e = absurd (omega arith)
two_bytes (a ∷ b ∷ []) e = (a, b, refl)
two_bytes (a ∷ b ∷ c ∷ p) e = absurd (omega arith)

-- a list of length one
one_byte : (p : List ℕ) → length p ≡ 1 → (a : ℕ) × (p ≡ a ∷ [])
one_byte [] e = absurd (omega arith)
one_byte (a ∷ []) e = (a, refl)
one_byte (a ∷ b ∷ p) e = absurd (omega arith)

-- a flag without a byte, and one with a byte
pub no_flag_byte : (p : List ℕ) → length p ≡ 0 → flag_in p ≡ None
no_flag_byte [] e = refl
no_flag_byte (b ∷ p) e = absurd (omega arith)

pub flag_byte : (p : List ℕ) → 0 < length p → flag_in p ≡ Some (nat_lt 0 (slice_index p 0))
flag_byte [] h = absurd (omega arith)
flag_byte (b ∷ p) h = refl

-- bytes are the bytes of their number
pub same_bytes : (n : ℕ) (p : List ℕ) → IsBytes p → length p ≡ n → bytes_of n (number p) ≡ p
same_bytes n p h e = ap (λ k. bytes_of k (number p)) (sym e) ∙ bytes_of-number p h

-- the number of n bytes is less than 256 to the power of n
pub number_in : (n : ℕ) (p : List ℕ) → IsBytes p → length p ≡ n → number p < bound n
number_in n p h e = subst (λ k. number p < bound k) e (number_below p h)

-- a name field has 16 bytes
pub length-name_field : (text : List ℕ) → length (name_field text) ≡ 16
length-name_field text =
    let t = take 15 text in
    omega (arith, length-append t (replicate (16 - length t) 0), length-replicate {A = ℕ} (16 - length t) 0, length-take 15 text)

-- ---- named numbers

-- a named number is written as its bytes
pub written-named : (n : ℕ) (listed : List ℕ) (d : ℕ) → written (named n listed d) ≡ bytes_of n d
written-named n listed d = cond_both (is_listed listed d) (Name n d) (Unlisted n listed d) (λ v. written v ≡ bytes_of n d) (λ e. refl) (λ e. refl)

-- a named number is its own normal form
pub canon-named : (n : ℕ) (listed : List ℕ) (d : ℕ) → canon (named n listed d) ≡ named n listed d
canon-named n listed d = cond_both (is_listed listed d) (Name n d) (Unlisted n listed d) (λ v. canon v ≡ named n listed d)
    (λ e. sym (cond-true (is_listed listed d) (Name n d) (Unlisted n listed d) e)) (λ e. refl)

-- `cut` leaves a named number unchanged
pub cut-named : (n : ℕ) (listed : List ℕ) (d : ℕ) → cut (named n listed d) ≡ named n listed d
cut-named n listed d = cond_both (is_listed listed d) (Name n d) (Unlisted n listed d) (λ v. cut v ≡ named n listed d)
    (λ e. sym (cond-true (is_listed listed d) (Name n d) (Unlisted n listed d) e))
    (λ e. sym (cond-false (is_listed listed d) (Name n d) (Unlisted n listed d) e))

-- ---- what is written, and the payload

-- a boolean is written unchanged if the byte is zero or one
truth_tidy : (b : ℕ) → (cond (nat_lt 0 (b + 256 * 0)) 1 0 ∷ [] ≡ b ∷ []) ↔ ((b ∷ [] ≡ 0 ∷ []) ⊎ (b ∷ [] ≡ 1 ∷ []))
truth_tidy b = (
  λ e. cond_both (nat_lt 0 (b + 256 * 0)) 1 0 (λ x. x ∷ [] ≡ b ∷ [] → (b ∷ [] ≡ 0 ∷ []) ⊎ (b ∷ [] ≡ 1 ∷ [])) (λ t h. inr (sym h)) (λ t h. inl (sym h)) e,
  λ h. ⊎_elim
      (λ zero_is. subst (λ l. cond (nat_lt 0 (number l)) 1 0 ∷ [] ≡ l) (sym zero_is) refl)
      (λ one_is. subst (λ l. cond (nat_lt 0 (number l)) 1 0 ∷ [] ≡ l) (sym one_is) refl) h,
)

-- a flag is written unchanged if it has no byte, or its byte is zero or one
optional_tidy : (p : List ℕ) → length p ≤ 1 → (written (flag_value (flag_in p)) ≡ p) ↔ ((p ≡ []) ⊎ ((p ≡ 0 ∷ []) ⊎ (p ≡ 1 ∷ [])))
optional_tidy [] le = (λ e. inl refl, λ h. refl)
optional_tidy (b ∷ []) le = (
  λ e. inr (cond_both (nat_lt 0 b) 1 0 (λ x. x ∷ [] ≡ b ∷ [] → (b ∷ [] ≡ 0 ∷ []) ⊎ (b ∷ [] ≡ 1 ∷ [])) (λ t h. inr (sym h)) (λ t h. inl (sym h)) e),
  λ h. ⊎_elim
      (λ none_is. absurd cc)
      (λ some_is. ⊎_elim
      (λ zero_is. subst (λ l. written (flag_value (flag_in l)) ≡ l) (sym zero_is) refl)
      (λ one_is. subst (λ l. written (flag_value (flag_in l)) ≡ l) (sym one_is) refl) some_is) h,
)
optional_tidy (b ∷ c ∷ p) le = absurd (omega arith)

-- what is written for a flag is as long as its payload
pub optional_length : (p : List ℕ) → length p ≤ 1 → length (written (flag_value (flag_in p))) ≡ length p
optional_length [] le = refl
optional_length (b ∷ []) le = refl
optional_length (b ∷ c ∷ p) le = absurd (omega arith)

-- an EtherType is written unchanged if it is one of the two
ether_type_tidy : (p : List ℕ) → (reverse (bytes_of 2 (cond (number (reverse p) == 0x88A8) 0x88A8 0x8100)) ≡ p) ↔ ((p ≡ 0x81 ∷ 0x00 ∷ []) ⊎ (p ≡ 0x88 ∷ 0xA8 ∷ []))
ether_type_tidy p = (
  λ e. cond_both (number (reverse p) == 0x88A8) 0x88A8 0x8100 (λ d. reverse (bytes_of 2 d) ≡ p → (p ≡ 0x81 ∷ 0x00 ∷ []) ⊎ (p ≡ 0x88 ∷ 0xA8 ∷ []))
      (λ t h. inr (sym h)) (λ t h. inl (sym h)) e,
  λ h. ⊎_elim
      (λ q_is. subst (λ l. reverse (bytes_of 2 (cond (number (reverse l) == 0x88A8) 0x88A8 0x8100)) ≡ l) (sym q_is) refl)
      (λ ad_is. subst (λ l. reverse (bytes_of 2 (cond (number (reverse l) == 0x88A8) 0x88A8 0x8100)) ≡ l) (sym ad_is) refl) h,
)

-- the first of two bytes is written unchanged if the second is zero
low_tidy : (a b : ℕ) → (a ∷ 0 ∷ [] ≡ a ∷ b ∷ []) ↔ (b ≡ 0)
low_tidy a b = (λ e. cc, λ e. ap (λ x. a ∷ x ∷ []) (sym e))

-- bytes are written unchanged if nothing follows them
octets_tidy : (n : ℕ) (p : List ℕ) → n ≤ length p → (take n p ≡ p) ↔ (length p ≡ n)
octets_tidy n p le = (λ e. omega (arith, ap length e, length-take n p), λ e. take_all n p (omega arith))

-- limits are written unchanged if nothing follows them and the name field is canonical
limits_tidy : (p : List ℕ) → 48 ≤ length p
    → (name_field (name_of (take 16 p)) ++ take 32 (drop 16 p) ≡ p) ↔ ((length p ≡ 48) × IsNameField (take 16 p))
limits_tidy p le = (
  λ e.
      let f = name_field (name_of (take 16 p)) in
      let r = take 32 (drop 16 p) in
      let len = length-name_field (name_of (take 16 p)) in
      let first : f ≡ take 16 p = sym (take_at f r 16 len) ∙ ap (take 16) e in
      (omega (arith, ap length e, length-append f r, length-take 32 (drop 16 p), length-drop 16 p), (fixed_iff (take 16 p)).0 first),
  λ h. ap₂ (λ a b. a ++ b) ((fixed_iff (take 16 p)).1 h.1) (take_all 32 (drop 16 p) (omega (arith, h.0, length-drop 16 p))) ∙ take-append-drop 16 p,
)

-- what is written is the payload if and only if it is tidy
pub tidy_iff : (c : Class) (p : List ℕ) → IsBytes p → length_cause (extent c) (length p) ≡ None → (written (meant c p) ≡ p) ↔ IsTidy c p
tidy_iff (Unsigned n) p h e = (λ q. tt, λ q. same_bytes n p h (exactly n (length p) e))
tidy_iff Signed p h e =
    let len = exactly 4 (length p) e in
    (λ q. tt, λ q. ap (bytes_of 4) (of_z-to_z w32 (number p) (number_in 4 p h len)) ∙ same_bytes 4 p h len)
tidy_iff Truth p h e =
    let one = one_byte p (exactly 1 (length p) e) in
    subst (λ l. (written (meant Truth l) ≡ l) ↔ IsTidy Truth l) (sym one.1) (truth_tidy one.0)
tidy_iff Optional p h e = optional_tidy p (at_most 1 (length p) e)
tidy_iff (Octets x) p h e = octets_tidy (size_of x) p (size_reached x (length p) e)
tidy_iff Bytes p h e = (λ q. tt, λ q. refl)
tidy_iff (Headed n) p h e = (λ q. tt, λ q. refl)
tidy_iff (Many n) p h e = (λ q. tt, λ q. refl)
tidy_iff (Named n listed) p h e = (λ q. tt, λ q. written-named n listed (number p) ∙ same_bytes n p h (exactly n (length p) e))
tidy_iff Protocol p h e = ether_type_tidy p
tidy_iff Low p h e =
    let two = two_bytes p (exactly 2 (length p) e) in
    subst (λ l. (written (meant Low l) ≡ l) ↔ IsTidy Low l) (sym two.2) (low_tidy two.0 two.1)
tidy_iff Empty p h e = (λ q. sym q, λ q. sym q)
tidy_iff Limits p h e = limits_tidy p (size_reached (AtLeast 48) (length p) e)

-- what is written is no longer than the payload
pub written_short : (c : Class) (p : List ℕ) → length_cause (extent c) (length p) ≡ None → length (written (meant c p)) ≤ length p
written_short (Unsigned n) p e = omega (arith, exactly n (length p) e, length-bytes_of n (number p))
written_short Signed p e = omega (arith, exactly 4 (length p) e)
written_short Truth p e = omega (arith, exactly 1 (length p) e)
written_short Optional p e = omega (arith, optional_length p (at_most 1 (length p) e))
written_short (Octets x) p e = omega (arith, length-take (size_of x) p)
written_short Bytes p e = omega arith
written_short (Headed n) p e = omega arith
written_short (Many n) p e = omega arith
written_short (Named n listed) p e = omega (arith, exactly n (length p) e, ap length (written-named n listed (number p)), length-bytes_of n (number p))
written_short Protocol p e = omega (arith, exactly 2 (length p) e)
written_short Low p e = omega (arith, exactly 2 (length p) e)
written_short Empty p e = omega arith
written_short Limits p e =
    omega (
      arith,
      size_reached (AtLeast 48) (length p) e,
      length-append (name_field (name_of (take 16 p))) (take 32 (drop 16 p)),
      length-name_field (name_of (take 16 p)),
      length-take 32 (drop 16 p),
    )
