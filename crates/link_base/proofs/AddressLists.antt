-- Lists of addresses, parsed and written in a loop.
use Rattle.std.proofs.Common.{◌≡◌, ◌≢◌, ℕ, ◌+◌, ◌-◌, ◌*◌, ◌≤◌, ◌<◌, zero, suc, List, [], ◌∷◌, ◌++◌, length, take, drop, get_or, map, Some, Ok, Err, refl, sym, ap, subst, ◌∙◌, arith, length-append, length-drop}
use Rattle.std.specs.Prelude.{◌==◌, IsTrue, nat_lt}
use Rattle.std.proofs.lemmas.Bool.{ltb-true, eqb-true, cond_both}
use Rattle.std.proofs.lemmas.List.{length-map, length-take, append-nil}
use Rattle.std.proofs.lemmas.Grind.{flat_map-append}
use Rattle.std.proofs.lemmas.List.Elements.{filter-append}
use Rattle.std.proofs.Math.Nat.{suc-mul, add-mul, mul-le-mul, mul-le-mul_right}
use Rattle.link_base.specs.declared.wire.fault.Cause.{Cause}
use Rattle.link_base.specs.declared.wire.fault.DecodeFault.TheVariants as faults
use Rattle.link_base.specs.Frame.{BeginsWith, bare, frame_bytes, frame_fault, bytes_of_frames, pad}
use Rattle.link_base.specs.Wire.{whole}
use Rattle.link_base.specs.Table.{Case, Listed, Addresses, PayloadGives, ShapeGives, of_length, addresses_from}
use Rattle.link_base.specs.IpAddress.{sized}
use Rattle.link_base.proofs.Addresses.{length-whole}
use Rattle.link_base.proofs.FrameAtFront.{Splits, splits, step_of}
use Rattle.link_base.proofs.Emit.{one_more}
use Rattle.link_base.proofs.Streaming.{Underway, underway_none, underway_more, underway_all, ends_at_rest}

-- ---- octets

-- the first n of n octets are all of them
pub sized_all : (n : ℕ) (octets : List ℕ) → length octets ≡ n → sized n octets ≡ octets
sized_all zero [] e = refl
sized_all zero (b ∷ octets) e = absurd (omega (arith, e))
sized_all (suc n) [] e = absurd (omega (arith, e))
sized_all (suc n) (b ∷ octets) e = ap (λ t. b ∷ t) (sized_all n octets (omega (arith, e)))

-- ---- parsing

-- what was parsed before the rest: payloads, of which those of n bytes are kept
pub record Kept (n : ℕ) (s rest : List ℕ) (octets : List (List ℕ)) : Type 0 where
  pub count : ℕ
  pub payloads : List (List ℕ)
  pub reads : Underway PayloadGives s count rest payloads
  pub kept : octets ≡ of_length n payloads

pub kept_none : (n : ℕ) (s : List ℕ) (octets : List (List ℕ)) → octets ≡ [] → Kept n s s octets
kept_none n s octets none = record { count = 0; payloads = []; reads = underway_none PayloadGives s; kept = none }

-- one more element
pub kept_more : (n : ℕ) (s rest next : List ℕ) (octets more : List (List ℕ)) (f : ℕ) (p : List ℕ) → Kept n s rest octets → rest ≢ [] → BeginsWith rest (bare f p) → next ≡ drop (step_of rest p) rest
    → more ≡ octets ++ of_length n (p ∷ []) → Kept n s next more
kept_more n s rest next octets more f p h some begins step e = record {
  count = h.count + 1;
  payloads = h.payloads ++ p ∷ [];
  reads = underway_more PayloadGives s h.count rest next h.payloads f p p h.reads some (subst (Splits rest f p) (sym step) (splits rest f p begins)) refl;
  kept = e ∙ ap (λ t. t ++ of_length n (p ∷ [])) h.kept ∙ sym (filter-append (λ q. length q == n) h.payloads (p ∷ []));
}

-- at the end
pub kept_all : (n k : ℕ) (s rest : List ℕ) (octets : List (List ℕ)) → Kept n s rest octets → rest ≡ [] → ShapeGives (Addresses n) k s (Ok (Case k (Listed octets)))
kept_all n k s rest octets h none = (Ok h.payloads, underway_all PayloadGives s h.count rest h.payloads h.reads none, ap (λ o. Ok (Case k (Listed o))) h.kept)

-- the rest does not start with a frame
pub kept_fault : (n k : ℕ) (s rest : List ℕ) (octets : List (List ℕ)) (c : Cause) → Kept n s rest octets → rest ≢ [] → frame_fault rest ≡ Some c → ShapeGives (Addresses n) k s (Err (faults.NestedFrame k c))
kept_fault n k s rest octets c h some bad =
    let at = length s - length rest in
    (Err (at, faults.Frame c), ends_at_rest PayloadGives s h.count rest h.payloads at c h.reads some refl bad, refl)

-- an element that is kept has n bytes and a header
kept_size : (n : ℕ) (p : List ℕ) → length (of_length n (p ∷ [])) * (n + 4) ≤ 4 + length p
kept_size n p = cond_both (length p == n) (p ∷ []) [] (λ t. length t * (n + 4) ≤ 4 + length p) (λ e. omega (arith, eqb-true (length p) n e)) (λ e. omega arith)

-- the elements kept so far, with n + 4 bytes each, and the rest are together no longer than s
pub kept_low : (n len more : ℕ) (s rest next p : List ℕ) → len * (n + 4) + length rest ≤ length s → next ≡ drop (step_of rest p) rest → 4 + length p ≤ length rest
    → more ≡ len + length (of_length n (p ∷ [])) → more * (n + 4) + length next ≤ length s
kept_low n len more s rest next p low step front e =
    let one = length (of_length n (p ∷ [])) in
    let size : more * (n + 4) ≡ len * (n + 4) + one * (n + 4) = ap (λ m. m * (n + 4)) e ∙ add-mul len one (n + 4) in
    omega (arith, size, kept_size n p, low, front, ap length step, length-drop (step_of rest p) rest)

-- ---- writing

-- the frames of some addresses, then those of others
addresses-append : (i : ℕ) (first others : List (List ℕ)) → addresses_from i (first ++ others) ≡ addresses_from i first ++ addresses_from (i + length first) others
addresses-append i [] others = ap (λ j. addresses_from j others) (omega arith)
addresses-append i (a ∷ first) others =
    ap (λ xs. whole i a ∷ xs) (addresses-append (i + 1) first others ∙ ap (λ j. addresses_from (i + 1) first ++ addresses_from j others) (omega arith))

-- if i is less than m, then i + 1 times k is at most m times k
more_times : (i m k : ℕ) → i < m → i * k + k ≤ m * k
more_times i m k lt = subst (λ t. t ≤ m * k) (suc-mul i k) (mul-le-mul_right k lt)

-- an address has at most 16 octets
pub few : (n : ℕ) → IsTrue (nat_lt n 17) → n ≤ 16
few n h = omega (arith, ltb-true n 17 h)

module _ {X : Type 0} (octets : X → List ℕ) (n : ℕ) (same : (x : X) → length (octets x) ≡ n) where
  -- the length of a list
  pub length-addresses : (i : ℕ) (xs : List X) → length (bytes_of_frames (addresses_from i (map octets xs))) ≡ length xs * pad (4 + n)
  length-addresses i [] = omega arith
  length-addresses i (x ∷ xs) =
      let frame = frame_bytes (whole i (octets x)) in
      let others = bytes_of_frames (addresses_from (i + 1) (map octets xs)) in
      let own : length frame ≡ pad (4 + n) = length-whole i (octets x) ∙ ap (λ m. pad (4 + m)) (same x) in
      omega (arith, length-append frame others, own, length-addresses (i + 1) xs, suc-mul (length xs) (pad (4 + n)))

  -- one more element
  pub addresses_more : (xs : List X) (i : ℕ) (x : X) → i < length xs → x ≡ get_or xs i x
      → bytes_of_frames (addresses_from 0 (map octets (take (i + 1) xs))) ≡ bytes_of_frames (addresses_from 0 (map octets (take i xs))) ++ frame_bytes (whole i (octets x))
  addresses_more xs i x lt is =
      let first = map octets (take i xs) in
      let place : 0 + length first ≡ i = omega (arith, length-map (take i xs) octets, length-take i xs) in
      ap (λ t. bytes_of_frames (addresses_from 0 t)) (one_more octets xs i x lt is)
      ∙ ap bytes_of_frames (addresses-append 0 first (octets x ∷ []))
      ∙ flat_map-append frame_bytes (addresses_from 0 first) (addresses_from (0 + length first) (octets x ∷ []))
      ∙ ap (λ j. bytes_of_frames (addresses_from 0 first) ++ bytes_of_frames (addresses_from j (octets x ∷ []))) place
      ∙ ap (λ t. bytes_of_frames (addresses_from 0 first) ++ t) (append-nil (frame_bytes (whole i (octets x))))

  -- what is written so far and the next element are together no longer than the whole list
  pub addresses_room : (xs : List X) (i : ℕ) (x : X) → i < length xs
      → length (bytes_of_frames (addresses_from 0 (map octets (take i xs)))) + length (frame_bytes (whole i (octets x))) ≤ length (bytes_of_frames (addresses_from 0 (map octets xs)))
  addresses_room xs i x lt =
      let k = pad (4 + n) in
      let own : length (frame_bytes (whole i (octets x))) ≡ k = length-whole i (octets x) ∙ ap (λ m. pad (4 + m)) (same x) in
      let before : length (bytes_of_frames (addresses_from 0 (map octets (take i xs)))) ≡ i * k = length-addresses 0 (take i xs) ∙ ap (λ m. m * k) (omega (arith, length-take i xs)) in
      omega (arith, own, before, length-addresses 0 xs, more_times i (length xs) k lt)

  -- the attribute type of an element is at most the length of the list
  pub kind_short : (xs : List X) (i : ℕ) → i < length xs → i ≤ length (bytes_of_frames (addresses_from 0 (map octets xs)))
  kind_short xs i lt =
      let k = pad (4 + n) in
      let each : i * 1 ≤ length xs * k = mul-le-mul (omega (arith, lt)) (omega arith) in
      omega (arith, each, length-addresses 0 xs)
