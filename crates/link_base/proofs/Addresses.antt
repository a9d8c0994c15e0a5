-- The laws of address lists.
use Rattle.std.proofs.Common.{◌≡◌, ℕ, ◌+◌, ◌≤◌, List, [], ◌∷◌, length, map, Ok, refl, sym, ap, ap₂, ◌∙◌, arith, length-append}
use Rattle.std.specs.Prelude.{◌==◌}
use Rattle.std.specs.List.{AllByRecursion}
use Rattle.std.proofs.lemmas.Bool.{cond-true, cond_both, eqb-true, eq-eqb}
use Rattle.std.proofs.lemmas.List.{length-replicate}
use Rattle.link_base.specs.Number.{IsBytes}
use Rattle.link_base.specs.Frame.{Frame, IsComplete, AreFrames, pad, gap, frame_bytes, bytes_of_frames}
use Rattle.link_base.specs.Wire.{whole}
use Rattle.link_base.specs.Table.{PayloadGives, of_length, addresses_from}
use Rattle.link_base.specs.Held.{IsOctets}
use Rattle.link_base.specs.Lawful.{IsReading}
use Rattle.link_base.proofs.FrameBytes.{length-frame_bytes, length-complete, bytes-append}
use Rattle.link_base.proofs.Readings.{ReadEach, same_ok}
use Rattle.link_base.proofs.Written.{IsComplete-whole, bytes-whole, IsKnown}

-- ---- payloads

-- an element decodes to one result only, its payload
pub payload_reading : IsReading PayloadGives
payload_reading = record { decided = λ f p hf hp. (Ok p, refl); one = λ f p r q a b. a ∙ sym b }

-- the payloads of frames
abbrev pub payloads : List Frame → List (List ℕ)
payloads xs = map (λ (x : Frame). x.payload) xs

-- frames decode to their payloads
pub read_payloads : (xs : List Frame) → ReadEach PayloadGives xs (payloads xs)
read_payloads [] = tt
read_payloads (x ∷ xs) = (refl, read_payloads xs)

-- frames decode to nothing except their payloads
pub payloads_are : (xs : List Frame) (ps : List (List ℕ)) → ReadEach PayloadGives xs ps → ps ≡ payloads xs
payloads_are [] [] h = refl
payloads_are [] (p ∷ ps) h = absurd h
payloads_are (x ∷ xs) [] h = absurd h
payloads_are (x ∷ xs) (p ∷ ps) h = ap₂ (λ a b. a ∷ b) (same_ok p x.payload h.0) (payloads_are xs ps h.1)

-- ---- addresses

-- the addresses among the payloads of some bytes
pub octets-frames : (n : ℕ) (xs : List Frame) → AllByRecursion IsKnown xs → AllByRecursion (IsOctets n) (of_length n (payloads xs))
octets-frames n [] k = tt
octets-frames n (x ∷ xs) k =
    let later = octets-frames n xs k.1 in
    let others = of_length n (payloads xs) in
    cond_both (length x.payload == n) (x.payload ∷ others) others (λ t. AllByRecursion (IsOctets n) t)
    (λ e. ((eqb-true (length x.payload) n e, k.0.bytes), later)) (λ e. later)

-- the addresses in the frames of some addresses are these addresses
pub of_length-addresses : (n i : ℕ) (octets : List (List ℕ)) → AllByRecursion (λ a. length a ≡ n) octets → of_length n (payloads (addresses_from i octets)) ≡ octets
of_length-addresses n i [] h = refl
of_length-addresses n i (a ∷ others) h =
    cond-true (length a == n) (a ∷ of_length n (payloads (addresses_from (i + 1) others))) _ (eq-eqb (length a) n h.0)
    ∙ ap (λ t. a ∷ t) (of_length-addresses n (i + 1) others h.1)

-- the length of the frame of an address
pub length-whole : (i : ℕ) (a : List ℕ) → length (frame_bytes (whole i a)) ≡ pad (4 + length a)
length-whole i a = omega (arith, length-frame_bytes (whole i a), length-replicate {A = ℕ} (gap a) 0)

-- the frames of addresses that fit are complete
pub complete_addresses : (i : ℕ) (octets : List (List ℕ)) → i + length (bytes_of_frames (addresses_from i octets)) ≤ 65531 → AllByRecursion IsComplete (addresses_from i octets)
complete_addresses i [] fit = tt
complete_addresses i (a ∷ others) fit =
    let len = length-append (frame_bytes (whole i a)) (bytes_of_frames (addresses_from (i + 1) others)) in
    let own = length-whole i a in
    (IsComplete-whole i a (omega arith) (omega arith), complete_addresses (i + 1) others (omega arith))

-- the frames of addresses consist of bytes
pub bytes-addresses : (n i : ℕ) (octets : List (List ℕ)) → AllByRecursion (IsOctets n) octets → IsBytes (bytes_of_frames (addresses_from i octets))
bytes-addresses n i [] h = tt
bytes-addresses n i (a ∷ others) h =
    bytes-append (frame_bytes (whole i a)) (bytes_of_frames (addresses_from (i + 1) others)) (bytes-whole i a h.0.1) (bytes-addresses n (i + 1) others h.1)

-- what is written for the addresses is no longer than the input, padded
pub short-addresses : (n i : ℕ) (xs : List Frame) → AreFrames xs → length (bytes_of_frames (addresses_from i (of_length n (payloads xs)))) ≤ pad (length (bytes_of_frames xs))
short-addresses n i [] h = omega arith
short-addresses n i (x ∷ []) h =
    cond_both (length x.payload == n) (x.payload ∷ []) [] (λ t. length (bytes_of_frames (addresses_from i t)) ≤ pad (length (bytes_of_frames (x ∷ []))))
    (λ e. omega (arith, length-whole i x.payload, length-append (frame_bytes (whole i x.payload)) [], length-append (frame_bytes x) [], length-frame_bytes x))
    (λ e. omega arith)
short-addresses n i (x ∷ y ∷ xs) h =
    let taken = short-addresses n (i + 1) (y ∷ xs) h.1 in
    let left = short-addresses n i (y ∷ xs) h.1 in
    let others = of_length n (payloads (y ∷ xs)) in
    let own = length-complete x h.0 in
    let all = length-append (frame_bytes x) (bytes_of_frames (y ∷ xs)) in
    cond_both (length x.payload == n) (x.payload ∷ others) others (λ t. length (bytes_of_frames (addresses_from i t)) ≤ pad (length (bytes_of_frames (x ∷ y ∷ xs))))
    (λ e. omega (arith, length-whole i x.payload, length-append (frame_bytes (whole i x.payload)) (bytes_of_frames (addresses_from (i + 1) others))))
    (λ e. omega arith)
