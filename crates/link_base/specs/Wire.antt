-- The grammars of lists, for any way to decode one attribute.
use Rattle.std.specs.Prelude.{◌≡◌, ◌⊎◌, ℕ, ◌<◌, ◌≤◌, List, ◌++◌, length, replicate, Some, Result, Ok, Err}
use Rattle.std.specs.List.{flat_map, AllZip, AllByRecursion}
use Rattle.link_base.specs.declared.wire.fault.Cause.{Cause}
use Rattle.link_base.specs.declared.wire.fault.DecodeFault.{DecodeFault}
use Rattle.link_base.specs.declared.wire.fault.DecodeFault.TheVariants as faults
use Rattle.link_base.specs.Frame.{Frame, Frames, IsComplete, BeginsWith, frame_bytes, bytes_of_frames, gap, frame_fault, max_payload}

-- How attributes decode: from `nla_type` and a payload to a value or an error.
abbrev pub Reading : Type 0 → Type 1
Reading V = ℕ → List ℕ → Result V DecodeFault → Type 0

-- the frame decodes to this value, or has this error
abbrev pub FrameGives : {V : Type 0} → Reading V → Frame → Result V DecodeFault → Type 0
FrameGives gives x r = gives x.kind_field x.payload r

-- ---- decoding

-- the wire grammar: s consists of frames that decode to these values
pub record Wire {V : Type 0} (gives : Reading V) (s : List ℕ) (vs : List V) : Type 0 where
  pub frames : List Frame
  pub string : Frames s frames
  pub values : AllZip (λ x v. FrameGives gives x (Ok v)) frames vs

-- r does not start with a frame, or starts with a frame that has this error
abbrev pub FaultsHere : {V : Type 0} → Reading V → List ℕ → DecodeFault → Type 0
FaultsHere gives r fault =
    ((c : Cause) × (frame_fault r ≡ Some c) × (fault ≡ faults.Frame c))
    ⊎ ((x : Frame) × BeginsWith r x × FrameGives gives x (Err fault))

-- the first error: complete frames that decode to values, then the error
pub record FirstFault {V : Type 0} (gives : Reading V) (s : List ℕ) (at : ℕ) (fault : DecodeFault) : Type 0 where
  pub front : List Frame
  pub rest : List ℕ
  pub string : s ≡ bytes_of_frames front ++ rest
  pub complete : AllByRecursion IsComplete front
  pub values : AllByRecursion (λ x. (v : V) × FrameGives gives x (Ok v)) front
  pub some : 0 < length rest
  pub offset : at ≡ length (bytes_of_frames front)
  pub here : FaultsHere gives rest fault

-- the result of decoding s: its values, or its first error with the offset
abbrev pub Reads : {V : Type 0} → Reading V → List ℕ → Result (List V) (ℕ × DecodeFault) → Type 0
Reads gives s (Ok vs) = Wire gives s vs
Reads gives s (Err e) = FirstFault gives s e.0 e.1

-- ---- writing

-- the frame that is written for an `nla_type` and a payload, with zeros for padding
abbrev pub whole : ℕ → List ℕ → Frame
whole f p = record { kind_field = f; payload = p; padding = replicate (gap p) 0 }

-- the consecutive frames of values
abbrev pub written_by : {V : Type 0} → (V → ℕ) → (V → List ℕ) → List V → List ℕ
written_by field payload vs = flat_map (λ v. frame_bytes (whole (field v) (payload v))) vs

-- the written payload fits in an attribute
abbrev pub FitsBy : {V : Type 0} → (V → List ℕ) → V → Type 0
FitsBy payload v = length (payload v) ≤ max_payload

-- ---- the canonical grammar

-- complete, padded with zeros, and allowed
pub record IsCanonicalFrame (allows : ℕ → List ℕ → Type 0) (x : Frame) : Type 0 where
  pub complete : IsComplete x
  pub zeros : x.padding ≡ replicate (gap x.payload) 0
  pub allowed : allows x.kind_field x.payload

-- a list of such frames
pub record CanonicalBy (allows : ℕ → List ℕ → Type 0) (s : List ℕ) : Type 0 where
  pub frames : List Frame
  pub string : s ≡ bytes_of_frames frames
  pub each : AllByRecursion (IsCanonicalFrame allows) frames

-- s starts with the complete frame of this `nla_type` and payload, padded with zeros, and `rest` follows
abbrev pub SplitsWhole : List ℕ → ℕ → List ℕ → List ℕ → Type 0
SplitsWhole s f p rest = IsComplete (whole f p) × (s ≡ frame_bytes (whole f p) ++ rest)

-- canonical frames, possibly none, then a rest that is not empty and does not start with a canonical frame
pub record FirstOtherBy (allows : ℕ → List ℕ → Type 0) (s : List ℕ) (at : ℕ) : Type 0 where
  pub front : List Frame
  pub rest : List ℕ
  pub string : s ≡ bytes_of_frames front ++ rest
  pub each : AllByRecursion (IsCanonicalFrame allows) front
  pub some : 0 < length rest
  pub offset : at ≡ length (bytes_of_frames front)
  pub here : (x : Frame) (after : List ℕ) → rest ≡ frame_bytes x ++ after → ¬ (IsCanonicalFrame allows x)

-- ---- rewriting

-- t is what is written for the values of s, all of which fit
pub record RewritingBy {V : Type 0} (gives : Reading V) (field : V → ℕ) (payload : V → List ℕ) (s t : List ℕ) : Type 0 where
  pub values : List V
  pub wire : Wire gives s values
  pub fit : AllByRecursion (FitsBy payload) values
  pub string : t ≡ written_by field payload values
