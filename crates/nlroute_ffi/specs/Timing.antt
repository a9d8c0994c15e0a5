-- The structs of a CAN controller that a value refers to.
use Rattle.std.specs.Prelude.{◌≡◌, ◌≢◌, ℕ, ◌+◌, ◌≤◌, List, [], ◌∷◌, length, map, take, drop, codes, Option, Some, None, Result, Ok, Err}
use Rattle.link_base.specs.Class.{Class, Value, Number, meant}
use Rattle.link_base.specs.Fields.{FieldRow}
use Rattle.link_base.specs.Name.{before_nul}
use Rattle.link_base.specs.Payloads.{limit_fields}
use Rattle.link_base.specs.Structs.{width_of, field_class}
use Rattle.link_base.specs.Table.{Label, label_at}
use Rattle.netlink_packet_route.specs.declared.family.Family.TheVariants.{Can}
use Rattle.netlink_packet_route.specs.Family.{table_of}
use Rattle.link_entries.specs.declared.entry.Entry.{Entry}
use Rattle.link_entries.specs.Forms.{form_bittiming, form_bittiming_const}
use Rattle.link_entries.specs.Entry.{padded}
use Rattle.nlroute_ffi.specs.declared.refusal.Refusal.{Refusal}
use Rattle.nlroute_ffi.specs.declared.refusal.Refusal.TheVariants.{BadForm, BadOctets}
use Rattle.nlroute_ffi.specs.declared.timing.BitTiming.{BitTiming}
use Rattle.nlroute_ffi.specs.declared.timing.TimingLimits.{TimingLimits}

-- the n octets that a value of this form refers to are within the lent ones
pub record RefersTo (value : Entry) (expected n : ℕ) (octets : List ℕ) : Type 0 where
  pub form : value.form ≡ expected
  pub size : value.length ≡ n
  pub within : value.offset + n ≤ length octets

-- or why there are none
abbrev pub RefersNot : Entry → ℕ → ℕ → List ℕ → Refusal → Type 0
RefersNot value form n octets BadForm = value.form ≢ form
RefersNot value form n octets BadOctets = (value.form ≡ form) × ¬ (RefersTo value form n octets)
RefersNot value form n octets refusal = ⊥

-- these octets
abbrev pub referred : ℕ → Entry → List ℕ → List ℕ
referred n value octets = take n (drop value.offset octets)

-- what a field of this class holds in a payload, at an offset
abbrev pub held_at : Class → ℕ → List ℕ → Value
held_at c offset p = meant c (take (width_of c) (drop offset p))

-- what these fields hold in a payload, each after its name
abbrev pub named_fields : List FieldRow → List ℕ → List (List ℕ × Value)
named_fields fields p = map (λ f. (f.name, held_at (field_class [] f) f.offset p)) fields

-- the fields of a struct that are shown
abbrev pub shown_fields : Option Label → List FieldRow
shown_fields None = []
shown_fields (Some label) = label.fields

-- those of IFLA_CAN_BITTIMING
abbrev pub bit_timing_fields : List FieldRow
bit_timing_fields = shown_fields (label_at (table_of Can) 1)

-- a bit timing, field by field
abbrev pub named_timing : BitTiming → List (List ℕ × Value)
named_timing t =
    (codes "bitrate", Number 4 t.bitrate) ∷
    (codes "sample_point", Number 4 t.sample_point) ∷
    (codes "tq", Number 4 t.tq) ∷
    (codes "prop_seg", Number 4 t.prop_seg) ∷
    (codes "phase_seg1", Number 4 t.phase_seg1) ∷
    (codes "phase_seg2", Number 4 t.phase_seg2) ∷
    (codes "sjw", Number 4 t.sjw) ∷
    (codes "brp", Number 4 t.brp) ∷ []

-- the numbers of limits, likewise
abbrev pub named_limits : TimingLimits → List (List ℕ × Value)
named_limits l =
    (codes "tseg1_min", Number 4 l.tseg1_min) ∷
    (codes "tseg1_max", Number 4 l.tseg1_max) ∷
    (codes "tseg2_min", Number 4 l.tseg2_min) ∷
    (codes "tseg2_max", Number 4 l.tseg2_max) ∷
    (codes "sjw_max", Number 4 l.sjw_max) ∷
    (codes "brp_min", Number 4 l.brp_min) ∷
    (codes "brp_max", Number 4 l.brp_max) ∷
    (codes "brp_inc", Number 4 l.brp_inc) ∷ []

-- the bit timing that a value refers to, field by field; or why there is none
abbrev pub TimingAnswers : Entry → List ℕ → BitTiming → Result ℕ Refusal → Type 0
TimingAnswers value octets timing (Ok n) =
    (n ≡ 0) × RefersTo value form_bittiming 32 octets × (named_timing timing ≡ named_fields bit_timing_fields (referred 32 value octets))
TimingAnswers value octets timing (Err refusal) = RefersNot value form_bittiming 32 octets refusal

-- the limits, field by field: of the name, at most 15 bytes, and zeros
abbrev pub LimitsAnswers : Entry → List ℕ → TimingLimits → Result ℕ Refusal → Type 0
LimitsAnswers value octets limits (Ok n) =
    let name = before_nul (take 16 (referred 48 value octets)) in
    (n ≡ 0) × RefersTo value form_bittiming_const 48 octets × (limits.name ≡ padded (take 15 name)) × (named_limits limits ≡ named_fields limit_fields (referred 48 value octets))
LimitsAnswers value octets limits (Err refusal) = RefersNot value form_bittiming_const 48 octets refusal
