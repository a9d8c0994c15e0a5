-- The structs of a CAN controller: their fields, and what values hold.
use Rattle.std.specs.Prelude.{ℕ, List, [], ◌∷◌, map}
use Rattle.link_base.specs.Class.{Value, Number}
use Rattle.link_base.specs.Fields.{FieldRow}
use Rattle.link_base.specs.Payloads.{u16, u32, u32_flags, field, field_in}
use Rattle.link_base.specs.declared.rows.label.Quantity.TheVariants.{BitsPerSecond, Hertz, Nanoseconds}
use Rattle.link_vlan_can.specs.CanFlags.{mode_bits}
use Rattle.link_vlan_can.specs.declared.can_records.CanBitTiming.{CanBitTiming}
use Rattle.link_vlan_can.specs.declared.can_records.CanCtrlMode.{CanCtrlMode}
use Rattle.link_vlan_can.specs.declared.can_records.CanClock.{CanClock}
use Rattle.link_vlan_can.specs.declared.can_records.CanBerrCounter.{CanBerrCounter}

-- a bit timing
abbrev pub timing_fields : List FieldRow
timing_fields =
    field_in BitsPerSecond "bitrate" 0 u32 ∷
    field "sample_point" 4 u32 ∷
    field_in Nanoseconds "tq" 8 u32 ∷
    field "prop_seg" 12 u32 ∷
    field "phase_seg1" 16 u32 ∷
    field "phase_seg2" 20 u32 ∷
    field "sjw" 24 u32 ∷
    field "brp" 28 u32 ∷ []

abbrev pub timing_held : CanBitTiming → List Value
timing_held t = map (Number 4) (t.bitrate ∷ t.sample_point ∷ t.tq ∷ t.prop_seg ∷ t.phase_seg1 ∷ t.phase_seg2 ∷ t.sjw ∷ t.brp ∷ [])

-- a bit timing with only the bit rate set, and all other fields 0
abbrev pub timing_with : ℕ → CanBitTiming
timing_with rate = record {
  bitrate = rate;
  sample_point = 0;
  tq = 0;
  prop_seg = 0;
  phase_seg1 = 0;
  phase_seg2 = 0;
  sjw = 0;
  brp = 0;
}

-- modes; the names of their bits are those of the row
abbrev pub modes_fields : List FieldRow
modes_fields = field "mask" 0 (u32_flags []) ∷ field "flags" 4 (u32_flags []) ∷ []

abbrev pub modes_held : CanCtrlMode → List Value
modes_held m = map (Number 4) (mode_bits m.mask ∷ mode_bits m.flags ∷ [])

-- a clock
abbrev pub clock_fields : List FieldRow
clock_fields = field_in Hertz "freq" 0 u32 ∷ []

abbrev pub clock_held : CanClock → List Value
clock_held c = Number 4 c.freq ∷ []

-- error counters
abbrev pub errors_fields : List FieldRow
errors_fields = field "txerr" 0 u16 ∷ field "rxerr" 2 u16 ∷ []

abbrev pub errors_held : CanBerrCounter → List Value
errors_held e = map (Number 2) (e.txerr ∷ e.rxerr ∷ [])
