-- `==` on the structs of a CAN controller compares every field.
use Rattle.std.specs.Prelude.{ℕ, ◌==◌, ◌&&◌, [], ◌∷◌, refl, string_eq}
use Rattle.link_base.specs.Class.{Limited}
use Rattle.link_base.specs.Table.{Case, Single}
use Rattle.link_base.specs.Layout.{octets_of}
use Rattle.link_base.specs.Equality.{IsThorough, through, wrapped, pairs, pairs_by, texts, numbers}
use Rattle.link_vlan_can.specs.CanLimits.{limits_value}
use Rattle.link_vlan_can.specs.declared.can_records.CanBitTiming.{CanBitTiming}
use Rattle.link_vlan_can.specs.declared.can_records.CanCtrlMode.{CanCtrlMode}
use Rattle.link_vlan_can.specs.declared.can_records.CanClock.{CanClock}
use Rattle.link_vlan_can.specs.declared.can_records.CanBerrCounter.{CanBerrCounter}
use Rattle.link_vlan_can.specs.declared.can_limits.CanBitTimingConst.{CanBitTimingConst}

-- eight numbers
abbrev Eight : Type 0
Eight = ℕ × (ℕ × (ℕ × (ℕ × (ℕ × (ℕ × (ℕ × ℕ))))))

-- eight numbers, each compared by `==`
eight : IsThorough
    (λ (x y : Eight). x.0 == y.0 && (x.1.0 == y.1.0 && (x.1.1.0 == y.1.1.0 && (x.1.1.1.0 == y.1.1.1.0 && (x.1.1.1.1.0 == y.1.1.1.1.0
    && (x.1.1.1.1.1.0 == y.1.1.1.1.1.0 && (x.1.1.1.1.1.1.0 == y.1.1.1.1.1.1.0 && x.1.1.1.1.1.1.1 == y.1.1.1.1.1.1.1)))))))
    (λ (x : Eight). x)
eight = pairs numbers (pairs numbers (pairs numbers (pairs numbers (pairs numbers (pairs numbers (pairs numbers numbers))))))

pub timings : IsThorough
    (λ (a b : CanBitTiming). a.bitrate == b.bitrate && (a.sample_point == b.sample_point && (a.tq == b.tq && (a.prop_seg == b.prop_seg
    && (a.phase_seg1 == b.phase_seg1 && (a.phase_seg2 == b.phase_seg2 && (a.sjw == b.sjw && a.brp == b.brp)))))))
    (λ (a : CanBitTiming). a)
timings = wrapped
    (λ (t : CanBitTiming). (t.bitrate, (t.sample_point, (t.tq, (t.prop_seg, (t.phase_seg1, (t.phase_seg2, (t.sjw, t.brp))))))))
    (λ (x : Eight). record {
      bitrate = x.0;
      sample_point = x.1.0;
      tq = x.1.1.0;
      prop_seg = x.1.1.1.0;
      phase_seg1 = x.1.1.1.1.0;
      phase_seg2 = x.1.1.1.1.1.0;
      sjw = x.1.1.1.1.1.1.0;
      brp = x.1.1.1.1.1.1.1;
    })
    (λ _. refl) eight

pub clocks : IsThorough (λ (a b : CanClock). a.freq == b.freq) (λ (a : CanClock). a)
clocks = wrapped (λ (c : CanClock). c.freq) (λ frequency. record { freq = frequency }) (λ _. refl) numbers

pub counters : IsThorough (λ (a b : CanBerrCounter). a.txerr == b.txerr && a.rxerr == b.rxerr) (λ (a : CanBerrCounter). a)
counters = wrapped (λ (c : CanBerrCounter). (c.txerr, c.rxerr)) (λ (x : ℕ × ℕ). record { txerr = x.0; rxerr = x.1 }) (λ _. refl) (pairs numbers numbers)

pub modes : IsThorough (λ (a b : CanCtrlMode). a.mask.0 == b.mask.0 && a.flags.0 == b.flags.0) (λ (a : CanCtrlMode). a)
modes = wrapped (λ (m : CanCtrlMode). (m.mask.0, m.flags.0)) (λ (x : ℕ × ℕ). record { mask = record { 0 = x.0 }; flags = record { 0 = x.1 } }) (λ _. refl) (pairs numbers numbers)

-- limits that compare equal have the same name and the same bytes of the numbers
pub limits : {k : ℕ} → IsThorough
    (λ (a b : CanBitTimingConst). string_eq a.name b.name && (a.tseg1_min == b.tseg1_min && (a.tseg1_max == b.tseg1_max && (a.tseg2_min == b.tseg2_min
    && (a.tseg2_max == b.tseg2_max && (a.sjw_max == b.sjw_max && (a.brp_min == b.brp_min && (a.brp_max == b.brp_max && a.brp_inc == b.brp_inc))))))))
    (λ (a : CanBitTimingConst). Case k (Single (limits_value a)))
limits {k} = through
    (λ (c : CanBitTimingConst). (c.name, (c.tseg1_min, (c.tseg1_max, (c.tseg2_min, (c.tseg2_max, (c.sjw_max, (c.brp_min, (c.brp_max, c.brp_inc)))))))))
    (λ m. Case k (Single (Limited m.0 (octets_of 4 (m.1.0 ∷ m.1.1.0 ∷ m.1.1.1.0 ∷ m.1.1.1.1.0 ∷ m.1.1.1.1.1.0 ∷ m.1.1.1.1.1.1.0 ∷ m.1.1.1.1.1.1.1.0 ∷ m.1.1.1.1.1.1.1.1 ∷ [])))))
    (pairs_by texts eight)
