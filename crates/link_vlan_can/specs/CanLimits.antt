-- The bit timing limits of a CAN controller.
use Rattle.std.specs.Prelude.{ℕ, List, [], ◌∷◌, take, replicate, string_bytes, Result}
use Rattle.link_base.specs.declared.wire.fault.DecodeError.{DecodeError}
use Rattle.link_base.specs.Name.{before_nul, name_of}
use Rattle.link_base.specs.Class.{Value, Limited, AtLeast, accepted}
use Rattle.link_base.specs.Layout.{numbers_at, octets_of}
use Rattle.link_base.specs.Answers.{PayloadAnswers}
use Rattle.link_vlan_can.specs.declared.can_limits.CanBitTimingConst.{CanBitTimingConst}
use Rattle.link_vlan_can.specs.declared.can_limits_seen.CanBitTimingLimits.{CanBitTimingLimits}

-- the bytes of the name, and the eight numbers in order
pub record LimitsView : Type 0 where
  pub name : List ℕ
  pub numbers : List ℕ

-- the limits with this name and these numbers
abbrev pub limits : List ℕ → List ℕ → LimitsView
limits text xs = record { name = text; numbers = xs }

-- the limits in a value
abbrev pub limits_view : CanBitTimingConst → LimitsView
limits_view c = limits (string_bytes c.name) (c.tseg1_min ∷ c.tseg1_max ∷ c.tseg2_min ∷ c.tseg2_max ∷ c.sjw_max ∷ c.brp_min ∷ c.brp_max ∷ c.brp_inc ∷ [])

-- the limits with this name and all numbers 0
abbrev pub limits_with : List ℕ → LimitsView
limits_with text = limits text (replicate 8 0)

-- the limits in a payload: the name, then the numbers
abbrev pub limits_of : List ℕ → LimitsView
limits_of p = limits (name_of (take 16 p)) (numbers_at 4 8 16 p)

-- the limits in a payload, with the name as its bytes
abbrev pub limits_seen : List ℕ → LimitsView
limits_seen p = limits (before_nul (take 16 p)) (numbers_at 4 8 16 p)

-- the limits that are read without memory
abbrev pub limits_shown : CanBitTimingLimits → LimitsView
limits_shown c = limits c.name.now (c.tseg1_min ∷ c.tseg1_max ∷ c.tseg2_min ∷ c.tseg2_max ∷ c.sjw_max ∷ c.brp_min ∷ c.brp_max ∷ c.brp_inc ∷ [])

-- the bytes of the numbers
abbrev pub limits_octets : CanBitTimingConst → List ℕ
limits_octets c = octets_of 4 (limits_view c).numbers

-- the limits as a value of the class `Limits`
abbrev pub limits_value : CanBitTimingConst → Value
limits_value c = Limited (string_bytes c.name) (limits_octets c)

-- the result is the limits in a payload, or why it was rejected, unless an allocation failed
abbrev pub LimitsAnswer : List ℕ → Result CanBitTimingConst DecodeError → Type 0
LimitsAnswer p result = PayloadAnswers limits_view result (accepted (AtLeast 48) limits_of p)
