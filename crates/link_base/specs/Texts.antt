-- The `Display` output of `Cause` and `DecodeFault`.
use Rattle.std.specs.Prelude.{ℕ, List, ◌++◌, codes}
use Rattle.std.specs.Fmt.{decimal}
use Rattle.link_base.specs.declared.wire.fault.Cause.{Cause}
use Rattle.link_base.specs.declared.wire.fault.Cause.TheVariants.{ShortFrame, SmallLength, Overrun, WrongLength, TooShort, AddressLength}
use Rattle.link_base.specs.declared.wire.fault.DecodeFault.{DecodeFault}
use Rattle.link_base.specs.declared.wire.fault.DecodeFault.TheVariants.{Frame, Value, NestedFrame, NestedValue, Payload, Text}

-- why an attribute or a payload is malformed
abbrev pub cause_text : Cause → List ℕ
cause_text (ShortFrame left) = codes "short frame " ++ decimal left
cause_text (SmallLength stated) = codes "small length " ++ decimal stated
cause_text (Overrun stated left) = codes "overrun " ++ decimal stated ++ codes " " ++ decimal left
cause_text (WrongLength want got) = codes "wrong length " ++ decimal want ++ codes " " ++ decimal got
cause_text (TooShort want got) = codes "too short " ++ decimal want ++ codes " " ++ decimal got
cause_text (AddressLength got) = codes "address length " ++ decimal got

-- an attribute type, and why its payload is malformed
abbrev pub value_text : ℕ → Cause → List ℕ
value_text kind cause = codes "kind " ++ (decimal kind ++ (codes ": " ++ cause_text cause))

abbrev pub fault_text : DecodeFault → List ℕ
fault_text (Frame cause) = cause_text cause
fault_text (Value kind cause) = value_text kind cause
fault_text (NestedFrame kind cause) = codes "kind " ++ (decimal kind ++ (codes ": list: " ++ cause_text cause))
fault_text (NestedValue kind inner cause) = codes "kind " ++ (decimal kind ++ (codes ": list: " ++ value_text inner cause))
fault_text (Payload cause) = cause_text cause
fault_text Text = codes "unknown text"
