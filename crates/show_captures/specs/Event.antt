-- The output for the units of an input.
use Rattle.std.specs.Prelude.{◌≡◌, ℕ, suc, Bool, true, false, ◌&&◌, List, [], ◌∷◌, ◌++◌, Option, Some, None}
use Rattle.std.specs.Io.KnownBytes.{Appends}
use Rattle.link_capture.specs.declared.error.InputError.{InputError}
use Rattle.link_capture.specs.declared.form.Form.{Form}
use Rattle.link_capture.specs.Meaning.{UnitMeaning, Nothing, APacket, AMessage, ATime}
use Rattle.link_capture.specs.Unit.{Reads}
use Rattle.link_show.specs.List.{EachShown}
use Rattle.show_captures.specs.Shower.{UnitShower}

-- the output for a unit, after n packets, and whether it has no error
abbrev pub ShowsUnit : UnitShower → ℕ × UnitMeaning → List ℕ → Bool → Type 0
ShowsUnit shower (n, Nothing) out well = (out ≡ []) × (well ≡ true)
ShowsUnit shower (n, APacket p) out well = shower.packets (suc n) p out well
ShowsUnit shower (n, AMessage bytes) out well = shower.messages bytes out well
ShowsUnit shower (n, ATime time) out well = shower.times time out × (well ≡ true)

-- how many packets there are up to a unit, if n precede it
abbrev pub packets_to : ℕ → UnitMeaning → ℕ
packets_to n (APacket p) = suc n
packets_to n meaning = n

abbrev pub packets_in : ℕ → List UnitMeaning → ℕ
packets_in n [] = n
packets_in n (meaning ∷ units) = packets_in (packets_to n meaning) units

-- units, each with the number of packets before it, if n precede the first
abbrev pub counted : ℕ → List UnitMeaning → List (ℕ × UnitMeaning)
counted n [] = []
counted n (meaning ∷ units) = (n, meaning) ∷ counted (packets_to n meaning) units

-- what is written for the error that ends an input, if there is one
abbrev pub end_line : UnitShower → Option (ℕ × InputError) → List ℕ
end_line shower None = []
end_line shower (Some fault) = shower.errors fault.0 fault.1

abbrev pub is_well : Option (ℕ × InputError) → Bool
is_well None = true
is_well (Some fault) = false

-- the output for an input in this form, and whether it has no error
pub record ShowsCapture (shower : UnitShower) (form : Form) (s out : List ℕ) (whole : Bool) : Type 0 where
  pub units : List UnitMeaning
  pub fault : Option (ℕ × InputError)
  pub reads : Reads form s units fault
  pub lines : List ℕ
  pub well : Bool
  pub each : EachShown (ShowsUnit shower) (counted 0 units) lines well
  pub joined : out ≡ lines ++ end_line shower fault
  pub all : whole ≡ (well && is_well fault)

-- the output for a unit was written
abbrev pub WritesUnit : UnitShower → ℕ → UnitMeaning → Option (List ℕ) → Option (List ℕ) → Bool → Type 0
WritesUnit shower n meaning held_before held_after well = (out : List ℕ) × ShowsUnit shower (n, meaning) out well × Appends held_before held_after out
