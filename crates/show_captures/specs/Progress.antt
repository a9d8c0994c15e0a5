-- The progress of a run through an input.
use Rattle.std.specs.Prelude.{◌≡◌, ◌≤◌, ℕ, ◌+◌, Bool, true, false, ◌&&◌, List, [], ◌++◌, length, drop, Option}
use Rattle.std.specs.Io.KnownBytes.{Appends, Consumes, IsAtEnd}
use Rattle.link_capture.specs.declared.error.InputError.{InputError}
use Rattle.link_capture.specs.declared.form.Form.{Form}
use Rattle.link_capture.specs.Meaning.{UnitMeaning}
use Rattle.link_capture.specs.Form.{needs_more}
use Rattle.link_capture.specs.Unit.{Leads, IsEnd, IsTooShort, Follows}
use Rattle.link_show.specs.List.{EachShown}
use Rattle.show_captures.specs.declared.place.Place.{Place}
use Rattle.show_captures.specs.declared.units.Turn.{Turn}
use Rattle.show_captures.specs.declared.units.Turn.TheVariants.{More, Done}
use Rattle.show_captures.specs.Event.{ShowsUnit, counted, packets_in, packets_to, end_line, is_well}
use Rattle.show_captures.specs.Shower.{UnitShower}

-- the beginning of an input in this form
abbrev pub start_of : Form → Place
start_of form = record { capture = record { form = form; interfaces = [] }; at = 0; packets = 0 }

-- the units of the bytes s lead from one place of an input to another, where the bytes `left` are left, whatever follows; and
-- the output for them
pub record Passes (shower : UnitShower) (is_last : Bool) (old new : Place) (s left out : List ℕ) (well : Bool) : Type 0 where
  pub units : List UnitMeaning
  pub leads : (more : List ℕ) → Follows is_last more → Leads old.capture old.at (s ++ more) units new.capture new.at (left ++ more)
  pub packets : new.packets ≡ packets_in old.packets units
  pub each : EachShown (ShowsUnit shower) (counted old.packets units) out well

-- the units of the bytes s and what ends them, whatever follows; and the output
pub record Finishes (shower : UnitShower) (is_last : Bool) (old : Place) (s out : List ℕ) (whole : Bool) : Type 0 where
  pub last : Place
  pub left : List ℕ
  pub lines : List ℕ
  pub well : Bool
  pub passes : Passes shower is_last old last s left lines well
  pub fault : Option (ℕ × InputError)
  pub ends : (more : List ℕ) → Follows is_last more → IsEnd last.capture last.at (left ++ more) fault
  pub joined : out ≡ lines ++ end_line shower fault
  pub all : whole ≡ (well && is_well fault)

-- a unit of n bytes was counted
pub record Counts (meaning : UnitMeaning) (n : ℕ) (old new : Place) : Type 0 where
  pub capture : new.capture ≡ old.capture
  pub at : new.at ≡ old.at + n
  pub packets : new.packets ≡ packets_to old.packets meaning

-- n bytes were read and appended, none of them only at the end
abbrev pub ReadsOn : List ℕ → List ℕ → Option (List ℕ) → Option (List ℕ) → ℕ → Type 0
ReadsOn held_before held_after left_before left_after n =
    (piece : List ℕ) × (held_after ≡ held_before ++ piece) × Consumes left_before left_after piece × (n ≡ length piece) × (n ≡ 0 → IsAtEnd left_after)

-- the first bytes of an input, of which a read takes at most n: those before the last read are too few to tell the form
pub record AreFirst (n : ℕ) (s : List ℕ) : Type 0 where
  pub before : List ℕ
  pub piece : List ℕ
  pub joined : s ≡ before ++ piece
  pub begins : needs_more before ≡ true
  pub few : length piece ≤ n

-- the output for the units of these bytes was written, as far as they are whole, and what is left is too short for a unit; or with
-- what ends them
abbrev pub WritesUnits : UnitShower → Bool → Place → Place → List ℕ → Option (List ℕ) → Option (List ℕ) → Turn → Type 0
WritesUnits shower is_last old new s held_before held_after (More used well) =
    (is_last ≡ false) × (used ≤ length s) × IsTooShort new.capture (drop used s) × ((out : List ℕ) × Passes shower is_last old new s (drop used s) out well × Appends held_before held_after out)
WritesUnits shower is_last old new s held_before held_after (Done well) = (out : List ℕ) × Finishes shower is_last old s out well × Appends held_before held_after out
