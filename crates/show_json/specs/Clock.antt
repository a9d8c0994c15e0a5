-- The JSON of an instant.
use Rattle.std.specs.Prelude.{◌≡◌, pos, ℕ, ◌/◌, ◌%◌, List, [], ◌∷◌, Option, Some, None, codes}
use Rattle.json.specs.Json.{Json, null, string}
use Rattle.link_capture.specs.declared.event.Time.{Time}
use Rattle.link_json.specs.Doc.{object_of, number_json}
use Rattle.show_captures.specs.Time.{HasText, IsUtcText}
use Rattle.show_json.specs.declared.clocks.Clock.{Clock}

-- a text, and a second with a nanosecond of it
abbrev pub instant_json : List ℕ → ℕ → ℕ → Json
instant_json utc second nanosecond = object_of ((codes "utc", string utc) ∷ (codes "sec", number_json second) ∷ (codes "nsec", number_json nanosecond) ∷ [])

-- what a clock in UTC shows, and the seconds since 1970 with the nanoseconds after them; null for an instant without a text
pub data ShowsClock (time : Time) (j : Json) : Type 0 where
  InRange : (n : ℕ) → time.nanosecond ≡ pos n → HasText time.nanosecond → (utc : List ℕ) → IsUtcText time utc → j ≡ instant_json utc (n / 1_000_000_000) (n % 1_000_000_000) → ShowsClock time j
  OutOfRange : ¬ HasText time.nanosecond → j ≡ null → ShowsClock time j

-- what is kept of an instant
abbrev pub clock_json : Option Clock → Json
clock_json None = null
clock_json (Some clock) = instant_json clock.utc.bytes clock.seconds clock.nanoseconds
