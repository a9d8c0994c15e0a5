-- Two versions of a table: the second has rows for attribute types that have none in the first.
use Rattle.std.specs.Prelude.{◌≡◌, ◌↔◌, ℕ, not, false, List, ◌++◌, map, Result}
use Rattle.std.specs.List.{filter, AllByRecursion}
use Rattle.link_base.specs.declared.wire.fault.DecodeFault.{DecodeFault}
use Rattle.link_base.specs.Frame.{Frame, IsComplete, BeginsWith, kind_of, bytes_of_frames}
use Rattle.link_base.specs.Class.{is_listed}
use Rattle.link_base.specs.Wire.{Reads}
use Rattle.link_base.specs.Table.{Row, Table, AttrValue, Gives, Canonical}

-- the rows of these attribute types
abbrev pub among : {C : Type 0} → List ℕ → List (Row C) → List (Row C)
among kinds rows = filter (λ r. is_listed kinds r.kind) rows

-- the rows of all other attribute types
abbrev pub without : {C : Type 0} → List ℕ → List (Row C) → List (Row C)
without kinds rows = filter (λ r. not (is_listed kinds r.kind)) rows

-- the attribute types that have rows
abbrev pub kinds_of : {C : Type 0} → List (Row C) → List ℕ
kinds_of rows = map (λ r. r.kind) rows

-- The frame is in the list, after zero or more complete frames. If a header in the list is malformed, the frame is
-- before it.
pub record StandsIn (s : List ℕ) (x : Frame) : Type 0 where
  pub front : List Frame
  pub rest : List ℕ
  pub string : s ≡ bytes_of_frames front ++ rest
  pub complete : AllByRecursion IsComplete front
  pub begins : BeginsWith rest x

-- no frame in the list has one of these attribute types
abbrev pub HasNone : List ℕ → List ℕ → Type 0
HasNone kinds s = (x : Frame) → StandsIn s x → is_listed kinds (kind_of x.kind_field) ≡ false

-- the list decodes to the same values with both tables, or has the same first error
abbrev pub ReadsAlike : Table → Table → List ℕ → Type 0
ReadsAlike first second s =
    (q : Result (List AttrValue) (ℕ × DecodeFault)) → Reads (Gives first) s q ↔ Reads (Gives second) s q

-- The second table adds these attribute types to the first: the first is the second without their rows, and each of
-- them has a row in the second. A list without attributes of these types decodes to the same result with both tables,
-- and is canonical with both or with neither.
pub record AreEditions (added : List ℕ) (first second : Table) : Type 0 where
  pub rows : first ≡ without added second
  pub new : kinds_of (among added second) ≡ added
  pub read : (s : List ℕ) → HasNone added s → ReadsAlike first second s
  pub canonical : (s : List ℕ) → HasNone added s → Canonical first s ↔ Canonical second s
