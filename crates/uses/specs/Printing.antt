-- The printed form of a list.
use Rattle.std.specs.Prelude.{◌≡◌, ◌==◌, ℕ, not, List, [], ◌++◌, map, filter, take, Option, None, Some, IfSome, MatchOption, Contains}
use Rattle.std.specs.List.{flat_map, AllZip}
use Rattle.std.specs.Io.KnownBytes.{Appends}
use Rattle.netlink_packet_route.specs.Report.{line, fault_line}
use Rattle.netlink_packet_route.specs.Table.{Table, AttrValue, Gives}
use Rattle.netlink_packet_route.specs.Wire.{Wire, FirstFault}
use Rattle.netlink_packet_route.specs.declared.link.DecodeFault.{DecodeFault}

-- the values of s up to the first decode error, and this error with its offset; or all values, if there is no error
abbrev pub IsFront : Table → List ℕ → List AttrValue → Option (ℕ × DecodeFault) → Type 0
IsFront table s vs fault =
    MatchOption fault (Wire (Gives table) s vs) (λ f. FirstFault (Gives table) s f.0 f.1 × Wire (Gives table) (take f.0 s) vs)

-- the line of a decode error, if there is one
abbrev pub last_line : Option (ℕ × DecodeFault) → List ℕ
last_line None = []
last_line (Some fault) = fault_line fault.0 fault.1

-- the text of a value has no LF, and is what `{:?}` writes, without its LFs, if the value's type specifies that
pub record IsTextOf (written : Option (List ℕ)) (text : List ℕ) : Type 0 where
  pub unbroken : ¬ Contains text 10
  pub same : IfSome written (λ all. text ≡ filter (λ b. not (b == 10)) all)

-- a text for each value
abbrev pub AreTextsOf : {X : Type 0} → (X → Option (List ℕ)) → List X → List (List ℕ) → Type 0
AreTextsOf debug vs words = AllZip (λ v text. IsTextOf (debug v) text) vs words

-- the output: a line for each value up to the first decode error, and a line for the error
pub record IsPrinted {X : Type 0} (table : Table) (means : X → AttrValue) (debug : X → Option (List ℕ)) (s out : List ℕ) : Type 0 where
  pub values : List X
  pub fault : Option (ℕ × DecodeFault)
  pub front : IsFront table s (map means values) fault
  pub words : List (List ℕ)
  pub each : AreTextsOf debug values words
  pub text : out ≡ flat_map line words ++ last_line fault

-- the output for a list was appended
abbrev pub PrintsList : {X : Type 0} → Table → (X → AttrValue) → (X → Option (List ℕ)) → List ℕ → Option (List ℕ) → Option (List ℕ) → Type 0
PrintsList table means debug s old new = (out : List ℕ) × IsPrinted table means debug s out × Appends old new out

-- a line for each of these values was appended
abbrev pub PrintsLines : {X : Type 0} → (X → Option (List ℕ)) → List X → Option (List ℕ) → Option (List ℕ) → Type 0
PrintsLines debug vs old new = (words : List (List ℕ)) × AreTextsOf debug vs words × Appends old new (flat_map line words)
