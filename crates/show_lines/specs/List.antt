-- The output for a list.
use Rattle.std.specs.Prelude.{◌≡◌, ◌≢◌, ℕ, ◌+◌, ◌==◌, Bool, true, false, List, [], ◌∷◌, ◌++◌, length, codes, if◌then◌else◌}
use Rattle.std.specs.List.{flat_map, AllByRecursion}
use Rattle.netlink_packet_route.specs.Wire.{Wire, FirstFault}
use Rattle.netlink_packet_route.specs.Table.{Table, AttrValue, Gives}
use Rattle.netlink_packet_route.specs.Report.{line, fault_line}

-- no LF
abbrev pub IsUnbroken : List ℕ → Type 0
IsUnbroken text = AllByRecursion (λ b. b ≢ 10) text

-- a text with `\n` in place of each LF
abbrev pub unbroken : List ℕ → List ℕ
unbroken text = flat_map (λ b. if b == 10 then codes "\\n" else b ∷ []) text

-- n lines, with any text without LF, each indented by `indent` and two spaces
abbrev pub AreIndented : List ℕ → List ℕ → ℕ → Type 0
AreIndented indent out n =
    (words : List (List ℕ)) × (length words ≡ n) × AllByRecursion IsUnbroken words × (out ≡ flat_map (λ w. line (indent ++ (codes "  " ++ w))) words)

-- the output, with an indent, for a list at offset `base`, and whether it decodes: a line for each value, or one for
-- the first decode error
pub data ShowsList (indent : List ℕ) (base : ℕ) (table : Table) (s out : List ℕ) (read : Bool) : Type 0 where
  Values : (vs : List AttrValue) → Wire (Gives table) s vs → AreIndented indent out (length vs) → read ≡ true → ShowsList indent base table s out read
  Fault : (at : ℕ) (fault : _) → FirstFault (Gives table) s at fault → out ≡ indent ++ fault_line (base + at) fault → read ≡ false → ShowsList indent base table s out read

-- ---- what functions append to a string

-- the output for an item was appended
abbrev pub Adds : (List ℕ → Bool → Type 0) → List ℕ → List ℕ → Bool → Type 0
Adds shows old new read = (out : List ℕ) × shows out read × (new ≡ old ++ out)

-- n lines were appended
abbrev pub AddsLines : List ℕ → ℕ → List ℕ → List ℕ → Type 0
AddsLines indent n old new = (out : List ℕ) × AreIndented indent out n × (new ≡ old ++ out)
