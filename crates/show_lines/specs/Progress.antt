-- The progress of a run through its input.
use Rattle.std.specs.Prelude.{◌≡◌, ◌≢◌, ◌⊎◌, ℕ, suc, ◌+◌, Bool, ◌&&◌, List, [], ◌++◌, length, take, Option}
use Rattle.std.specs.List.{flat_map, AllByRecursion}
use Rattle.std.specs.Io.KnownBytes.{Appends, Keeps}
use Rattle.netlink_packet_route.specs.Report.{line, most_text}
use Rattle.show_lines.specs.declared.arguments.Options.{Options}
use Rattle.show_lines.specs.declared.asking.Asked.{Asked}
use Rattle.link_show.specs.List.{EachShown}
use Rattle.show_lines.specs.Show.{Form, Shower, numbered, repeated, ShowsBare, IsUnbroken}

-- how many bytes of a line are kept at most: one more than the maximum length of a line
abbrev pub most_held : ℕ
most_held = most_text + 1

-- the part of the current line that is kept; the rest does not affect the output
abbrev pub held_of : List ℕ → List ℕ
held_of text = take most_held text

-- the output of all complete lines is written, and what follows the last LF is kept, with the number of its line
pub record Shown (shows : Shower) (text out : List ℕ) (held : ℕ × List ℕ) (whole : Bool) : Type 0 where
  pub lines : List (List ℕ)
  pub current : List ℕ
  pub cut : text ≡ flat_map line lines ++ current
  pub unbroken : AllByRecursion IsUnbroken lines
  pub open_end : IsUnbroken current
  pub counted : held.0 ≡ suc (length lines)
  pub is_held : held.1 ≡ held_of current
  pub shown : EachShown shows (numbered 1 lines) out whole

-- the next piece of the input, after any beginning: what is kept then, what is written, and whether none of the lines
-- that end in the piece has an error
abbrev pub Goes : Shower → ℕ × List ℕ → ℕ × List ℕ → List ℕ → List ℕ → Bool → Type 0
Goes shows before after piece written all =
    (text out : List ℕ) (whole : Bool) → Shown shows text out before whole → Shown shows (text ++ piece) (out ++ written) after (whole && all)

-- ---- what functions write

-- the output for a line was written; the line may have its number with it
abbrev pub WritesLine : {X : Type 0} → (X → List ℕ → Bool → Type 0) → X → Option (List ℕ) → Option (List ℕ) → Bool → Type 0
WritesLine shows x held_before held_after read = (out : List ℕ) × shows x out read × Appends held_before held_after out

-- a line was repeated, and the output of its command for these bytes written
abbrev pub WritesAnswer : Form → Asked → List ℕ → List ℕ → Option (List ℕ) → Option (List ℕ) → Bool → Type 0
WritesAnswer form asked bytes text held_before held_after read = (below : List ℕ) × form asked bytes below read × Appends held_before held_after (line (repeated text) ++ below)

-- the output for messages that are on no line was written
abbrev pub WritesMessages : Options → List ℕ → Option (List ℕ) → Option (List ℕ) → Bool → Type 0
WritesMessages options bytes held_before held_after well = (out : List ℕ) × ShowsBare options bytes out well × Appends held_before held_after out

-- the output for what follows the last LF was written, if that is not empty; and whether no line has an error
abbrev pub WritesRest : Shower → ℕ × List ℕ → Bool → Option (List ℕ) → Option (List ℕ) → Bool → Type 0
WritesRest shows held whole held_before held_after all =
    ((held.1 ≡ []) × Keeps held_before held_after × (all ≡ whole))
    ⊎ ((held.1 ≢ []) × ((read : Bool) × WritesLine shows held held_before held_after read × (all ≡ (whole && read))))

-- the output for a piece of the input was written
abbrev pub WritesPiece : Shower → ℕ × List ℕ → ℕ × List ℕ → List ℕ → Option (List ℕ) → Option (List ℕ) → Bool → Type 0
WritesPiece shows before after piece held_before held_after all = (out : List ℕ) × Goes shows before after piece out all × Appends held_before held_after out
