-- What a run of the program reads, writes and returns.
use Rattle.std.specs.Prelude.{◌≡◌, ◌≢◌, ◌⊎◌, ℕ, ◌+◌, ◌≤◌, List, length, codes, Option, Some}
use Rattle.std.specs.Io.KnownBytes.{Appends, Consumes, IsAtEnd}
use Rattle.netlink_packet_route.specs.Table.{Table}
use Rattle.netlink_packet_route.specs.declared.family.Family.{Family}
use Rattle.netlink_packet_route.specs.Family.{family_name}
use Rattle.netlink_packet_route.specs.Report.{Reports, line, most_text}

-- how many bytes are read at most: one more than the maximum input length
abbrev pub most_read : ℕ
most_read = most_text + 1

-- `text` was read from a reader
pub record IsRead (left_before left_after : Option (List ℕ)) (text : List ℕ) : Type 0 where
  pub bytes : Consumes left_before left_after text
  pub most : length text ≤ most_read

-- `most_read` bytes were read, or the reader is at its end
abbrev pub IsAllRead : List ℕ → Option (List ℕ) → Type 0
IsAllRead text left = (length text ≡ most_read) ⊎ IsAtEnd left

-- the input that was read, and its report, which was written
pub record RunsFor (table : Table) (left_before left_after held_before held_after : Option (List ℕ)) (status : ℕ) : Type 0 where
  pub text : List ℕ
  pub out : List ℕ
  pub read : IsRead left_before left_after text
  pub all : IsAllRead text left_after
  pub report : Reports table text out status
  pub written : Appends held_before held_after out

-- the name is not that of a Family, or there is none
abbrev pub IsNoFamily : Option (List ℕ) → Type 0
IsNoFamily name = (family : Family) → name ≢ Some (family_name family)

-- the name is that of this Family, and of no other
pub record IsNamed (name : Option (List ℕ)) (family : Family) : Type 0 where
  pub named : name ≡ Some (family_name family)
  pub only : (other : Family) → name ≡ Some (family_name other) → other ≡ family

abbrev pub usage_line : List ℕ
usage_line = line (codes "usage: nlroute FAMILY")
