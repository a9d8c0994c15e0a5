-- The list of an attribute set in the attributes of a message.
use Rattle.std.specs.Prelude.{◌≡◌, ℕ, ◌==◌, List, [], ◌∷◌, length, drop, Option, Some, None, Result, Ok, Err, if◌then◌else◌}
use Rattle.netlink_packet_route.specs.declared.family.Family.{Family}
use Rattle.netlink_packet_route.specs.declared.family.Family.TheVariants.{Link}
use Rattle.netlink_packet_route.specs.Family.{family_number}
use Rattle.link_messages.specs.Finding.{Stretch}
use Rattle.link_messages.specs.Held.{context_of, levels}
use Rattle.link_messages.specs.Lists.{Listed, HasLists}
use Rattle.nlroute_ffi.specs.declared.held.ByteRange.{ByteRange}
use Rattle.nlroute_ffi.specs.declared.refusal.Refusal.{Refusal}
use Rattle.nlroute_ffi.specs.declared.refusal.Refusal.TheVariants.{Absent}

-- where a list is: its offset and its length
abbrev pub range_of : Stretch → ByteRange
range_of list = record { offset = list.0; length = length list.1 }

-- where the last of these lists is that this set reads; `o` if there is none
abbrev pub last_list : Family → Option ByteRange → List Listed → Option ByteRange
last_list set o [] = o
last_list set o (x ∷ lists) = last_list set (if family_number x.0 == family_number set then Some (range_of x.1) else o) lists

-- the range is that of the last list of this set among those that the attributes hold, behind the list of all attributes; or
-- there is none
abbrev pub HeldAnswers : ℕ → List ℕ → ByteRange → Family → Result ℕ Refusal → Type 0
HeldAnswers address_family list held family (Ok n) =
    (n ≡ 0) × ((lists : List Listed) × HasLists levels (context_of address_family) Link (0, list) lists
    × (Some held ≡ last_list family None (drop 1 lists)))
HeldAnswers address_family list held family (Err Absent) =
    (lists : List Listed) × HasLists levels (context_of address_family) Link (0, list) lists × (None ≡ last_list family None (drop 1 lists))
HeldAnswers address_family list held family (Err refusal) = ⊥
