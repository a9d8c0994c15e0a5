-- The last attribute of a type in a list, up to its first malformed header.
use Rattle.std.specs.Prelude.{ℕ, ◌+◌, ◌==◌, List, Option, None}
use Rattle.std.specs.Option.{option_map}
use Rattle.std.specs.List.{filter, last_or}
use Rattle.link_base.specs.declared.wire.fault.Cause.{Cause}
use Rattle.link_base.specs.Frame.{kind_of}
use Rattle.link_base.specs.Buffer.{kind_field_of, payload_of}
use Rattle.link_messages.specs.Finding.{Stretch}
use Rattle.netlink_packet_route.specs.Opening.{without_nul}
use Rattle.link_messages.specs.Walk.{Item, Walk}

-- an attribute, wherever its bytes are in memory: its offset in the list, `nla_type`, and the payload
abbrev pub Seen : Type 0
Seen = ℕ × ℕ × List ℕ

abbrev pub seen_of : Item → Seen
seen_of x = (x.0, kind_field_of x.1, payload_of x.1)

-- P holds of the attributes of this list up to its first malformed header, and of that header's offset and cause. A list
-- has exactly one such walk: `last_before_fault` ensures that there is one, and `laws::one_walk` that there is no other
abbrev pub OfWalk : List ℕ → (List Item → Option (ℕ × Cause) → Type 0) → Type 0
OfWalk list P = (items : List Item) (fault : Option (ℕ × Cause)) → Walk list items fault → P items fault

-- the last attribute of type `kind`
abbrev pub last_item : ℕ → List Item → Option Item
last_item kind items = last_or None (filter (λ x. kind_of (kind_field_of x.1) == kind) items)

-- the payload of an attribute, with its offset, if the list is at offset `base`
abbrev pub payload_at : ℕ → Item → Stretch
payload_at base x = (base + x.0 + 4, payload_of x.1)

-- the payload of the last attribute of type `kind`
abbrev pub latest : ℕ → ℕ → List Item → Option Stretch
latest base kind items = option_map (payload_at base) (last_item kind items)

-- the name in a payload, without the NUL at its end
abbrev pub name_in : Option Stretch → Option (List ℕ)
name_in found = option_map (λ p. without_nul p.1) found
