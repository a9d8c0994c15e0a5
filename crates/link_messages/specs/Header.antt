-- The header of a message about a link: `struct ifinfomsg` (`include/uapi/linux/rtnetlink.h`).
use Rattle.std.specs.Prelude.{◌≡◌, ◌⊎◌, ℕ, ◌+◌, ◌<◌, ◌≤◌, List, length, take, drop, slice_index}
use Rattle.netlink_packet_route.specs.Class.{integer}
use Rattle.netlink_packet_route.specs.Layout.{number_at}
use Rattle.link_messages.specs.declared.header.LinkHeader.{LinkHeader}
use Rattle.link_messages.specs.declared.message.MessageError.{MessageError}
use Rattle.link_messages.specs.declared.message.MessageError.TheVariants as errors
use Rattle.link_messages.specs.Message.{Packet}

-- RTM_NEWLINK, RTM_DELLINK, RTM_GETLINK, RTM_SETLINK
abbrev pub IsLinkType : ℕ → Type 0
IsLinkType kind = (kind ≡ 16) ⊎ ((kind ≡ 17) ⊎ ((kind ≡ 18) ⊎ (kind ≡ 19)))

-- RTM_NEWLINKPROP, RTM_DELLINKPROP, RTM_GETLINKPROP
abbrev pub IsPropertyType : ℕ → Type 0
IsPropertyType kind = (kind ≡ 108) ⊎ ((kind ≡ 109) ⊎ (kind ≡ 110))

-- a message about a link
abbrev pub IsAnyLinkType : ℕ → Type 0
IsAnyLinkType kind = IsLinkType kind ⊎ IsPropertyType kind

-- the header with which these bytes start: `ifi_family`, and a byte that is not used; `ifi_type`; `ifi_index`; `ifi_flags`; and
-- `ifi_change`
abbrev pub header_in : List ℕ → LinkHeader
header_in body = record {
  family = slice_index body 0;
  kind = number_at 2 2 body;
  index = integer (take 4 (drop 4 body));
  flags = number_at 4 8 body;
  change = number_at 4 12 body;
}

-- the message m is about a link, and has this header
pub record HasLinkHeader (m : Packet) (header : LinkHeader) : Type 0 where
  pub kind : IsAnyLinkType m.kind
  pub size : 16 ≤ length m.payload
  pub is : header ≡ header_in m.payload

-- why the message m at offset `at` has no such header
abbrev pub HasNoLinkHeader : ℕ → Packet → MessageError → Type 0
HasNoLinkHeader at m (errors.OtherType i kind) = ¬ IsAnyLinkType m.kind × (i ≡ at) × (kind ≡ m.kind)
HasNoLinkHeader at m (errors.ShortLink i size) = IsAnyLinkType m.kind × (i ≡ at) × (size ≡ 16 + length m.payload) × (size < 32)
HasNoLinkHeader at m error = ⊥
