-- Messages about links, and lists that a Family parses (`include/uapi/linux/if_link.h`).
use Rattle.std.specs.Prelude.{ℕ, ◌+◌, drop}
use Rattle.netlink_packet_route.specs.declared.family.Family.{Family}
use Rattle.link_messages.specs.declared.buffer_parts.Part.{Part}
use Rattle.link_messages.specs.Message.{Packet}
use Rattle.link_messages.specs.Finding.{Stretch, stretch_of}

-- a list, with the Family that parses it
abbrev pub part_of : Part → Family × Stretch
part_of p = (p.family, stretch_of p.payload)

-- the attributes of a message at offset `at`: what follows `struct nlmsghdr` and `struct ifinfomsg`
abbrev pub attributes_of : ℕ → Packet → Stretch
attributes_of at m = (at + 32, drop 16 m.payload)
