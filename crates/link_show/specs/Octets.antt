-- Bytes: hardware addresses, and bytes in hexadecimal.
use Rattle.std.specs.Prelude.{ℕ, ◌/◌, ◌%◌, List, ◌++◌, map, codes}
use Rattle.std.specs.List.{flat_map}
use Rattle.std.specs.Net.Addr.{segments_of}
use Rattle.std.specs.Net.Text.{ipv6_text}
use Rattle.link_show.specs.Text.{list_text, hex}

-- a byte as two digits
abbrev pub byte_text : ℕ → List ℕ
byte_text b = hex (b / 16) ++ hex (b % 16)

-- bytes, with nothing between them
abbrev pub hex_text : List ℕ → List ℕ
hex_text bytes = flat_map byte_text bytes

-- a hardware address
abbrev pub address_text : List ℕ → List ℕ
address_text bytes = list_text (codes ":") (map byte_text bytes)

-- the IPv6 address of sixteen bytes, by their low eight bits: in the logic, bytes have no limit
abbrev pub ip6_text : List ℕ → List ℕ
ip6_text bytes = ipv6_text (segments_of (map (λ b. b % 256) bytes))
