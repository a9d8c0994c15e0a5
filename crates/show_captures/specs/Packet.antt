-- The output for a packet.
use Rattle.std.specs.Prelude.{◌≡◌, ◌≢◌, ◌<◌, ◌≤◌, ℕ, ◌==◌, Bool, true, false, List, [], ◌∷◌, ◌++◌, length, drop, Option, Some, None, nat_lt, codes, if◌then◌else◌, ◌⊎◌}
use Rattle.std.specs.Fmt.{decimal}
use Rattle.byteorder.specs.Endian.{big_number}
use Rattle.link_base.specs.Labels.{name_in}
use Rattle.link_capture.specs.ErrorText.{bytes_text}
use Rattle.link_capture.specs.Pcap.{netlink}
use Rattle.link_capture.specs.Meaning.{Captured}
use Rattle.netlink_packet_route.specs.Report.{line}
use Rattle.show_lines.specs.declared.arguments.Options.{Options}
use Rattle.show_lines.specs.Show.{ShowsBare}
use Rattle.show_captures.specs.declared.packets.Carried.{Carried}
use Rattle.show_captures.specs.declared.packets.Carried.TheVariants as carried
use Rattle.show_captures.specs.Protocol.{protocols}
use Rattle.show_captures.specs.Time.{IsTimeText}

-- the protocol of a packet of the link type of netlink: the last two bytes of its header, which has 16, the first of them the
-- highest
abbrev pub protocol_of : List ℕ → ℕ
protocol_of bytes = big_number 2 (drop 14 bytes)

-- the protocol of a packet, if it has the link type of netlink and a whole header
abbrev pub protocol_in : Captured → Option ℕ
protocol_in p = if p.link_type == netlink then (if nat_lt (length p.bytes) 16 then None else Some (protocol_of p.bytes)) else None

-- what a packet carries: messages of NETLINK_ROUTE after its header; or too few bytes for the header; or another link type
-- or protocol
abbrev pub Carries : Captured → Carried → Type 0
Carries p (carried.Messages bytes) = (p.link_type ≡ netlink) × (16 ≤ length p.bytes) × (protocol_of p.bytes ≡ 0) × (bytes.now ≡ drop 16 p.bytes)
Carries p (carried.Short n) = (p.link_type ≡ netlink) × (length p.bytes < 16) × (n ≡ length p.bytes)
Carries p carried.Other = (p.link_type ≢ netlink) ⊎ ((p.link_type ≡ netlink) × (16 ≤ length p.bytes) × (protocol_of p.bytes ≢ 0))

-- messages with the same bytes, or another answer twice
abbrev pub IsSameCarried : Carried → Carried → Type 0
IsSameCarried (carried.Messages a) (carried.Messages b) = a.now ≡ b.now
IsSameCarried a b = a ≡ b

-- the length that a packet had, if that is not the captured one
abbrev pub original_part : ℕ → ℕ → List ℕ
original_part captured original = if original == captured then [] else codes " of " ++ decimal original

abbrev pub protocol_name : Option (List ℕ) → ℕ → List ℕ
protocol_name None n = decimal n
protocol_name (Some name) n = name ++ (codes " (" ++ (decimal n ++ codes ")"))

-- a protocol, if it is not NETLINK_ROUTE
abbrev pub protocol_part : ℕ → List ℕ
protocol_part n = if n == 0 then [] else codes " protocol " ++ protocol_name (name_in protocols n) n

-- the link type of a packet, if it is not that of netlink; otherwise its protocol, if it has a header
abbrev pub type_part : Captured → List ℕ
type_part p =
    if p.link_type == netlink then (if nat_lt (length p.bytes) 16 then [] else protocol_part (protocol_of p.bytes))
    else codes " link type " ++ decimal p.link_type

-- the line of a packet with this number and this text of its time
abbrev pub packet_line : ℕ → List ℕ → Captured → List ℕ
packet_line number time p =
    codes "packet " ++ (decimal number ++ (codes " time " ++ (time ++ (codes " len " ++ (decimal (length p.bytes) ++ (original_part (length p.bytes) p.original ++ (type_part p ++ 10 ∷ [])))))))

-- the error of a packet without a whole header
abbrev pub short_line : ℕ → List ℕ
short_line n = codes "  error at 0: " ++ (bytes_text n ++ line (codes ", too few for a cooked header"))

-- the output for what a packet carries, and whether it has no error: `other` for another link type or protocol; an error, `short`
-- of the number of its bytes; or that of its messages
pub data ShowsCarried (messages : List ℕ → List ℕ → Bool → Type 0) (short : ℕ → List ℕ) (other : List ℕ) (p : Captured) (out : List ℕ) (well : Bool) : Type 0 where
  Other : p.link_type ≢ netlink → out ≡ other → well ≡ true → ShowsCarried messages short other p out well
  Short : p.link_type ≡ netlink → length p.bytes < 16 → out ≡ short (length p.bytes) → well ≡ false → ShowsCarried messages short other p out well
  OtherProtocol : p.link_type ≡ netlink → 16 ≤ length p.bytes → protocol_of p.bytes ≢ 0 → out ≡ other → well ≡ true → ShowsCarried messages short other p out well
  Route : p.link_type ≡ netlink → 16 ≤ length p.bytes → protocol_of p.bytes ≡ 0 → messages (drop 16 p.bytes) out well → ShowsCarried messages short other p out well

-- the output below the line of a packet, and whether it has no error: none, an error, or its messages
abbrev pub ShowsBelow : Options → Captured → List ℕ → Bool → Type 0
ShowsBelow options = ShowsCarried (ShowsBare options) short_line []

-- the output for a packet with this number
pub record ShowsPacket (options : Options) (number : ℕ) (p : Captured) (out : List ℕ) (well : Bool) : Type 0 where
  pub time : List ℕ
  pub is_time : IsTimeText p.time time
  pub below : List ℕ
  pub shown : ShowsBelow options p below well
  pub joined : out ≡ packet_line number time p ++ below
