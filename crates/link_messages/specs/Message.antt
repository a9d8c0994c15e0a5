-- The messages of a buffer (`include/uapi/linux/netlink.h`).
use Rattle.std.specs.Prelude.{◌≡◌, ◌≢◌, ◌⊎◌, ℕ, ◌+◌, ◌-◌, ◌<◌, ◌≤◌, ◌^◌, min, List, [], ◌∷◌, ◌++◌, length, take, drop, Option, Some, None, Result, Ok, Err, nat_lt, codes, if◌then◌else◌}
use Rattle.std.specs.Fmt.{decimal}
use Rattle.netlink_packet_route.specs.Number.{number, bytes_of}
use Rattle.netlink_packet_route.specs.Frame.{pad}
use Rattle.link_messages.specs.declared.buffer_parts.Message.{Message}
use Rattle.link_messages.specs.declared.message.MessageError.{MessageError}
use Rattle.link_messages.specs.declared.message.MessageError.TheVariants as errors

-- a message: its type, the other fields of its header, its payload, and the padding after it
pub record Packet : Type 0 where
  pub kind : ℕ
  pub flags : ℕ
  pub sequence : ℕ
  pub port : ℕ
  pub payload : List ℕ
  pub padding : List ℕ

-- the length of the padding of a message with this payload
abbrev pub packet_gap : List ℕ → ℕ
packet_gap payload = pad (16 + length payload) - (16 + length payload)

-- the bytes of a message: `struct nlmsghdr`, whose length does not include the padding; the payload; the padding
abbrev pub packet_bytes : Packet → List ℕ
packet_bytes m = bytes_of 4 (16 + length m.payload) ++ (bytes_of 2 m.kind ++ (bytes_of 2 m.flags ++ (bytes_of 4 m.sequence ++ (bytes_of 4 m.port ++ (m.payload ++ m.padding)))))

-- the fields fit in the header, and the padding may be truncated but has no excess bytes
pub record IsPacket (m : Packet) : Type 0 where
  pub kind : m.kind < 2 ^ 16
  pub flags : m.flags < 2 ^ 16
  pub sequence : m.sequence < 2 ^ 32
  pub port : m.port < 2 ^ 32
  pub payload : 16 + length m.payload < 2 ^ 32
  pub padding : length m.padding ≤ packet_gap m.payload

-- s starts with the message m
pub record BeginsWithPacket (s : List ℕ) (m : Packet) : Type 0 where
  pub rest : List ℕ
  pub is : IsPacket m
  pub string : s ≡ packet_bytes m ++ rest

-- why r, the bytes left at offset `at`, does not start with a message
abbrev pub header_fault : ℕ → List ℕ → Option MessageError
header_fault at r =
    let stated = number (take 4 r) in
    if nat_lt (length r) 16 then Some (errors.ShortHeader at (length r))
    else (if nat_lt stated 16 then Some (errors.SmallLength at stated)
    else (if nat_lt (length r) stated then Some (errors.Overrun at stated (length r))
    else None))

-- the `Display` output of an error
abbrev pub error_text : MessageError → List ℕ
error_text (errors.ShortHeader at left) = codes "short header at " ++ (decimal at ++ (codes ": " ++ (decimal left ++ codes " bytes")))
error_text (errors.SmallLength at stated) = codes "small length at " ++ (decimal at ++ (codes ": " ++ decimal stated))
error_text (errors.Overrun at stated left) = codes "overrun at " ++ (decimal at ++ (codes ": " ++ (decimal stated ++ (codes " of " ++ (decimal left ++ codes " bytes")))))
error_text (errors.OtherType at kind) = codes "other type at " ++ (decimal at ++ (codes ": " ++ decimal kind))
error_text (errors.ShortLink at size) = codes "short link at " ++ (decimal at ++ (codes ": " ++ (decimal size ++ codes " bytes")))
error_text (errors.ShortError at size) = codes "short error at " ++ (decimal at ++ (codes ": " ++ (decimal size ++ codes " bytes")))

-- ---- one step

-- a message without the padding after it
abbrev pub packet_of : Message → Packet
packet_of m = record { kind = m.kind; flags = m.flags; sequence = m.sequence; port = m.port; payload = m.payload.now; padding = [] }

-- m is the message at offset `at`, where the bytes r are left, with the offset of the next message
pub record IsMessageAt (at : ℕ) (r : List ℕ) (m : Message) : Type 0 where
  pub begins : BeginsWithPacket r (packet_of m)
  pub offset : m.at ≡ at
  pub next : m.next ≡ at + min (pad (16 + length m.payload.now)) (length r)

-- what is at offset `at`, where the bytes r are left: nothing; a message of any type; or an error
abbrev pub NextOfAny : ℕ → List ℕ → Result (Option Message) MessageError → Type 0
NextOfAny at r (Ok None) = r ≡ []
NextOfAny at r (Ok (Some m)) = IsMessageAt at r m
NextOfAny at r (Err e) = (r ≢ []) × (header_fault at r ≡ Some e)

-- what is at offset `at`, where the bytes r are left: nothing or an NLMSG_DONE; a message of another type; or an error
abbrev pub NextMessage : ℕ → List ℕ → Result (Option Message) MessageError → Type 0
NextMessage at r (Ok None) = (r ≡ []) ⊎ ((m : Packet) × BeginsWithPacket r m × (m.kind ≡ 3))
NextMessage at r (Ok (Some m)) = IsMessageAt at r m × (m.kind ≢ 3)
NextMessage at r (Err e) = (r ≢ []) × (header_fault at r ≡ Some e)

-- consecutive messages of s, from offset `at` to offset `end`
abbrev pub Stand : List ℕ → ℕ → List Message → ℕ → Type 0
Stand s at [] end = at ≡ end
Stand s at (m ∷ ms) end = NextMessage at (drop at s) (Ok (Some m)) × Stand s m.next ms end
