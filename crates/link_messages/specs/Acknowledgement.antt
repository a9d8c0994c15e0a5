-- The kernel's replies to requests: NLMSG_ERROR and NLMSG_DONE (`include/uapi/linux/netlink.h`).
use Rattle.std.specs.Prelude.{◌≡◌, ◌⊎◌, ℕ, ℤ, pos, ◌+◌, ◌<◌, ◌≤◌, ◌==◌, Bool, true, false, List, length, take, drop, min, max, nat_lt, if◌then◌else◌}
use Rattle.std.specs.Int.RustNames.{bit_and}
use Rattle.netlink_packet_route.specs.Class.{integer}
use Rattle.netlink_packet_route.specs.Frame.{pad}
use Rattle.netlink_packet_route.specs.Number.{number}
use Rattle.link_messages.specs.declared.acknowledgement.Acknowledgement.{Acknowledgement}
use Rattle.link_messages.specs.declared.message.MessageError.{MessageError}
use Rattle.link_messages.specs.declared.message.MessageError.TheVariants as errors
use Rattle.link_messages.specs.Message.{Packet}
use Rattle.link_messages.specs.Finding.{Stretch, stretch_of}

-- the types of replies: NLMSG_ERROR, and NLMSG_DONE, which ends a dump
abbrev pub IsReplyType : ℕ → Type 0
IsReplyType kind = (kind ≡ 2) ⊎ (kind ≡ 3)

-- the message m is an NLMSG_DONE, or an NLMSG_ERROR with a whole `struct nlmsgerr`
abbrev pub IsReply : Bool → Packet → Type 0
IsReply true m = m.kind ≡ 3
IsReply false m = (m.kind ≡ 2) × (20 ≤ length m.payload)

-- ---- the payload p of a reply

-- the error of an NLMSG_ERROR, or the result of a dump: an `int`. Of an NLMSG_DONE without one, 0
abbrev pub result_in : List ℕ → ℤ
result_in p = if nat_lt (length p) 4 then pos 0 else integer (take 4 p)

-- the length of the request with its padding: `nlmsg_len` of its header, at least 16
abbrev pub request_size : List ℕ → ℕ
request_size p = pad (max (number (take 4 (drop 4 p))) 16)

-- the offset in p of the attributes. Without NLM_F_ACK_TLVS (0x200) there are none. In an NLMSG_DONE they follow the
-- result; in an NLMSG_ERROR with NLM_F_CAPPED (0x100) the `struct nlmsgerr`, otherwise the error and the whole request
abbrev pub attributes_start : ℕ → ℕ → List ℕ → ℕ
attributes_start kind flags p =
    if bit_and flags 0x200 == 0 then length p
    else (if kind == 3 then min (length p) 4
    else (if bit_and flags 0x100 == 0 then min (4 + request_size p) (length p) else 20))

-- the attributes of the message m at offset `at`
abbrev pub attributes_of : ℕ → Packet → Stretch
attributes_of at m = let start = attributes_start m.kind m.flags m.payload in (at + 16 + start, drop start m.payload)

-- ---- what it says

-- the message m at offset `at` is this reply
pub record IsAcknowledgement (at : ℕ) (m : Packet) (said : Acknowledgement) : Type 0 where
  pub kind : IsReply said.is_done m
  pub error : said.error ≡ result_in m.payload
  pub list : stretch_of said.list ≡ attributes_of at m

-- why the message m at offset `at` is no reply
abbrev pub IsNoAcknowledgement : ℕ → Packet → MessageError → Type 0
IsNoAcknowledgement at m (errors.OtherType i kind) = ¬ IsReplyType m.kind × (i ≡ at) × (kind ≡ m.kind)
IsNoAcknowledgement at m (errors.ShortError i size) = (m.kind ≡ 2) × (i ≡ at) × (size ≡ 16 + length m.payload) × (size < 36)
IsNoAcknowledgement at m error = ⊥
