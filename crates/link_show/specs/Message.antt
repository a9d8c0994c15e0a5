-- The lines of messages about links.
use Rattle.std.specs.Prelude.{◌≡◌, ◌≢◌, ℕ, suc, ℤ, pos, negsuc, ◌+◌, ◌<◌, ◌≤◌, ◌==◌, Bool, true, false, not, ◌&&◌, ◌||◌, List, [], ◌∷◌, ◌++◌, length, drop, Option, Some, None, codes, if◌then◌else◌}
use Rattle.std.specs.Fmt.{decimal, signed_decimal}
use Rattle.std.specs.Int.{is_negative}
use Rattle.std.specs.Int.RustNames.{unsigned_abs}
use Rattle.std.specs.List.{AllByRecursion}
use Rattle.link_base.specs.Labels.{name_in}
use Rattle.netlink_packet_route.specs.declared.family.Family.TheVariants as families
use Rattle.link_messages.specs.declared.buffer_parts.Message.{Message}
use Rattle.link_messages.specs.declared.message.MessageError.{MessageError}
use Rattle.link_messages.specs.declared.message.MessageError.TheVariants as errors
use Rattle.link_messages.specs.declared.header.LinkHeader.{LinkHeader}
use Rattle.link_messages.specs.Message.{Stand, IsMessageAt, header_fault, packet_of}
use Rattle.link_messages.specs.Finding.{Stretch}
use Rattle.link_messages.specs.BeforeFault.{OfWalk, latest, name_in as text_in}
use Rattle.link_messages.specs.Link.{attributes_of}
use Rattle.link_messages.specs.Header.{IsAnyLinkType, HasLinkHeader, HasNoLinkHeader}
use Rattle.link_messages.specs.Acknowledgement.{IsReplyType, IsAcknowledgement, IsNoAcknowledgement}
use Rattle.link_messages.specs.declared.acknowledgement.Acknowledgement.{Acknowledgement}
use Rattle.link_show.specs.declared.line_options.LineOptions.{LineOptions}
use Rattle.link_show.specs.Flags.{flags_text}
use Rattle.link_show.specs.Quoted.{quoted}
use Rattle.link_show.specs.Structs.{field}
use Rattle.link_show.specs.HeaderText.{named_or, header_parts}
use Rattle.link_show.specs.Fault.{byte_word, bytes_text}
use Rattle.link_show.specs.List.{indented, error_line, EachShown}
use Rattle.link_messages.specs.Held.{context_of, levels}
use Rattle.link_show.specs.Held.{ShowsSet}
use Rattle.link_show.specs.Errno.{errno_names}
use Rattle.link_show.specs.MessageNames.{message_types, flags_of}

-- two spaces, before the lines of a message
abbrev pub two : List ℕ
two = codes "  "

-- ---- errors

-- an error of a message, without its offset
abbrev pub reason_text : MessageError → List ℕ
reason_text (errors.ShortHeader at left) = bytes_text left (codes " left, too few for a message header")
reason_text (errors.SmallLength at size) = codes "nlmsg_len " ++ (decimal size ++ codes " is below 16")
reason_text (errors.Overrun at size left) = codes "nlmsg_len " ++ (decimal size ++ (codes " exceeds the " ++ bytes_text left (codes " left")))
reason_text (errors.OtherType at kind) = codes "type " ++ (decimal kind ++ codes " is not that of a link message")
reason_text (errors.ShortLink at size) = bytes_text size (codes ", too few for a link message")
reason_text (errors.ShortError at size) = bytes_text size (codes ", too few for an error message")

-- its offset
abbrev pub offset_of : MessageError → ℕ
offset_of (errors.ShortHeader at left) = at
offset_of (errors.SmallLength at size) = at
offset_of (errors.Overrun at size left) = at
offset_of (errors.OtherType at kind) = at
offset_of (errors.ShortLink at size) = at
offset_of (errors.ShortError at size) = at

-- the line of an error
unfoldable pub message_error_line : List ℕ → MessageError → List ℕ
message_error_line indent error = error_line indent (offset_of error) (reason_text error)

-- ---- the header of a message

-- the first line of a message
unfoldable pub message_line : Message → List ℕ
message_line m =
    named_or (codes "type ") (name_in message_types m.kind) m.kind
    ++ (codes " len " ++ (decimal (16 + length m.payload.now)
    ++ (codes " flags " ++ (flags_text (flags_of m.kind) 2 m.flags
    ++ (codes " seq " ++ (decimal m.sequence ++ (codes " pid " ++ (decimal m.port ++ 10 ∷ []))))))))

-- ---- the line of a link

abbrev pub name_part : Option (List ℕ) → List ℕ
name_part None = []
name_part (Some name) = codes " " ++ field (codes "name") (quoted name)

unfoldable pub link_line : LinkHeader → Option (List ℕ) → List ℕ
link_line h name = indented two (codes "ifindex " ++ (signed_decimal h.index ++ (name_part name ++ header_parts h)))

-- ---- a message about a link

-- the text of the last IFLA_IFNAME (3) of a list, up to its first malformed header
abbrev pub IsLinkName : Stretch → Option (List ℕ) → Type 0
IsLinkName list name = OfWalk list.1 (λ items _. name ≡ text_in (latest list.0 3 items))

-- the lines of a message about a link, with this header and these attributes
abbrev pub ShowsLink : LineOptions → LinkHeader → Stretch → List ℕ → Bool → Type 0
ShowsLink o h list out well =
    (name : Option (List ℕ)) × IsLinkName list name
    × (lines : List ℕ) × ShowsSet o levels (context_of h.family) two list.0 families.Link list.1 lines well × (out ≡ link_line h name ++ lines)

-- ---- a reply

-- a number after its name, if it has one
abbrev pub number_after : Option (List ℕ) → List ℕ → List ℕ
number_after None number = codes "(" ++ (number ++ codes ")")
number_after (Some name) number = name ++ (codes " (" ++ (number ++ codes ")"))

-- the line of an error
abbrev pub error_number_line : Option (List ℕ) → ℤ → List ℕ
error_number_line name e = indented two (field (codes "error") (number_after name (signed_decimal e)))

-- the name of an errno, which is negative; no other number has one
abbrev pub errno_name : ℤ → Option (List ℕ)
errno_name (pos n) = None
errno_name (negsuc n) = name_in errno_names (suc n)

-- the result of a request: 0, or an errno
unfoldable pub result_line : ℤ → List ℕ
result_line e =
    if unsigned_abs e == 0 then indented two (codes "ack")
    else error_number_line (errno_name e) e

-- whether the result is written: every dump ends with an NLMSG_DONE, whose result is written only if the dump failed
abbrev pub has_result : Acknowledgement → Bool
has_result a = not a.is_done || is_negative a.error

abbrev pub outcome_line : Acknowledgement → List ℕ
outcome_line a = if has_result a then result_line a.error else []

-- the lines of a reply: its outcome, and the attributes of its list
abbrev pub ShowsReply : LineOptions → Acknowledgement → List ℕ → Bool → Type 0
ShowsReply o a out well =
    (lines : List ℕ) × ShowsSet o levels (context_of 0) two a.list.at families.Reply a.list.bytes.now lines well × (out ≡ outcome_line a ++ lines)

-- ---- a message

-- m is an RTM_GETLINK in the general form: it has a `struct rtgenmsg`, which is one byte, and no whole `struct ifinfomsg`,
-- which is 16 (`include/uapi/linux/rtnetlink.h`)
abbrev pub IsGeneral : Message → Type 0
IsGeneral m = (m.kind ≡ 18) × (1 ≤ length m.payload.now) × (length m.payload.now < 16)

-- the lines of a message below its first, and whether none is an error
pub data ShowsBody (o : LineOptions) (m : Message) (out : List ℕ) (well : Bool) : Type 0 where
  About : (h : LinkHeader) → ¬ IsGeneral m → HasLinkHeader (packet_of m) h → ShowsLink o h (attributes_of m.at (packet_of m)) out well → ShowsBody o m out well
  Reply : (a : Acknowledgement) → IsAcknowledgement m.at (packet_of m) a → ShowsReply o a out well → ShowsBody o m out well
  General : IsGeneral m → out ≡ [] → well ≡ true → ShowsBody o m out well
  NoLink : (error : MessageError) → IsAnyLinkType m.kind → ¬ IsGeneral m → HasNoLinkHeader m.at (packet_of m) error → out ≡ message_error_line two error → well ≡ false → ShowsBody o m out well
  NoReply : (error : MessageError) → IsReplyType m.kind → IsNoAcknowledgement m.at (packet_of m) error → out ≡ message_error_line two error → well ≡ false → ShowsBody o m out well
  Other : ¬ IsAnyLinkType m.kind → ¬ IsReplyType m.kind → out ≡ [] → well ≡ true → ShowsBody o m out well

-- the lines of a message
pub record ShowsMessage (o : LineOptions) (m : Message) (out : List ℕ) (well : Bool) : Type 0 where
  pub body : List ℕ
  pub is_body : ShowsBody o m body well
  pub joined : out ≡ message_line m ++ body

-- ---- a buffer

-- all bytes are zero
abbrev pub AreZeros : List ℕ → Type 0
AreZeros bytes = AllByRecursion (λ b. b ≡ 0) bytes

-- the bytes r, left at offset `at`, are zeros after a message
abbrev pub AreZerosAfter : ℕ → List ℕ → Type 0
AreZerosAfter at r = (0 < at) × AreZeros r

-- the line of n zero bytes at offset `at`
abbrev pub zeros_line : ℕ → ℕ → List ℕ
zeros_line at n = decimal n ++ (codes " zero" ++ (byte_word n ++ (codes " at " ++ (decimal at ++ 10 ∷ []))))

-- what ends the messages of s at offset `at`: its end, the NLMSG_DONE m, zeros after a message, or other bytes that are no
-- message
pub data ShowsEnd (o : LineOptions) (s : List ℕ) (at : ℕ) (out : List ℕ) (well : Bool) : Type 0 where
  Ended : drop at s ≡ [] → out ≡ [] → well ≡ true → ShowsEnd o s at out well
  Done : (m : Message) → IsMessageAt at (drop at s) m → m.kind ≡ 3 → ShowsMessage o m out well → ShowsEnd o s at out well
  Zeros : drop at s ≢ [] → AreZerosAfter at (drop at s) → out ≡ zeros_line at (length (drop at s)) → well ≡ true → ShowsEnd o s at out well
  Broken : (error : MessageError) → drop at s ≢ [] → ¬ AreZerosAfter at (drop at s) → header_fault at (drop at s) ≡ Some error → out ≡ message_error_line [] error → well ≡ false → ShowsEnd o s at out well

-- the outputs for the messages of a buffer s: for each, shown so, and for what ends them at an offset; and whether all are
-- well
pub record ShowsBuffer {Y : Type 0} (shows : Message → List Y → Bool → Type 0) (ends : ℕ → List Y → Bool → Type 0) (s : List ℕ) (out : List Y) (whole : Bool) : Type 0 where
  pub messages : List Message
  pub end : ℕ
  pub stand : Stand s 0 messages end
  pub front : List Y
  pub front_well : Bool
  pub each : EachShown shows messages front front_well
  pub last : List Y
  pub last_well : Bool
  pub at_end : ends end last last_well
  pub joined : out ≡ front ++ last
  pub all : whole ≡ (front_well && last_well)

-- the lines of the messages of a buffer, and whether none is an error and all checked lists are canonical
abbrev pub ShowsMessages : LineOptions → List ℕ → List ℕ → Bool → Type 0
ShowsMessages o s = ShowsBuffer (ShowsMessage o) (ShowsEnd o s) s
