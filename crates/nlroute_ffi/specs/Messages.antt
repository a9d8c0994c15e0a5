-- The messages of a buffer, in a struct, and why one is malformed, in the struct of errors.
use Rattle.std.specs.Prelude.{◌≡◌, ◌⊎◌, ℕ, pos, ◌+◌, List, [], ◌∷◌, length, Option, Some, None, Result, Ok, Err}
use Rattle.link_messages.specs.declared.buffer_parts.Message.{Message}
use Rattle.link_messages.specs.declared.header.LinkHeader.{LinkHeader}
use Rattle.link_messages.specs.declared.message.MessageError.{MessageError}
use Rattle.link_messages.specs.declared.message.MessageError.TheVariants as errors
use Rattle.link_messages.specs.Message.{NextOfAny, packet_of}
use Rattle.link_messages.specs.Finding.{Stretch}
use Rattle.link_messages.specs.Link.{attributes_of}
use Rattle.link_messages.specs.Header.{IsAnyLinkType, HasLinkHeader, HasNoLinkHeader}
use Rattle.nlroute_ffi.specs.declared.fault.FirstError.{FirstError}
use Rattle.nlroute_ffi.specs.declared.message.FoundMessage.{FoundMessage}
use Rattle.nlroute_ffi.specs.declared.refusal.Refusal.{Refusal}
use Rattle.nlroute_ffi.specs.declared.refusal.Refusal.TheVariants.{Fault, Absent}
use Rattle.nlroute_ffi.specs.Numbers.{short_frame, small_length, overrun, too_short, message_header, link_header, reply_header}
use Rattle.nlroute_ffi.specs.Error.{error_numbers}

-- ---- a message

-- the fields of a message that is not about a link: its list is its payload
abbrev pub plain_fields : Message → FoundMessage
plain_fields m = record {
  list = m.at + 16;
  length = length m.payload.now;
  next = m.next;
  len = 16 + length m.payload.now;
  sequence = m.sequence;
  port = m.port;
  kind = m.kind;
  flags = m.flags;
  index = pos 0;
  link_flags = 0;
  change = 0;
  link_type = 0;
  address_family = 0;
  is_link = 0;
}

-- those of a message about a link, with its header and its attributes
abbrev pub link_fields : Message → LinkHeader → Stretch → FoundMessage
link_fields m h list = record (plain_fields m) {
  list = list.0;
  length = length list.1;
  index = h.index;
  link_flags = h.flags;
  change = h.change;
  link_type = h.kind;
  address_family = h.family;
  is_link = 1;
}

-- these are the fields of the message m
abbrev pub HasFields : Message → FoundMessage → Type 0
HasFields m found =
    ((h : LinkHeader) × HasLinkHeader (packet_of m) h × (found ≡ link_fields m h (attributes_of m.at (packet_of m))))
    ⊎ (¬ IsAnyLinkType m.kind × (found ≡ plain_fields m))

-- why m, a message about a link, has no whole header
abbrev pub HasNoFields : Message → MessageError → Type 0
HasNoFields m e = IsAnyLinkType m.kind × HasNoLinkHeader m.at (packet_of m) e

-- what is at offset `at` of a buffer, where the bytes r are left: nothing; a message with these fields; or an error in one
-- of its headers
abbrev pub ReadsMessage : ℕ → List ℕ → Result (Option FoundMessage) MessageError → Type 0
ReadsMessage at r (Ok None) = NextOfAny at r (Ok None)
ReadsMessage at r (Ok (Some found)) = (m : Message) × NextOfAny at r (Ok (Some m)) × HasFields m found
ReadsMessage at r (Err e) = NextOfAny at r (Err e) ⊎ ((m : Message) × NextOfAny at r (Ok (Some m)) × HasNoFields m e)

-- ---- results

-- the struct has the message at offset `at`; or there is none, or it is malformed
abbrev pub MessageAnswers : ℕ → List ℕ → FoundMessage → Result ℕ Refusal → Type 0
MessageAnswers at r found (Ok n) = (n ≡ 0) × ReadsMessage at r (Ok (Some found))
MessageAnswers at r found (Err Absent) = ReadsMessage at r (Ok None)
MessageAnswers at r found (Err Fault) = (e : MessageError) × ReadsMessage at r (Err e)
MessageAnswers at r found (Err refusal) = ⊥

-- the numbers of an error, in the order of `fault_numbers`. An error is at its message; the least length is that of both
-- headers. OtherType and ShortError are no errors of `ReadsMessage`
abbrev pub message_numbers : MessageError → List ℕ
message_numbers (errors.ShortHeader at left) = at ∷ message_header ∷ 0 ∷ 0 ∷ short_frame ∷ left ∷ 0 ∷ []
message_numbers (errors.SmallLength at size) = at ∷ message_header ∷ 0 ∷ 0 ∷ small_length ∷ size ∷ 0 ∷ []
message_numbers (errors.Overrun at size left) = at ∷ message_header ∷ 0 ∷ 0 ∷ overrun ∷ size ∷ left ∷ []
message_numbers (errors.OtherType at kind) = at ∷ link_header ∷ kind ∷ 0 ∷ 0 ∷ 0 ∷ 0 ∷ []
message_numbers (errors.ShortLink at size) = at ∷ link_header ∷ 0 ∷ 0 ∷ too_short ∷ 32 ∷ size ∷ []
message_numbers (errors.ShortError at size) = at ∷ reply_header ∷ 0 ∷ 0 ∷ too_short ∷ 36 ∷ size ∷ []

-- the struct has the error of the message at offset `at`; or it has none, or there is no message
abbrev pub MessageErrorAnswers : ℕ → List ℕ → FirstError → Result ℕ Refusal → Type 0
MessageErrorAnswers at r error (Ok n) = (n ≡ 0) × ((e : MessageError) × ReadsMessage at r (Err e) × (error_numbers error ≡ message_numbers e))
MessageErrorAnswers at r error (Err Absent) = (found : Option FoundMessage) × ReadsMessage at r (Ok found)
MessageErrorAnswers at r error (Err refusal) = ⊥
