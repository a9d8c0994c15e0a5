-- The texts of errors.
use Rattle.std.specs.Prelude.{◌≡◌, ℕ, ◌<◌, ◌^◌, ◌==◌, ◌&&◌, List, ◌++◌, Option, Some, None, option_map, Result, Ok, Err, codes, nat_lt, if◌then◌else◌}
use Rattle.std.specs.Fmt.{decimal}
use Rattle.netlink_packet_route.specs.declared.link.Cause.{Cause}
use Rattle.netlink_packet_route.specs.declared.link.Cause.TheVariants as causes
use Rattle.netlink_packet_route.specs.declared.link.DecodeFault.{DecodeFault}
use Rattle.netlink_packet_route.specs.declared.link.DecodeFault.TheVariants as faults
use Rattle.netlink_packet_route.specs.declared.family.Family.{Family}
use Rattle.netlink_packet_route.specs.Table.{Table}
use Rattle.netlink_packet_route.specs.Family.{table_of}
use Rattle.link_messages.specs.declared.message.MessageError.{MessageError}
use Rattle.link_messages.specs.declared.message.MessageError.TheVariants as messages
use Rattle.link_show.specs.Fault.{fault_text}
use Rattle.link_show.specs.Message.{offset_of, reason_text}
use Rattle.nlroute_ffi.specs.declared.fault.FirstError.{FirstError}
use Rattle.nlroute_ffi.specs.declared.refusal.Refusal.{Refusal}
use Rattle.nlroute_ffi.specs.declared.refusal.Refusal.TheVariants.{BadForm}
use Rattle.nlroute_ffi.specs.Numbers.{short_frame, small_length, overrun, wrong_length, too_short, address_length, frame, payload, element_frame, element_payload, message_header, link_header}
use Rattle.nlroute_ffi.specs.Buffers.{StoresText}

-- a number as an `nla_len`, which is a `u16`
abbrev pub length_of : ℕ → Option ℕ
length_of n = if nat_lt n 65536 then Some n else None

-- the cause with these numbers; none for another number
abbrev pub cause_by : ℕ → ℕ → ℕ → Option Cause
cause_by cause first second =
    if cause == short_frame then Some (causes.ShortFrame first)
    else (if cause == small_length then option_map (λ n. causes.SmallLength n) (length_of first)
    else (if cause == overrun then option_map (λ n. causes.Overrun n second) (length_of first)
    else (if cause == wrong_length then Some (causes.WrongLength first second)
    else (if cause == too_short then Some (causes.TooShort first second)
    else (if cause == address_length then Some (causes.AddressLength first)
    else None)))))

-- the error with these numbers and this cause; none for a part that no list has
abbrev pub fault_at : ℕ → ℕ → ℕ → Cause → Option DecodeFault
fault_at place kind inner cause =
    if place == frame then Some (faults.Frame cause)
    else (if place == payload then Some (faults.Value kind cause)
    else (if place == element_frame then Some (faults.NestedFrame kind cause)
    else (if place == element_payload then Some (faults.NestedValue kind inner cause)
    else None)))

-- the same; none if there is no cause, or if an attribute type is no `u16`
abbrev pub fault_by : ℕ → ℕ → ℕ → Option Cause → Option DecodeFault
fault_by place kind inner None = None
fault_by place kind inner (Some cause) = if nat_lt kind 65536 && nat_lt inner 65536 then fault_at place kind inner cause else None

-- the error in a struct; none, if its numbers are not those of an error in a list
abbrev pub fault_of : FirstError → Option DecodeFault
fault_of e = fault_by e.place e.kind e.inner (cause_by e.cause e.first e.second)

-- an `nla_len` of a cause is a `u16`
abbrev pub CauseFits : Cause → Type 0
CauseFits (causes.SmallLength n) = n < 65536
CauseFits (causes.Overrun n left) = n < 65536
CauseFits cause = Unit {0}

-- an error in a list, whose attribute types are `u16`s, with a cause of which this holds
abbrev pub InList : (Cause → Type 0) → DecodeFault → Type 0
InList Of (faults.Frame cause) = Of cause
InList Of (faults.Value kind cause) = (kind < 65536) × Of cause
InList Of (faults.NestedFrame kind cause) = (kind < 65536) × Of cause
InList Of (faults.NestedValue kind inner cause) = (kind < 65536) × (inner < 65536) × Of cause
InList Of fault = ⊥

abbrev pub IsListFault : DecodeFault → Type 0
IsListFault fault = InList CauseFits fault

-- the causes and the errors that occur in lists of the attribute sets: that of the length of an address does not
abbrev pub CauseOccurs : Cause → Type 0
CauseOccurs (causes.AddressLength got) = ⊥
CauseOccurs cause = CauseFits cause

abbrev pub FaultOccurs : DecodeFault → Type 0
FaultOccurs fault = InList CauseOccurs fault

-- an error at an offset, in a list of this table
abbrev pub error_text : Table → ℕ → DecodeFault → List ℕ
error_text table at fault = codes "error at " ++ (decimal at ++ (codes ": " ++ fault_text table fault))

-- ---- messages

-- a number as an `nlmsg_len`, which is a `u32`
abbrev pub packet_length_of : ℕ → Option ℕ
packet_length_of n = if nat_lt n (2 ^ 32) then Some n else None

-- the error at an offset in the header of a message, with this cause and its numbers
abbrev pub header_error : ℕ → ℕ → ℕ → ℕ → Option MessageError
header_error at cause first second =
    if cause == short_frame then Some (messages.ShortHeader at first)
    else (if cause == small_length then option_map (λ n. messages.SmallLength at n) (packet_length_of first)
    else (if cause == overrun then option_map (λ n. messages.Overrun at n second) (packet_length_of first)
    else None))

-- the error of a message in a struct; none, if its numbers are not those of one
abbrev pub message_error_of : FirstError → Option MessageError
message_error_of e =
    if e.place == message_header then header_error e.at e.cause e.first e.second
    else (if (e.place == link_header) && ((e.cause == too_short) && (e.first == 32)) then Some (messages.ShortLink e.at e.second)
    else None)

abbrev pub message_error_text : MessageError → List ℕ
message_error_text error = codes "error at " ++ (decimal (offset_of error) ++ (codes ": " ++ reason_text error))

-- ---- both

-- the buffer has the text of the error of a message; or the struct has none
abbrev pub MessageTextAnswers : FirstError → List ℕ → List ℕ → Result ℕ Refusal → Type 0
MessageTextAnswers e old new (Ok n) = (error : MessageError) × (message_error_of e ≡ Some error) × StoresText (message_error_text error) old new n
MessageTextAnswers e old new (Err BadForm) = message_error_of e ≡ None
MessageTextAnswers e old new (Err refusal) = ⊥

-- the buffer has the text of the error in a list; or the struct has none, and what is known of a message's
abbrev pub ErrorTextBy : Option DecodeFault → FirstError → List ℕ → List ℕ → Family → Result ℕ Refusal → Type 0
ErrorTextBy (Some fault) e old new family (Ok n) = StoresText (error_text (table_of family) e.at fault) old new n
ErrorTextBy (Some fault) e old new family (Err refusal) = ⊥
ErrorTextBy None e old new family result = MessageTextAnswers e old new result

abbrev pub ErrorTextAnswers : FirstError → List ℕ → List ℕ → Family → Result ℕ Refusal → Type 0
ErrorTextAnswers e old new family result = ErrorTextBy (fault_of e) e old new family result
