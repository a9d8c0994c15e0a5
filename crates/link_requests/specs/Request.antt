-- The bytes of a request, or why it cannot be written (`include/uapi/linux/netlink.h`, `rtnetlink.h`).
use Rattle.std.specs.Prelude.{◌≡◌, ℕ, ◌+◌, ◌<◌, ◌≤◌, ◌^◌, ◌==◌, ◌&&◌, ◌||◌, Bool, true, false, List, [], ◌∷◌, ◌++◌, length, take, ℤ, pos, Option, Some, None, Result, Ok, Err, nat_lt, int_le, bit_and, bit_or, if◌then◌else◌}
use Rattle.std.specs.Int.{w32, cast_unsigned}
use Rattle.link_base.specs.Number.{bytes_of}
use Rattle.link_base.specs.Answers.{OverwritesFront}
use Rattle.netlink_packet_route.specs.declared.family.Family.TheVariants.{Link}
use Rattle.link_messages.specs.Message.{Packet, packet_bytes}
use Rattle.link_entries.specs.declared.entry.Entry.{Entry}
use Rattle.link_entries.specs.declared.misfit.Misfit.TheVariants.{BadDepth, Repeated}
use Rattle.link_requests.specs.declared.head.Head.{Head}
use Rattle.link_requests.specs.declared.level.Scope.TheVariants.{Attributes}
use Rattle.link_requests.specs.declared.misfit.RequestError.{RequestError}
use Rattle.link_requests.specs.declared.misfit.RequestError.TheVariants.{BadType, NoIndex, Value, TooLarge}
use Rattle.link_requests.specs.Opening.{no_kinds}
use Rattle.link_entries.specs.Encoded.{Encoding, at_fault}
use Rattle.link_requests.specs.Lists.{unrepeated}
use Rattle.link_requests.specs.Value.{begins_at}
use Rattle.link_requests.specs.Values.{values_of}

-- ---- the head

-- a head of this type, with these flags and this index
abbrev pub head_with : ℕ → ℕ → ℤ → Head
head_with kind flags index = record {
  kind = kind;
  flags = flags;
  sequence = 0;
  port = 0;
  address_family = 0;
  unused = 0;
  link_type = 0;
  index = index;
  link_flags = 0;
  change = 0;
}

-- the same in AF_BRIDGE (7)
abbrev pub bridge_with : ℕ → ℕ → ℤ → Head
bridge_with kind flags index = record (head_with kind flags index) { address_family = 7 }

-- RTM_NEWLINK (16), RTM_DELLINK, RTM_GETLINK, RTM_SETLINK (19), RTM_NEWLINKPROP (108), RTM_DELLINKPROP
abbrev pub is_request : ℕ → Bool
is_request kind = (kind == 16) || ((kind == 17) || ((kind == 18) || ((kind == 19) || ((kind == 108) || (kind == 109)))))

-- whether the request changes or deletes a link: RTM_GETLINK does not, nor does RTM_NEWLINK with NLM_F_CREATE
abbrev pub needs_index : Head → Bool
needs_index head = if head.kind == 16 then bit_and head.flags 0x400 == 0 else (if head.kind == 18 then false else true)

-- why the head is not written
abbrev pub head_error : Head → Option RequestError
head_error head =
    if is_request head.kind then (if needs_index head && int_le head.index (pos 0) then Some NoIndex else None)
    else Some BadType

-- the bytes of `struct ifinfomsg`
abbrev pub link_head : Head → List ℕ
link_head head =
    head.address_family ∷ 0 ∷ (bytes_of 2 head.link_type ++ (bytes_of 4 (cast_unsigned w32 head.index) ++ (bytes_of 4 head.link_flags ++ bytes_of 4 head.change)))

-- the message with these attributes. It has NLM_F_REQUEST (1). Attributes are a multiple of four bytes long: no padding
-- follows
abbrev pub packet_with : Head → List ℕ → Packet
packet_with head attributes = record {
  kind = head.kind;
  flags = bit_or head.flags 1;
  sequence = head.sequence;
  port = head.port;
  payload = link_head head ++ attributes;
  padding = [];
}

-- ---- the request

-- what the first n of m values encode to; if there are more, the next repeats a list
abbrev pub up_to : ℕ → ℕ → Encoding → Encoding
up_to n m (Ok s) = if n == m then Ok s else Err (n, Repeated)
up_to n m (Err e) = Err e

-- what the values encode to
abbrev pub attributes_of : Head → List ℕ → List Entry → Encoding
attributes_of head octets es =
    let n = unrepeated [] es in
    if begins_at 0 es then up_to n (length es) (values_of octets (Attributes Link) 0 (no_kinds head.address_family) 0 (take n es))
    else Err (0, BadDepth)

-- the message, if its length is a u32
abbrev pub fitting : Head → Encoding → Result (List ℕ) RequestError
fitting head (Ok s) = if nat_lt (32 + length s) (2 ^ 32) then Ok (packet_bytes (packet_with head s)) else Err TooLarge
fitting head (Err e) = Err (Value (at_fault e))

abbrev pub checked : Option RequestError → Result (List ℕ) RequestError → Result (List ℕ) RequestError
checked None message = message
checked (Some error) message = Err error

-- the message, or the first error
abbrev pub request_of : Head → List ℕ → List Entry → Result (List ℕ) RequestError
request_of head octets es = checked (head_error head) (fitting head (attributes_of head octets es))

-- ---- results

-- the length of a message
abbrev pub sized : Result (List ℕ) RequestError → Result ℕ RequestError
sized (Ok s) = Ok (length s)
sized (Err e) = Err e

-- the message was stored at the start of the buffer, whose rest is unchanged; or the buffer is too small, or the request cannot
-- be written, and the buffer is unchanged
abbrev pub Stores : Result (List ℕ) RequestError → List ℕ → List ℕ → Result (Option ℕ) RequestError → Type 0
Stores (Ok s) old new (Ok (Some n)) = (n ≡ length s) × (length s ≤ length old) × OverwritesFront old new s
Stores (Ok s) old new (Ok None) = (length old < length s) × (new ≡ old)
Stores (Err e) old new (Err error) = (error ≡ e) × (new ≡ old)
Stores message old new result = ⊥
