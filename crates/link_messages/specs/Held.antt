-- Attributes whose payload is a list of another set (`include/uapi/linux/if_link.h`).
use Rattle.std.specs.Prelude.{◌≡◌, ℕ, ◌+◌, Bool, true, false, not, ◌&&◌, nat_lt, List, length, drop, Option, Some, None, if◌then◌else◌}
use Rattle.link_base.specs.declared.views.content.Content.{Content}
use Rattle.link_base.specs.declared.views.content.Content.TheVariants as contents
use Rattle.link_base.specs.declared.rows.form.Look.TheVariants as looks
use Rattle.netlink_packet_route.specs.declared.family.Family.{Family}
use Rattle.netlink_packet_route.specs.declared.opening.Context.{Context}
use Rattle.netlink_packet_route.specs.Opening.{HasKinds}
use Rattle.link_messages.specs.declared.header.LinkHeader.{LinkHeader}
use Rattle.link_messages.specs.Finding.{Stretch}
use Rattle.link_messages.specs.Header.{header_in}

-- whether a content may be the list of another set; a peer may not, if it is in a nested list
abbrev pub may_hold : Option ℕ → Content → Bool
may_hold k (contents.Bytes looks.Held p) = true
may_hold None (contents.Bytes looks.Peer p) = true
may_hold k (contents.Other p) = true
may_hold k content = false

-- the answers, or none
abbrev pub answers_if : Bool → (Option Family → Type 0) → Option Family → Type 0
answers_if true opens answer = opens answer
answers_if false opens answer = answer ≡ None

-- the set that reads an attribute with this content, in a nested list of type k or in none, if n levels of lists may be opened
abbrev pub Answers : ℕ → Option ℕ → (Option Family → Type 0) → Content → Option Family → Type 0
Answers n k opens content answer = answers_if (nat_lt 0 n && may_hold k content) opens answer

-- how many levels of lists are opened below a list. A message has four: the data of a veth, its peer, an IFLA_AF_SPEC of
-- that, and an AF_INET6 of that
abbrev pub levels : ℕ
levels = 6

-- whether a payload has a header before its list: that of a peer has, which is long enough if it decodes
abbrev pub is_headed : Content → List ℕ → Bool
is_headed (contents.Bytes looks.Peer p) payload = not (nat_lt (length payload) 16)
is_headed content payload = false

-- that header, and the list
abbrev pub header_before : Content → List ℕ → Option LinkHeader
header_before content payload = if is_headed content payload then Some (header_in payload) else None

abbrev pub list_in : Content → Stretch → Stretch
list_in content payload = if is_headed content payload.1 then (payload.0 + 16, drop 16 payload.1) else payload

-- the context of the attributes of a message
abbrev pub context_of : ℕ → Context
context_of address_family = record { address_family = address_family; info_kind = None; port_kind = None }

-- the context of the elements of a list
abbrev pub IsContextIn : Context → List ℕ → Context → Type 0
IsContextIn context list inner = (inner.address_family ≡ context.address_family) × HasKinds list inner

-- the context of a list that an attribute holds: that of a message with the header before the list, if there is one
abbrev pub context_in : Option LinkHeader → Context → Context
context_in None context = context
context_in (Some header) context = context_of header.family
