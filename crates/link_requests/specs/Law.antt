-- What readers find in a request.
use Rattle.std.specs.Prelude.{◌≡◌, ◌⊎◌, ℕ, ◌+◌, ◌-◌, ◌<◌, ◌^◌, ◌==◌, ◌&&◌, Bool, true, false, List, [], ◌∷◌, ◌++◌, length, Option, Some, None, Ok, nat_lt, FitsSigned, if◌then◌else◌}
use Rattle.std.specs.Int.{w32}
use Rattle.std.specs.List.{AllZip, filter}
use Rattle.link_base.specs.Frame.{Frame, Frames}
use Rattle.netlink_packet_route.specs.declared.family.Family.{Family}
use Rattle.netlink_packet_route.specs.declared.family.Family.TheVariants.{Link}
use Rattle.link_messages.specs.declared.buffer_parts.Message.{Message}
use Rattle.link_messages.specs.declared.header.LinkHeader.{LinkHeader}
use Rattle.link_messages.specs.Message.{packet_of}
use Rattle.link_entries.specs.declared.entry.Entry.{Entry}
use Rattle.link_entries.specs.declared.fields.Fields.{Fields}
use Rattle.link_requests.specs.declared.head.Head.{Head}
use Rattle.link_requests.specs.declared.level.Scope.{Scope}
use Rattle.link_requests.specs.declared.level.Scope.TheVariants.{Numbers}
use Rattle.link_requests.specs.Opening.{Kinds}
use Rattle.link_entries.specs.Encoded.{Encoding}
use Rattle.link_requests.specs.Value.{inline, is_protinfo, attribute_fields, row_for, of_message, names_form, type_for, payload_with}
use Rattle.link_requests.specs.Values.{inner_of}
use Rattle.link_requests.specs.Request.{packet_with, attributes_of}

-- the fields of a head are in range, as their types have them
pub record IsHead (head : Head) : Type 0 where
  pub kind : head.kind < 2 ^ 16
  pub flags : head.flags < 2 ^ 16
  pub sequence : head.sequence < 2 ^ 32
  pub port : head.port < 2 ^ 32
  pub address_family : head.address_family < 2 ^ 8
  pub link_type : head.link_type < 2 ^ 16
  pub index : FitsSigned w32 head.index
  pub link_flags : head.link_flags < 2 ^ 32
  pub change : head.change < 2 ^ 32

-- m is the only message of the bytes s of a request: it has the fields of the head, and the attributes that the values
-- encode to
pub record IsMessageOf (head : Head) (octets : List ℕ) (es : List Entry) (s : List ℕ) (m : Message) : Type 0 where
  pub attributes : List ℕ
  pub encoded : attributes_of head octets es ≡ Ok attributes
  pub packet : packet_of m ≡ packet_with head attributes
  pub at : m.at ≡ 0
  pub next : m.next ≡ length s

-- a header has the fields of the head
pub record IsHeaderOf (head : Head) (header : LinkHeader) : Type 0 where
  pub family : header.family ≡ head.address_family
  pub kind : header.kind ≡ head.link_type
  pub index : header.index ≡ head.index
  pub flags : header.flags ≡ head.link_flags
  pub change : header.change ≡ head.change

-- ---- the attributes of a list

-- an attribute: its nla_type, and what its value and those that follow it encode to as its payload
abbrev pub Attribute : Type 0
Attribute = ℕ × Encoding

-- that of one value, if the list has such a value
abbrev pub attribute_by : Option Fields → List ℕ → Scope → ℕ → Kinds → ℕ → Entry → List Entry → List Attribute
attribute_by None octets scope depth x i e es = []
attribute_by (Some own) octets scope depth x i e es = (type_for scope x.address_family i own e, payload_with octets scope depth x i own e es (inner_of octets depth x es)) ∷ []

-- those of the values of a list, in order
abbrev pub attributes_in : List ℕ → Scope → ℕ → Kinds → ℕ → List Entry → List Attribute
attributes_in octets scope depth x i [] = []
attributes_in octets scope depth x i (e ∷ es) =
    if nat_lt e.depth depth then []
    else (if e.depth == depth then attribute_by (row_for scope x.address_family e) octets scope depth x i e es else []) ++ attributes_in octets scope depth x (i + 1) es

-- a frame has this type and payload
abbrev pub IsFrameOf : Attribute → Frame → Type 0
IsFrameOf a x = (x.kind_field ≡ a.0) × (a.1 ≡ Ok x.payload)

-- s consists of these attributes
abbrev pub Consists : List ℕ → List Attribute → Type 0
Consists s attributes = (xs : List Frame) × Frames s xs × AllZip IsFrameOf attributes xs

-- the list has attributes: it is no array of numbers
abbrev pub has_attributes : Scope → Bool
has_attributes (Numbers a list) = false
has_attributes scope = true

-- ---- the attributes of the message

-- a value that is one is marked, or has to name its form
abbrev pub IsOwn : ℕ → Entry → Type 0
IsOwn address_family e = e.depth ≡ 0 → (e.inner ≡ of_message) ⊎ (names_form (attribute_fields Link address_family e) ≡ true)

-- it is not marked
abbrev pub IsUnmarked : Entry → Type 0
IsUnmarked e = e.depth ≡ 0 → e.inner ≡ 0

-- those of one type
abbrev pub of_type : ℕ → List Entry → List Entry
of_type k es = filter (λ e. (e.depth == 0) && (e.kind == k)) es

-- ---- values without values of other sets

-- an entry that is less deep
abbrev pub lowered : ℕ → Entry → Entry
lowered depth e = record e { depth = e.depth - depth }

-- the values of a list at this depth, up to one that is less deep, as those of a list of its own
abbrev pub list_at : ℕ → List Entry → List Entry
list_at depth [] = []
list_at depth (e ∷ es) = if nat_lt e.depth depth then [] else lowered depth e ∷ list_at depth es

-- an entry that `link_entries` takes: it has no octets in place of bytes, and is no list IFLA_PROTINFO
pub record IsPlain (set : Family) (address_family : ℕ) (e : Entry) : Type 0 where
  pub lent : (e.offset == inline) ≡ false
  pub row : is_protinfo set address_family e ≡ false
