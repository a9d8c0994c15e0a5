-- Which attribute set reads the list that a value announces.
use Rattle.std.specs.Prelude.{ℕ, ◌==◌, ◌&&◌, ◌||◌, Bool, true, false, not, bit_and, List, [], ◌∷◌, Option, Some, None, bytes_eq, if◌then◌else◌}
use Rattle.std.specs.Option.{option_copied, option_and_then}
use Rattle.link_base.specs.Frame.{kind_of}
use Rattle.netlink_packet_route.specs.declared.family.Family.{Family}
use Rattle.netlink_packet_route.specs.declared.family.Family.TheVariants.{Link}
use Rattle.netlink_packet_route.specs.declared.opening.Context.{Context}
use Rattle.netlink_packet_route.specs.Family.{Holding, InfoKind, PortKind, BridgeAttribute, NestedBridgeAttribute, Inet6Attribute, Within, LinkMessage, ReplyMessage, family_number, holders_of}
use Rattle.netlink_packet_route.specs.Opening.{message_holding, info_holding}
use Rattle.netlink_packet_route.specs.Families.{all_families}

-- what decides it besides the value: the address family of the message, and the kinds beside the value, as a `Context` has them
pub record Kinds : Type 0 where
  pub address_family : ℕ
  pub info_kind : Option (List ℕ)
  pub port_kind : Option (List ℕ)

abbrev pub kinds_of : Context → Kinds
kinds_of x = record { address_family = x.address_family; info_kind = option_copied x.info_kind; port_kind = option_copied x.port_kind }

-- no kinds: those of the attributes of a message
abbrev pub no_kinds : ℕ → Kinds
no_kinds address_family = record { address_family = address_family; info_kind = None; port_kind = None }

-- what the value with this nla_type is, in a list of a set, or in its nested lists of a type: `holding_at` of these kinds
abbrev pub holding_by : Kinds → Family → Option ℕ → ℕ → Option Holding
holding_by x Link None f = message_holding x.address_family (kind_of f) (not (bit_and f 0x8000 == 0))
holding_by x Link (Some list) f = if list == 18 then info_holding x.info_kind x.port_kind (kind_of f) else None
holding_by x set None f = Some (Within set (kind_of f))
holding_by x set (Some list) f = None

-- ---- the set that reads a list

abbrev pub is_link : Family → Bool
is_link Link = true
is_link set = false

abbrev pub is_holding : Holding → Holding → Bool
is_holding (InfoKind a) (InfoKind b) = bytes_eq a b
is_holding (PortKind a) (PortKind b) = bytes_eq a b
is_holding (BridgeAttribute k) (BridgeAttribute l) = k == l
is_holding (NestedBridgeAttribute k) (NestedBridgeAttribute l) = k == l
is_holding (Inet6Attribute k) (Inet6Attribute l) = k == l
is_holding (Within s k) (Within t l) = (family_number s == family_number t) && (k == l)
is_holding LinkMessage LinkMessage = true
is_holding ReplyMessage ReplyMessage = true
is_holding a b = false

abbrev pub holds_any : Holding → List Holding → Bool
holds_any holding [] = false
holds_any holding (x ∷ xs) = is_holding x holding || holds_any holding xs

-- the first of these sets whose lists are held so
abbrev pub reader_in : List Family → Holding → Option Family
reader_in [] holding = None
reader_in (set ∷ sets) holding = if holds_any holding (holders_of set) then Some set else reader_in sets holding

-- the set whose lists are held so: it is the only one
abbrev pub reader_of : Holding → Option Family
reader_of holding = reader_in all_families holding

-- the set that reads the list of a value
abbrev pub set_at : Kinds → Family → Option ℕ → ℕ → Option Family
set_at x family list f = option_and_then reader_of (holding_by x family list f)
