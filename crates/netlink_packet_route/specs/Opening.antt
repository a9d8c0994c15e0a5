-- Which attribute set reads the list in an attribute (`include/uapi/linux/if_link.h`).
use Rattle.std.specs.Prelude.{◌≡◌, ℕ, ◌==◌, Bool, not, bit_and, List, [], ◌∷◌, Option, Some, None, codes, if◌then◌else◌}
use Rattle.std.specs.Option.{option_map, option_copied, option_and_then}
use Rattle.std.specs.Str.{bytes_eq}
use Rattle.link_base.specs.Frame.{Frame, Frames, kind_of}
use Rattle.link_base.specs.Viewed.{last_of}
use Rattle.netlink_packet_route.specs.declared.family.Family.{Family}
use Rattle.netlink_packet_route.specs.declared.family.Family.TheVariants.{Link}
use Rattle.netlink_packet_route.specs.declared.opening.Context.{Context}
use Rattle.netlink_packet_route.specs.Family.{Holding, InfoKind, PortKind, BridgeAttribute, NestedBridgeAttribute, Inet6Attribute, Within, IsReadBy}

-- ---- what holds a list

-- an attribute of a message, by its type and its NLA_F_NESTED: in messages of AF_BRIDGE (7) IFLA_AF_SPEC (26) is another
-- list, and IFLA_PROTINFO (12) is one if it has the flag; in those of AF_INET6 (10) IFLA_PROTINFO always is one
abbrev pub message_holding : ℕ → ℕ → Bool → Option Holding
message_holding address_family kind nested =
    if kind == 26 then Some (if address_family == 7 then BridgeAttribute 26 else Within Link 26)
    else (if kind == 12 then
    (if address_family == 7 then (if nested then Some (NestedBridgeAttribute 12) else None)
    else (if address_family == 10 then Some (Inet6Attribute 12) else None))
    else Some (Within Link kind))

-- an element of an IFLA_LINKINFO: IFLA_INFO_DATA (2) by the kind, and IFLA_INFO_SLAVE_DATA (5) by the port kind
abbrev pub info_holding : Option (List ℕ) → Option (List ℕ) → ℕ → Option Holding
info_holding info_kind port_kind kind =
    if kind == 2 then option_map InfoKind info_kind
    else (if kind == 5 then option_map PortKind port_kind
    else None)

-- an attribute with this nla_type in a list of a set; or in its nested lists of a type, of which only IFLA_LINKINFO (18)
-- of messages has elements that hold lists
abbrev pub holding_at : Context → Family → Option ℕ → ℕ → Option Holding
holding_at x Link None f = message_holding x.address_family (kind_of f) (not (bit_and f 0x8000 == 0))
holding_at x Link (Some list) f =
    if list == 18 then info_holding (option_copied x.info_kind) (option_copied x.port_kind) (kind_of f) else None
holding_at x set None f = Some (Within set (kind_of f))
holding_at x set (Some list) f = None

-- the Family that reads the list; none if nothing holds one
abbrev pub IsOpened : Option Holding → Option Family → Type 0
IsOpened None family = family ≡ None
IsOpened (Some holding) family = IsReadBy holding family

-- ---- the kinds in an IFLA_LINKINFO

-- the bytes of a name without the NUL at their end, if they have one
abbrev pub without_nul : List ℕ → List ℕ
without_nul [] = []
without_nul (b ∷ []) = if b == 0 then [] else b ∷ []
without_nul (b ∷ c ∷ bytes) = b ∷ without_nul (c ∷ bytes)

-- the port kind that an IFLA_INFO_KIND announces
abbrev pub announced : List ℕ → Option (List ℕ)
announced kind =
    if bytes_eq kind (codes "bond_slave") then Some (codes "bond")
    else (if bytes_eq kind (codes "bridge_slave") then Some (codes "bridge")
    else None)

-- the port kind: that of IFLA_INFO_SLAVE_KIND; if there is none, the one that IFLA_INFO_KIND announces
abbrev pub port_kind_of : Option (List ℕ) → Option (List ℕ) → Option (List ℕ)
port_kind_of kind (Some port_kind) = Some port_kind
port_kind_of kind None = option_and_then announced kind

-- the text in the last attribute of type `kind`
abbrev pub text_of : ℕ → List Frame → Option (List ℕ)
text_of kind xs = option_map (λ p. without_nul p.1) (last_of kind xs)

-- the kinds that the elements of a list have: those of the last IFLA_INFO_KIND (1) and IFLA_INFO_SLAVE_KIND (4)
pub record HasKinds (list : List ℕ) (context : Context) : Type 0 where
  pub info_kind : (xs : List Frame) → Frames list xs → option_copied context.info_kind ≡ text_of 1 xs
  pub port_kind : (xs : List Frame) → Frames list xs → option_copied context.port_kind ≡ port_kind_of (text_of 1 xs) (text_of 4 xs)
