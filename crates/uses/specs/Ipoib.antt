-- IPoIB device attributes.
use Rattle.std.specs.Prelude.{[], ◌∷◌}
use Rattle.netlink_packet_route.specs.Class.{Number}
use Rattle.netlink_packet_route.specs.Payloads.{u16}
use Rattle.netlink_packet_route.specs.Table.{Table, AttrValue, Case, Single, row, row_in, prefixed}
use Rattle.netlink_packet_route.specs.Default.{default_means}
use Rattle.netlink_packet_route.specs.declared.implementing.Quantity.TheVariants.{Mask}
use Rattle.uses.specs.declared.ipoib.InfoIpoib.{InfoIpoib}
use Rattle.uses.specs.declared.ipoib.InfoIpoib.TheVariants.{Pkey, Mode, Umcast, Other}

-- one row for each attribute type
abbrev pub ipoib_table : Table
ipoib_table = prefixed "IFLA_IPOIB_" (
    row_in Mask 1 "IFLA_IPOIB_PKEY" u16 ∷
    row 2 "IFLA_IPOIB_MODE" u16 ∷
    row 3 "IFLA_IPOIB_UMCAST" u16 ∷ [])

-- the attribute that a value represents
abbrev pub ipoib_means : InfoIpoib → AttrValue
ipoib_means (Pkey key) = Case 1 (Single (Number 2 key))
ipoib_means (Mode mode) = Case 2 (Single (Number 2 mode))
ipoib_means (Umcast on) = Case 3 (Single (Number 2 on))
ipoib_means (Other other) = default_means other
