-- Attributes of IPVLAN and IPVTAP devices.
use Rattle.std.specs.Prelude.{[], ◌∷◌}
use Rattle.link_base.specs.Class.{Number}
use Rattle.link_base.specs.Payloads.{u16_coded, u16_flags}
use Rattle.link_base.specs.Table.{Table, AttrValue, Case, Single, row, prefixed}
use Rattle.link_base.specs.Default.{default_means}
use Rattle.link_devices.specs.IpvlanNames.{ipvlan_mode_names, ipvlan_flags_names}
use Rattle.link_devices.specs.declared.ipvlan.InfoIpVlan.{InfoIpVlan}
use Rattle.link_devices.specs.declared.ipvlan.InfoIpVlan.TheVariants as infos

-- one row for each attribute type
abbrev pub ipvlan_table : Table
ipvlan_table = prefixed "IFLA_IPVLAN_" (
    row 1 "IFLA_IPVLAN_MODE" (u16_coded ipvlan_mode_names) ∷
    row 2 "IFLA_IPVLAN_FLAGS" (u16_flags ipvlan_flags_names) ∷ [])

-- the attribute that a value represents
abbrev pub ipvlan_means : InfoIpVlan → AttrValue
ipvlan_means (infos.Mode mode) = Case 1 (Single (Number 2 mode))
ipvlan_means (infos.Flags flags) = Case 2 (Single (Number 2 flags))
ipvlan_means (infos.Other other) = default_means other
