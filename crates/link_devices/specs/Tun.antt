-- Attributes of TUN and TAP devices.
use Rattle.std.specs.Prelude.{[], ◌∷◌}
use Rattle.link_base.specs.Class.{Number, Boolean}
use Rattle.link_base.specs.Payloads.{u32, truth, u8_coded}
use Rattle.link_base.specs.Table.{Table, AttrValue, Case, Single, row, prefixed}
use Rattle.link_base.specs.Default.{default_means}
use Rattle.link_devices.specs.TunNames.{tun_type_names}
use Rattle.link_devices.specs.declared.tun.InfoTun.{InfoTun}
use Rattle.link_devices.specs.declared.tun.InfoTun.TheVariants as infos

-- one row for each attribute type
abbrev pub tun_table : Table
tun_table = prefixed "IFLA_TUN_" (
    row 1 "IFLA_TUN_OWNER" u32 ∷
    row 2 "IFLA_TUN_GROUP" u32 ∷
    row 3 "IFLA_TUN_TYPE" (u8_coded tun_type_names) ∷
    row 4 "IFLA_TUN_PI" truth ∷
    row 5 "IFLA_TUN_VNET_HDR" truth ∷
    row 6 "IFLA_TUN_PERSIST" truth ∷
    row 7 "IFLA_TUN_MULTI_QUEUE" truth ∷
    row 8 "IFLA_TUN_NUM_QUEUES" u32 ∷
    row 9 "IFLA_TUN_NUM_DISABLED_QUEUES" u32 ∷ [])

-- the attribute that a value represents
abbrev pub tun_means : InfoTun → AttrValue
tun_means (infos.Owner user) = Case 1 (Single (Number 4 user))
tun_means (infos.Group group) = Case 2 (Single (Number 4 group))
tun_means (infos.Type kind) = Case 3 (Single (Number 1 kind))
tun_means (infos.Pi enabled) = Case 4 (Single (Boolean enabled))
tun_means (infos.VnetHdr enabled) = Case 5 (Single (Boolean enabled))
tun_means (infos.Persist enabled) = Case 6 (Single (Boolean enabled))
tun_means (infos.MultiQueue enabled) = Case 7 (Single (Boolean enabled))
tun_means (infos.NumQueues number) = Case 8 (Single (Number 4 number))
tun_means (infos.NumDisabledQueues number) = Case 9 (Single (Number 4 number))
tun_means (infos.Other other) = default_means other
