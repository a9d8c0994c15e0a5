-- VRF port attributes.
use Rattle.std.specs.Prelude.{[], ◌∷◌}
use Rattle.link_base.specs.Class.{Number}
use Rattle.link_base.specs.Payloads.{u32}
use Rattle.link_base.specs.Table.{Table, AttrValue, Case, Single, row, prefixed}
use Rattle.link_base.specs.Default.{default_means}
use Rattle.link_devices.specs.declared.vrf_port.InfoVrfPort.{InfoVrfPort}
use Rattle.link_devices.specs.declared.vrf_port.InfoVrfPort.TheVariants as infos

-- one row for each attribute type
abbrev pub vrf_port_table : Table
vrf_port_table = prefixed "IFLA_VRF_PORT_" (row 1 "IFLA_VRF_PORT_TABLE" u32 ∷ [])

-- the attribute that a value represents
abbrev pub vrf_port_means : InfoVrfPort → AttrValue
vrf_port_means (infos.TableId number) = Case 1 (Single (Number 4 number))
vrf_port_means (infos.Other other) = default_means other
