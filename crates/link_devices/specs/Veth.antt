-- Attributes of VETH and VXCAN devices.
use Rattle.std.specs.Prelude.{[], ◌∷◌}
use Rattle.link_base.specs.Peer.{peer_octets}
use Rattle.link_base.specs.Class.{Raw}
use Rattle.link_base.specs.Payloads.{peer}
use Rattle.link_base.specs.Table.{Table, AttrValue, Case, Single, row, prefixed}
use Rattle.link_base.specs.Default.{default_means}
use Rattle.link_devices.specs.declared.veth.InfoVeth.{InfoVeth}
use Rattle.link_devices.specs.declared.veth.InfoVeth.TheVariants as infos

-- one row for each attribute type
abbrev pub veth_table : Table
veth_table = prefixed "VETH_INFO_" (row 1 "VETH_INFO_PEER" peer ∷ [])

-- the attribute that a value represents
abbrev pub veth_means : InfoVeth → AttrValue
veth_means (infos.Peer peer) = Case 1 (Single (Raw (peer_octets peer)))
veth_means (infos.Other other) = default_means other
