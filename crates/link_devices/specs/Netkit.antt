-- NETKIT device attributes.
use Rattle.std.specs.Prelude.{[], ◌∷◌}
use Rattle.link_base.specs.Peer.{peer_octets}
use Rattle.link_base.specs.Class.{Number, Boolean, Raw}
use Rattle.link_base.specs.Payloads.{u16, truth, u32_coded, peer}
use Rattle.link_base.specs.Table.{Table, AttrValue, Case, Single, row, prefixed}
use Rattle.link_base.specs.Default.{default_means}
use Rattle.link_devices.specs.NetkitNames.{netkit_policy_names, netkit_mode_names, netkit_scrub_names}
use Rattle.link_devices.specs.declared.netkit.InfoNetkit.{InfoNetkit}
use Rattle.link_devices.specs.declared.netkit.InfoNetkit.TheVariants as infos

-- one row for each attribute type
abbrev pub netkit_table : Table
netkit_table = prefixed "IFLA_NETKIT_" (
    row 1 "IFLA_NETKIT_PEER_INFO" peer ∷
    row 2 "IFLA_NETKIT_PRIMARY" truth ∷
    row 3 "IFLA_NETKIT_POLICY" (u32_coded netkit_policy_names) ∷
    row 4 "IFLA_NETKIT_PEER_POLICY" (u32_coded netkit_policy_names) ∷
    row 5 "IFLA_NETKIT_MODE" (u32_coded netkit_mode_names) ∷
    row 6 "IFLA_NETKIT_SCRUB" (u32_coded netkit_scrub_names) ∷
    row 7 "IFLA_NETKIT_PEER_SCRUB" (u32_coded netkit_scrub_names) ∷
    row 8 "IFLA_NETKIT_HEADROOM" u16 ∷
    row 9 "IFLA_NETKIT_TAILROOM" u16 ∷ [])

-- the attribute that a value represents
abbrev pub netkit_means : InfoNetkit → AttrValue
netkit_means (infos.PeerInfo peer) = Case 1 (Single (Raw (peer_octets peer)))
netkit_means (infos.Primary primary) = Case 2 (Single (Boolean primary))
netkit_means (infos.Policy policy) = Case 3 (Single (Number 4 policy))
netkit_means (infos.PeerPolicy policy) = Case 4 (Single (Number 4 policy))
netkit_means (infos.Mode mode) = Case 5 (Single (Number 4 mode))
netkit_means (infos.Scrub scrub) = Case 6 (Single (Number 4 scrub))
netkit_means (infos.PeerScrub scrub) = Case 7 (Single (Number 4 scrub))
netkit_means (infos.Headroom length) = Case 8 (Single (Number 2 length))
netkit_means (infos.Tailroom length) = Case 9 (Single (Number 2 length))
netkit_means (infos.Other other) = default_means other
