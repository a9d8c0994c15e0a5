-- Bond port attributes.
use Rattle.std.specs.Prelude.{[], ◌∷◌}
use Rattle.link_base.specs.Class.{Number, Integer, Raw, LowByte}
use Rattle.link_base.specs.Payloads.{u16, u32, i32, u8_enum, u8_flags, low_flags, bytes}
use Rattle.link_base.specs.Named.{numbers_of, seen_value}
use Rattle.link_base.specs.Table.{Table, AttrValue, Case, Single, row, prefixed}
use Rattle.link_base.specs.Default.{default_means}
use Rattle.link_bond.specs.Names.{port_state_names, port_state_seen, mii_status_names, mii_status_seen, churn_state_names, churn_state_seen}
use Rattle.link_bond.specs.LacpState.{lacp_bits, lacp_bit_names}
use Rattle.link_bond.specs.declared.bond_port.InfoBondPort.{InfoBondPort}
use Rattle.link_bond.specs.declared.bond_port.InfoBondPort.TheVariants as infos

-- one row for each attribute type
abbrev pub bond_port_table : Table
bond_port_table = prefixed "IFLA_BOND_SLAVE_" (
    row 1 "IFLA_BOND_SLAVE_STATE" (u8_enum port_state_names) ∷
    row 2 "IFLA_BOND_SLAVE_MII_STATUS" (u8_enum mii_status_names) ∷
    row 3 "IFLA_BOND_SLAVE_LINK_FAILURE_COUNT" u32 ∷
    row 4 "IFLA_BOND_SLAVE_PERM_HWADDR" bytes ∷
    row 5 "IFLA_BOND_SLAVE_QUEUE_ID" u16 ∷
    row 6 "IFLA_BOND_SLAVE_AD_AGGREGATOR_ID" u16 ∷
    row 7 "IFLA_BOND_SLAVE_AD_ACTOR_OPER_PORT_STATE" (u8_flags lacp_bit_names) ∷
    row 8 "IFLA_BOND_SLAVE_AD_PARTNER_OPER_PORT_STATE" (low_flags lacp_bit_names) ∷
    row 9 "IFLA_BOND_SLAVE_PRIO" i32 ∷
    row 10 "IFLA_BOND_SLAVE_ACTOR_PORT_PRIO" u16 ∷
    row 11 "IFLA_BOND_SLAVE_AD_CHURN_ACTOR_STATE" (u8_enum churn_state_names) ∷
    row 12 "IFLA_BOND_SLAVE_AD_CHURN_PARTNER_STATE" (u8_enum churn_state_names) ∷ [])

-- the attribute that a value represents
abbrev pub bond_port_means : InfoBondPort → AttrValue
bond_port_means (infos.BondPortState state) = Case 1 (Single (seen_value 1 (numbers_of port_state_names) (port_state_seen state)))
bond_port_means (infos.MiiStatus status) = Case 2 (Single (seen_value 1 (numbers_of mii_status_names) (mii_status_seen status)))
bond_port_means (infos.LinkFailureCount count) = Case 3 (Single (Number 4 count))
bond_port_means (infos.PermHwaddr address) = Case 4 (Single (Raw address.items))
bond_port_means (infos.QueueId id) = Case 5 (Single (Number 2 id))
bond_port_means (infos.AdAggregatorId id) = Case 6 (Single (Number 2 id))
bond_port_means (infos.AdActorOperPortState state) = Case 7 (Single (Number 1 (lacp_bits state)))
bond_port_means (infos.AdPartnerOperPortState state) = Case 8 (Single (LowByte (lacp_bits state)))
bond_port_means (infos.Prio priority) = Case 9 (Single (Integer priority))
bond_port_means (infos.ActorPortPrio priority) = Case 10 (Single (Number 2 priority))
bond_port_means (infos.AdChurnActorState state) = Case 11 (Single (seen_value 1 (numbers_of churn_state_names) (churn_state_seen state)))
bond_port_means (infos.AdChurnPartnerState state) = Case 12 (Single (seen_value 1 (numbers_of churn_state_names) (churn_state_seen state)))
bond_port_means (infos.Other other) = default_means other
