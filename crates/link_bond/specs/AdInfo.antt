-- The active aggregator of a bond.
use Rattle.std.specs.Prelude.{[], ◌∷◌}
use Rattle.link_base.specs.Class.{Number, Raw}
use Rattle.link_base.specs.Payloads.{u16, mac}
use Rattle.link_base.specs.Table.{Rows, Leaf, Case, leaf_row, prefixed}
use Rattle.link_base.specs.Default.{default_means}
use Rattle.link_bond.specs.declared.bond.ad_info.BondAdInfo.{BondAdInfo}
use Rattle.link_bond.specs.declared.bond.ad_info.BondAdInfo.TheVariants.{Aggregator, NumPorts, ActorKey, PartnerKey, PartnerMac, Other}

-- one row for each attribute type
abbrev pub ad_info_rows : Rows
ad_info_rows = prefixed "IFLA_BOND_AD_INFO_" (
    leaf_row 1 "IFLA_BOND_AD_INFO_AGGREGATOR" u16 ∷
    leaf_row 2 "IFLA_BOND_AD_INFO_NUM_PORTS" u16 ∷
    leaf_row 3 "IFLA_BOND_AD_INFO_ACTOR_KEY" u16 ∷
    leaf_row 4 "IFLA_BOND_AD_INFO_PARTNER_KEY" u16 ∷
    leaf_row 5 "IFLA_BOND_AD_INFO_PARTNER_MAC" mac ∷ [])

-- the attribute that a value represents
abbrev pub ad_info_leaf : BondAdInfo → Leaf
ad_info_leaf (Aggregator number) = Case 1 (Number 2 number)
ad_info_leaf (NumPorts count) = Case 2 (Number 2 count)
ad_info_leaf (ActorKey key) = Case 3 (Number 2 key)
ad_info_leaf (PartnerKey key) = Case 4 (Number 2 key)
ad_info_leaf (PartnerMac address) = Case 5 (Raw address)
ad_info_leaf (Other other) = default_means other
