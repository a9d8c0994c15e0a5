-- Attributes of a link for MCTP.
use Rattle.std.specs.Prelude.{[], ◌∷◌}
use Rattle.link_base.specs.Class.{Number}
use Rattle.link_base.specs.Payloads.{u8, u32}
use Rattle.link_base.specs.Table.{Table, AttrValue, Case, Single, row, prefixed}
use Rattle.link_base.specs.Default.{default_means}
use Rattle.link_common.specs.declared.mctp.AfSpecMctp.{AfSpecMctp}
use Rattle.link_common.specs.declared.mctp.AfSpecMctp.TheVariants as infos

-- one row for each attribute type
abbrev pub mctp_table : Table
mctp_table = prefixed "IFLA_MCTP_" (
    row 1 "IFLA_MCTP_NET" u32 ∷
    row 2 "IFLA_MCTP_PHYS_BINDING" u8 ∷ [])

-- the attribute that a value represents
abbrev pub mctp_means : AfSpecMctp → AttrValue
mctp_means (infos.Net network) = Case 1 (Single (Number 4 network))
mctp_means (infos.PhysBinding binding) = Case 2 (Single (Number 1 binding))
mctp_means (infos.Other other) = default_means other
