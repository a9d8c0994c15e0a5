-- Attributes of a link for each address family.
use Rattle.std.specs.Prelude.{[], ◌∷◌}
use Rattle.link_base.specs.Class.{Raw}
use Rattle.link_base.specs.Payloads.{held}
use Rattle.link_base.specs.Table.{Table, AttrValue, Case, Single, row, prefixed}
use Rattle.link_base.specs.Default.{default_means}
use Rattle.link_common.specs.declared.af_spec.AfSpecUnspec.{AfSpecUnspec}
use Rattle.link_common.specs.declared.af_spec.AfSpecUnspec.TheVariants as infos

-- one row for each attribute type
abbrev pub af_spec_table : Table
af_spec_table = prefixed "AF_" (
    row 2 "AF_INET" held ∷
    row 10 "AF_INET6" held ∷
    row 45 "AF_MCTP" held ∷ [])

-- the attribute that a value represents
abbrev pub af_spec_means : AfSpecUnspec → AttrValue
af_spec_means (infos.Inet list) = Case 2 (Single (Raw list.items))
af_spec_means (infos.Inet6 list) = Case 10 (Single (Raw list.items))
af_spec_means (infos.Mctp list) = Case 45 (Single (Raw list.items))
af_spec_means (infos.Other other) = default_means other
