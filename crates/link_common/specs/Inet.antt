-- Attributes of a link for IPv4.
use Rattle.std.specs.Prelude.{[], ◌∷◌}
use Rattle.std.specs.Int.{w32, cast_unsigned}
use Rattle.link_base.specs.Layout.{octets_by}
use Rattle.link_base.specs.Class.{Raw}
use Rattle.link_base.specs.Payloads.{i32_counters}
use Rattle.link_base.specs.Table.{Table, AttrValue, Case, Single, row, prefixed}
use Rattle.link_base.specs.Default.{default_means}
use Rattle.link_common.specs.Places.{ipv4_conf_names}
use Rattle.link_common.specs.declared.inet.AfSpecInet.{AfSpecInet}
use Rattle.link_common.specs.declared.inet.AfSpecInet.TheVariants as infos

-- one row for each attribute type
abbrev pub inet_table : Table
inet_table = prefixed "IFLA_INET_" (row 1 "IFLA_INET_CONF" (i32_counters ipv4_conf_names) ∷ [])

-- the attribute that a value represents
abbrev pub inet_means : AfSpecInet → AttrValue
inet_means (infos.Conf settings) = Case 1 (Single (Raw (octets_by 4 (cast_unsigned w32) settings.items)))
inet_means (infos.Other other) = default_means other
