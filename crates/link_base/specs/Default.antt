-- The meaning of an attribute of any type.
use Rattle.std.specs.Prelude.{[]}
use Rattle.link_base.specs.declared.rows.default_nla.DefaultNla.{DefaultNla}
use Rattle.link_base.specs.Table.{Table, Attr, Other}

-- its `nla_type` and its payload
abbrev pub default_means : {V : Type 0} → DefaultNla → Attr V
default_means d = Other d.kind d.value

-- no attribute type has a row
abbrev pub default_table : Table
default_table = []
