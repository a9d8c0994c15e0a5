-- The attributes that views of the lists of a `Family` have.
use Rattle.std.specs.Prelude.{ℕ}
use Rattle.link_base.specs.Table.{Table}
use Rattle.link_base.specs.Borrowed.{elements_at}
use Rattle.netlink_packet_route.specs.declared.family.Family.{Family}
use Rattle.netlink_packet_route.specs.declared.viewing.FamilySet.{FamilySet}
use Rattle.netlink_packet_route.specs.declared.viewing.FamilyElements.{FamilyElements}
use Rattle.netlink_packet_route.specs.Family.{table_of}

-- the attribute set
abbrev pub family_in : FamilySet → Family
family_in set = set.family

-- the attributes in its nested lists of attribute type k
abbrev pub elements_in : FamilySet → ℕ → FamilyElements
elements_in set k = record { family = set.family; list = k }

-- their table
abbrev pub elements_table : FamilyElements → Table
elements_table set = elements_at (table_of set.family) set.list
