use Rattle.std.proofs.Common.{◌≤◌, length}
use Rattle.link_base.specs.Viewed.{bytes_in}
use Rattle.link_entries.proofs.Groups.{GroupsTo}
use Rattle.link_entries.proofs.flattening.put_list.Given as goal

abbrev pub invariant-values : goal.invariant-values
invariant-values g l = GroupsTo g.F.Meaning.table l.bytes (bytes_in l.rest) l.fn.places l.places l.next

abbrev pub decreases-values : goal.decreases-values
decreases-values g l = length (bytes_in l.rest)

abbrev pub invariant-singles : goal.invariant-singles
invariant-singles g l = GroupsTo g.F.Meaning.table l.bytes (bytes_in l.rest) l.fn.places l.places l.next × (length (bytes_in l.rest) ≤ length (bytes_in l.initial.rest))

abbrev pub decreases-singles : goal.decreases-singles
decreases-singles g l = length (bytes_in l.rest)
