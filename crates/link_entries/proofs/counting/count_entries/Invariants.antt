use Rattle.std.proofs.Common.{[], length}
use Rattle.link_base.specs.Viewed.{bytes_in}
use Rattle.link_entries.proofs.Groups.{GroupsTo}
use Rattle.link_entries.proofs.counting.count_entries.Given as goal

abbrev pub invariant-values : goal.invariant-values
invariant-values g l = GroupsTo g.F.Meaning.table l.bytes (bytes_in l.rest) [] [] l.count

abbrev pub decreases-values : goal.decreases-values
decreases-values g l = length (bytes_in l.rest)
