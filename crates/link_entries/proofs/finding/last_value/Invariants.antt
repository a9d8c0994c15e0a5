use Rattle.std.proofs.Common.{◌≡◌, length}
use Rattle.link_base.specs.Viewed.{set_of, bytes_in}
use Rattle.link_entries.proofs.LastOf.{LastTo}
use Rattle.link_entries.proofs.finding.last_value.Given as goal

abbrev pub invariant-values : goal.invariant-values
invariant-values g l =
    (l.length ≡ length (bytes_in l.fn.list)) × (set_of l.rest ≡ set_of l.fn.list)
    × LastTo l.kind (bytes_in l.fn.list) (set_of l.fn.list) (bytes_in l.rest) l.found

abbrev pub decreases-values : goal.decreases-values
decreases-values g l = length (bytes_in l.rest)
