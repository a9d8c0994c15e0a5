use Rattle.std.proofs.Common.{◌≡◌, length}
use Rattle.link_base.specs.Viewed.{bytes_in}
use Rattle.link_entries.proofs.ElementEntries.{AddressTo}
use Rattle.link_entries.proofs.finding_elements.find_address.Given as goal

abbrev pub invariant-addresses : goal.invariant-addresses
invariant-addresses l =
    (l.length ≡ length (bytes_in l.fn.addresses)) × AddressTo l.kind l.at l.size l.inner (bytes_in l.fn.addresses) (bytes_in l.rest) l.index l.found

abbrev pub decreases-addresses : goal.decreases-addresses
decreases-addresses l = length (bytes_in l.rest)
