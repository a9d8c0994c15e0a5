use Rattle.std.proofs.Common.{◌≡◌, ◌≤◌, length}
use Rattle.link_base.specs.Viewed.{bytes_in}
use Rattle.link_entries.proofs.ElementEntries.{AddressesTo}
use Rattle.link_entries.proofs.elements.put_each_address.Given as goal

abbrev pub invariant-addresses : goal.invariant-addresses
invariant-addresses l =
    (l.length ≡ length (bytes_in l.fn.addresses)) × AddressesTo l.kind l.at l.size (bytes_in l.fn.addresses) (bytes_in l.rest) l.fn.places l.places l.first l.next

abbrev pub decreases-addresses : goal.decreases-addresses
decreases-addresses l = length (bytes_in l.rest)

abbrev pub invariant-even : goal.invariant-even
invariant-even l =
    (l.length ≡ length (bytes_in l.fn.addresses))
    × AddressesTo l.kind l.at l.size (bytes_in l.fn.addresses) (bytes_in l.rest) l.fn.places l.places l.first l.next
    × (length (bytes_in l.rest) ≤ length (bytes_in l.initial.rest))

abbrev pub decreases-even : goal.decreases-even
decreases-even l = length (bytes_in l.rest)
