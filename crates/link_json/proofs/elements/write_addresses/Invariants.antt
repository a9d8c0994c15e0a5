use Rattle.std.proofs.Common.{length}
use Rattle.link_json.proofs.Listing.{AddressesTo}
use Rattle.link_json.proofs.elements.write_addresses.Given as goal

abbrev pub invariant-loop-attribute : goal.invariant-loop-attribute
invariant-loop-attribute l = AddressesTo l.size l.list l.rest l.fn.doc l.doc

abbrev pub decreases-loop-attribute : goal.decreases-loop-attribute
decreases-loop-attribute l = length l.rest
