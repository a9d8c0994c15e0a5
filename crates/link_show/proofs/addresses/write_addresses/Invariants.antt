use Rattle.std.proofs.Common.{length}
use Rattle.link_show.proofs.Addressing.{AddressesTo}
use Rattle.link_show.proofs.addresses.write_addresses.Given as goal

abbrev pub invariant-loop-attribute : goal.invariant-loop-attribute
invariant-loop-attribute g l = AddressesTo l.size l.list l.rest l.separator (g.W.Sink.output l.fn.writer) (g.W.Sink.output l.writer)

abbrev pub decreases-loop-attribute : goal.decreases-loop-attribute
decreases-loop-attribute g l = length l.rest
