use Rattle.std.proofs.Common.{◌≡◌, ◌≤◌, ◌+◌, ◌*◌, ◌/◌, length, map}
use Rattle.std.specs.Prelude.{vec_len, vec_capacity}
use Rattle.link_base.proofs.AddressLists.{Kept}
use Rattle.link_base.proofs.classes.address_list.push_addresses.Given as goal

abbrev pub invariant-loop-rest : goal.invariant-loop-rest
invariant-loop-rest g l =
    let n = g.A.Address.SIZE in
    record {
      reads : Kept n l.payload l.rest (map g.A.Address.octets l.addresses.items);
      low : vec_len l.addresses * (n + 4) + length l.rest ≤ length l.payload;
      room : vec_capacity l.addresses ≡ length l.payload / (n + 4);
    }

abbrev pub decreases-loop-rest : goal.decreases-loop-rest
decreases-loop-rest g l = length l.rest
