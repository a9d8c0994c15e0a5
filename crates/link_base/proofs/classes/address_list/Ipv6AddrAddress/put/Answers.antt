use Rattle.std.proofs.Common.{◌≡◌, ◌∙◌, length, refl, sym, subst, ap, arith}
use Rattle.std.specs.Net.Addr.{ipv6_octets}
use Rattle.link_base.specs.Number.{IsBytes}
use Rattle.link_base.proofs.AddressLists.{sized_all}
use Rattle.link_base.proofs.Numbers.{IsBytes-index}
use Rattle.link_base.proofs.classes.address_list.Ipv6AddrAddress.put.Goals as goal

pub returns-clause-written : goal.returns-clause-written
returns-clause-written c =
    let a = c.args.self.now in
    let is : c.copy_from_slice.new.self ≡ ipv6_octets a = c.copy_from_slice.ensures.after ∙ c.octets.ensures in
    let len : length (ipv6_octets a) ≡ 16 = omega (arith, ap length is, c.copy_from_slice.ensures.len, c.requires) in
    is ∙ sym (sized_all 16 (ipv6_octets a) len)

pub returns-clause-in_range : goal.returns-clause-in_range
returns-clause-in_range c =
    let bytes = IsBytes-index c.copy_from_slice.new.self (λ i. omega (arith, c.type_inv.buffer i)) in
    (refl, subst IsBytes (returns-clause-written c) bytes)
