use Rattle.std.proofs.Common.{◌≡◌, ◌+◌, ◌-◌, length, ap, arith}
use Rattle.link_base.specs.Viewed.{bytes_in}
use Rattle.link_base.proofs.ViewLemmas.{split_less}
use Rattle.link_entries.proofs.ElementEntries.{addresses_more}
use Rattle.link_entries.proofs.elements.put_each_address.Goals as goal

pub even-preserved : goal.even-preserved
even-preserved c =
    let before = c.even.invariant in
    let list = bytes_in c.args.addresses in
    let rest = bytes_in c.even.rest in
    let after = bytes_in c.put_next_address.new.rest in
    let offset = c.args.at + (length c.bytes-length.result.now - length c.bytes-in-even.result.now) + 4 in
    let place : offset ≡ c.args.at + ((length list - length rest) + 4) = omega (arith, before.0, ap length c.bytes-in-even.ensures) in
    let (b, split, counted, stored) = c.in-Some.ensures in (
      before.0,
      addresses_more c.args.kind c.args.at c.args.size list rest after c.args.places.now c.even.places c.put_next_address.new.places c.args.first c.even.next c.in-Some.after offset b before.1 split
          place counted stored,
      omega (arith, before.2, split_less rest b after split),
    )

pub addresses-smaller : goal.addresses-smaller
addresses-smaller c =
    let (b, split, counted, stored) = c.in-Some-put_next_address.ensures in
    omega (arith, c.even.invariant.2, split_less (bytes_in c.even.rest) b (bytes_in c.put_next_address-in-addresses.new.rest) split)

pub addresses-preserved : goal.addresses-preserved
addresses-preserved c =
    let before = c.even.invariant in
    let list = bytes_in c.args.addresses in
    let rest = bytes_in c.even.rest in
    let offset = c.args.at + (length c.bytes-length.result.now - length c.bytes-in-addresses.result.now) + 4 in
    let place : offset ≡ c.args.at + ((length list - length rest) + 4) = omega (arith, before.0, ap length c.bytes-in-addresses.ensures) in
    let (b, split, counted, stored) = c.in-Some-put_next_address.ensures in (
      before.0,
      addresses_more c.args.kind c.args.at c.args.size list rest (bytes_in c.put_next_address-in-addresses.new.rest) c.args.places.now c.even.places c.put_next_address-in-addresses.new.places
          c.args.first c.even.next c.in-Some-put_next_address.after offset b before.1 split place counted stored,
    )
