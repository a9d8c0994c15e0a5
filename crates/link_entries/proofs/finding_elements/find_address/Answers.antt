use Rattle.std.proofs.Common.{◌≡◌, ◌+◌, ◌-◌, ◌==◌, cond, Some, length, ap, subst, arith}
use Rattle.link_base.specs.Buffer.{payload_of}
use Rattle.link_base.specs.Viewed.{bytes_in, buffer_in}
use Rattle.link_entries.specs.Flat.{address_entry}
use Rattle.link_entries.proofs.ElementEntries.{address_more, address_found}
use Rattle.link_entries.proofs.finding_elements.find_address.Goals as goal

pub addresses-preserved : goal.addresses-preserved
addresses-preserved c =
    let before = c.addresses.invariant in
    let list = bytes_in c.args.addresses in
    let rest = bytes_in c.addresses.rest in
    let b = buffer_in c.in-Some.address in
    let index = c.addresses.index in
    let offset = c.args.at + (length c.bytes-length.result.now - length c.bytes.result.now) + 4 in
    let place : offset ≡ c.args.at + ((length list - length rest) + 4) = omega (arith, before.0, ap length c.bytes.ensures) in
    let found =
    subst (λ x. c.at_index-found.result ≡ cond (length (payload_of x) == c.args.size) (cond (index == c.args.inner) (Some (address_entry c.args.kind index offset (payload_of x))) c.addresses.found) c.addresses.found)
    c.buffer-buffer.ensures c.at_index-found.ensures in
    let counted = subst (λ x. c.index_after-index.result ≡ cond (length (payload_of x) == c.args.size) (index + 1) index) c.buffer-buffer.ensures c.index_after-index.ensures in (
      before.0,
      address_more c.args.kind c.args.at c.args.size c.args.inner list rest (bytes_in c.next.new.self) index c.index_after-index.result c.addresses.found c.at_index-found.result offset b before.1
          c.in-Some.ensures.steps.0 place found counted,
    )

pub returns-in-None : goal.returns-in-None
returns-in-None c =
    address_found c.args.kind c.args.at c.args.size c.args.inner (bytes_in c.args.addresses) (bytes_in c.addresses.rest) c.addresses.index c.addresses.found c.addresses.invariant.1
    c.in-None.ensures.steps.0
