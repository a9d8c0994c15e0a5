use Rattle.std.proofs.Common.{◌≡◌, ◌+◌, ◌-◌, ◌==◌, cond, length, subst, set}
use Rattle.link_base.specs.Buffer.{payload_of}
use Rattle.link_base.specs.Viewed.{buffer_in}
use Rattle.link_entries.specs.Flat.{address_entry}
use Rattle.link_entries.proofs.elements.put_next_address.Goals as goal

pub returns-in-Some : goal.returns-in-Some
returns-in-Some c =
    let b = buffer_in c.in-Some.address in
    let next = c.args.next in
    let places = c.args.places.now in
    let counted = subst (λ x. c.put_address.result ≡ cond (length (payload_of x) == c.args.size) (next + 1) next) c.buffer.ensures c.put_address.ensures.place in
    let stored =
    subst (λ x. c.put_address.new.places ≡ cond (length (payload_of x) == c.args.size) (set places next (address_entry c.args.kind (next - c.args.first) c.args.offset (payload_of x))) places)
    c.buffer.ensures c.put_address.ensures.stored in
    (b, c.in-Some.ensures.steps.0, counted, stored)
