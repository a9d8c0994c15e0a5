use Rattle.link_json.proofs.Listing.{addresses_none, addresses_more, addresses_all}
use Rattle.link_json.proofs.elements.write_addresses.Goals as goal

pub loop-attribute-init : goal.loop-attribute-init
loop-attribute-init c = addresses_none c.args.size c.args.list.now c.args.doc.now

pub loop-attribute-preserved : goal.loop-attribute-preserved
loop-attribute-preserved c =
    addresses_more c.args.size c.args.list.now c.loop-attribute.rest.now c.in-Ok.after.now c.args.doc.now c.loop-attribute.doc c.write_address_of.new.doc c.in-Ok.attribute c.loop-attribute.invariant
    c.in-Ok.ensures (rw c.value.ensures at c.in_ok-write_address_of.ensures)

pub returns : goal.returns
returns c = addresses_all c.args.size c.args.list.now c.loop-attribute.rest.now c.args.doc.now c.loop-attribute.doc c.in_default.field-0 c.loop-attribute.invariant c.in_default.ensures
