use Rattle.std.proofs.Common.{arith}
use Rattle.link_requests.specs.Request.{attributes_of}
use Rattle.link_requests.proofs.StoredValues.{encodes_front}
use Rattle.link_requests.proofs.writing.place_attributes.Goals as goal

pub returns : goal.returns
returns c =
    let within = c.if-size-short.false in
    encodes_front (attributes_of c.args.head.now c.args.octets.now c.args.values.now) c.args.short.now c.args.room.now c.store.new.room c.args.size (c.requires within) within (omega (arith, c.ranges.size.fits)) c.store.ensures
