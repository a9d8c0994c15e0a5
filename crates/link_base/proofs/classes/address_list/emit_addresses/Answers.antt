use Rattle.std.proofs.Common.{◌≡◌, ◌-◌, length, map, take, drop, arith, ap, refl}
use Rattle.std.proofs.lemmas.List.{length-take, length-drop, length-append}
use Rattle.link_base.specs.Frame.{frame_bytes, bytes_of_frames}
use Rattle.link_base.specs.Wire.{whole}
use Rattle.link_base.specs.Table.{addresses_from}
use Rattle.link_base.specs.Held.{IsOctets}
use Rattle.link_base.proofs.AddressLists.{few, addresses_more, addresses_room, kind_short}
use Rattle.link_base.proofs.Emit.{frame_after, all_more, length-whole_bytes}
use Rattle.link_base.proofs.classes.address_list.emit_addresses.Goals as goal

pub overflow_cast-element : goal.overflow_cast-element
overflow_cast-element g c =
    let law = g.A.Address in
    omega (arith, kind_short g.A.Address.octets g.A.Address.SIZE law.sized c.args.addresses.now c.loop-i.i c.loop-i-test.true, c.requires.fits)

pub invariant_of-element : goal.invariant_of-element
invariant_of-element g c =
    let law = g.A.Address in
    record { kind_in_range = omega (arith, kind_short g.A.Address.octets g.A.Address.SIZE law.sized c.args.addresses.now c.loop-i.i c.loop-i-test.true, c.requires.fits) }

pub emit-requires-clause-room : goal.emit-requires-clause-room
emit-requires-clause-room g c =
    let law = g.A.Address in
    let b = c.loop-i.buffer in
    let at = c.loop-i.at in
    let room = addresses_room g.A.Address.octets g.A.Address.SIZE law.sized c.args.addresses.now c.loop-i.i c.index-addresses-i.result c.loop-i-test.true in
    omega (arith, room, length-take (length b - at) (drop at b), length-drop at b, c.loop-i.invariant.at, c.loop-i.auto.buffer, c.requires.exact)

pub loop-i-preserved : goal.loop-i-preserved
loop-i-preserved g c =
    let law = g.A.Address in
    let octets = g.A.Address.octets in
    let n = g.A.Address.SIZE in
    let xs = c.args.addresses.now in
    let i = c.loop-i.i in
    let x = c.index-addresses-i.result in
    let more = addresses_more octets n law.sized xs i x c.loop-i-test.true c.index-addresses-i.is in
    let room = addresses_room octets n law.sized xs i x c.loop-i-test.true in
    let at = c.loop-i.at in
    let text = bytes_of_frames (addresses_from 0 (map octets (take i xs))) in
    let frame = frame_bytes (whole i (octets x)) in
    let len = length-whole_bytes i (octets x) in
    let both = length-append text frame in
    let place = c.loop-i.invariant.at in
    let size : c.buffer_len-at.result ≡ length frame = omega (arith, c.buffer_len-at.ensures, len, law.sized x, few n law.few) in
    record {
      written = rw more (frame_after c.args.buffer.now c.loop-i.buffer _ text frame c.emit.new.buffer at c.loop-i.invariant.written place (omega (arith, room, c.requires.exact)) c.emit.ensures.written refl);
      at = omega (arith, ap length more, both, place, size);
      in_range = all_more octets (IsOctets n) xs i x c.loop-i-test.true c.index-addresses-i.is c.loop-i.invariant.in_range (law.sized x, c.emit.ensures.in_range.1);
    }
