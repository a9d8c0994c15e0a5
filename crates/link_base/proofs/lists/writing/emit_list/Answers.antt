use Rattle.std.proofs.Common.{arith, length, ap, sym, ◌≡◌, ◌-◌, map, take, drop, refl, subst}
use Rattle.std.proofs.lemmas.List.{length-take, length-drop, length-append}
use Rattle.link_base.specs.Table.{written_list, written_frame, written_kind, written_payload, Fits}
use Rattle.link_base.specs.Held.{IsInRange}
use Rattle.link_base.proofs.Emit.{written_more, written_room, frame_after, all_at, all_more, length-whole_bytes}
use Rattle.link_base.proofs.lists.writing.emit_list.Goals as goal

pub emit_sized-requires-clause-fits : goal.emit_sized-requires-clause-fits
emit_sized-requires-clause-fits g c =
    let means = g.F.Meaning.means in
    let i = c.loop-value.value-index in
    subst (λ y. Fits (means y)) (sym c.value-item.is) (all_at means Fits c.args.values.now i c.value-item.result c.requires.fits c.loop-value-test.true)

pub emit_sized-requires-clause-size : goal.emit_sized-requires-clause-size
emit_sized-requires-clause-size g c =
    let means = g.F.Meaning.means in
    let i = c.loop-value.value-index in
    let fits : Fits (means c.value-item.result) = subst (λ y. Fits (means y)) (sym c.value-item.is) (all_at means Fits c.args.values.now i c.value-item.result c.requires.fits c.loop-value-test.true) in
    omega (arith, c.value_len-size.ensures, fits)

pub emit_sized-requires-clause-room : goal.emit_sized-requires-clause-room
emit_sized-requires-clause-room g c =
    let b = c.loop-value.buffer in
    let at = c.loop-value.at in
    let room = written_room g.F.Meaning.means c.args.values.now c.loop-value.value-index c.value-item.result c.loop-value-test.true c.value-item.is in
    omega (arith, room, length-take (length b - at) (drop at b), length-drop at b, c.loop-value.invariant.at, c.loop-value.auto.buffer, c.requires.room)

pub loop-value-preserved : goal.loop-value-preserved
loop-value-preserved g c =
    let means = g.F.Meaning.means in
    let xs = c.args.values.now in
    let i = c.loop-value.value-index in
    let x = c.value-item.result in
    let more = written_more means xs i x c.loop-value-test.true c.value-item.is in
    let room = written_room means xs i x c.loop-value-test.true c.value-item.is in
    let b = c.loop-value.buffer in
    let at = c.loop-value.at in
    let v = means x in
    let text = written_list (map means (take i xs)) in
    let frame = written_frame v in
    let fits : Fits v = subst (λ y. Fits (means y)) (sym c.value-item.is) (all_at means Fits xs i x c.requires.fits c.loop-value-test.true) in
    let len = length-whole_bytes (written_kind v) (written_payload v) in
    let both = length-append text frame in
    let place = c.loop-value.invariant.at in
    let size : c.total_size-at.result ≡ length frame = omega (arith, c.total_size-at.ensures, c.value_len-size.ensures, len, fits) in
    record {
      written = rw more (frame_after c.args.buffer.now b _ text frame c.emit_sized.new.buffer at c.loop-value.invariant.written place (omega (arith, room, c.requires.room)) c.emit_sized.ensures.written refl);
      at = omega (arith, ap length more, both, place, size);
      in_range = all_more means (IsInRange g.F.Meaning.table) xs i x c.loop-value-test.true c.value-item.is c.loop-value.invariant.in_range c.emit_sized.ensures.in_range;
    }
