use Rattle.std.proofs.Common.{◌≡◌, ◌≢◌, ◌<◌, [], ◌∷◌, ◌-◌, length, arith, ap, sym, subst}
use Rattle.std.proofs.lemmas.Grind.{common_steps}
use Rattle.std.proofs.lemmas.List.{length-append}
use Rattle.link_base.specs.FrameOffsets.{Finds}
use Rattle.link_base.specs.Buffer.{kind_field_of, payload_of}
use Rattle.link_base.proofs.FrameAtFront.{Splits, splits}
use Rattle.link_base.proofs.Walking.{before_more, before_all, before_some}
use Rattle.link_base.proofs.wire.frame_table.FrameTable.find_frames.Goals as goal

pub returns-then-is_empty-clause-finds : goal.returns-then-is_empty-clause-finds
returns-then-is_empty-clause-finds c =
    let none : c.loop-place.rest.now ≡ [] = grind (arith, common_steps) in
    let found = before_all c.args.self.now.bytes.now c.loop-place.self.offsets.items c.loop-place.rest.now c.loop-place.invariant.before none in
    subst (λ fault. Finds c.args.self.now.bytes.now c.loop-place.self.offsets.items fault) (sym c.loop-place.invariant.no_fault) found

pub loop-place-preserved : goal.loop-place-preserved
loop-place-preserved c =
    let s = c.args.self.now.bytes.now in
    let rest = c.loop-place.rest.now in
    let offsets = c.loop-place.self.offsets.items in
    let b = c.at_front.result in
    let some : rest ≢ [] = λ e. grind (arith, common_steps) in
    let pushed = c.push_reserved.ensures in
    let split = subst (Splits rest (kind_field_of b) (payload_of b)) (sym c.step_over-rest.ensures) (splits rest (kind_field_of b) (payload_of b) c.at_front.ensures) in
    record {
      same = c.loop-place.invariant.same;
      before = before_more s offsets c.push_reserved.new.self.items rest c.step_over-rest.result.now (kind_field_of b) (payload_of b) c.loop-place.invariant.before some split pushed.items;
      no_fault = c.loop-place.invariant.no_fault;
      many = omega (arith, c.loop-place.invariant.many, ap length pushed.items, length-append offsets ((length s - length rest) ∷ []));
      room = omega (arith, c.loop-place.invariant.room, pushed.capacity);
    }

pub returns-clause-memory : goal.returns-clause-memory
returns-clause-memory c =
    let some : 0 < length c.loop-place.self.offsets.items = omega (arith, c.loop-place.invariant.many, c.loop-place-test.false) in
    let begins = before_some c.args.self.now.bytes.now c.loop-place.self.offsets.items c.loop-place.rest.now c.loop-place.invariant.before some in
    grind (arith, common_steps, begins)
