use Rattle.std.proofs.Common.{◌≡◌, ◌≢◌, refl, None, [], ◌∷◌, ◌++◌, ◌-◌, length, arith, ap, sym, subst, ◌∙◌}
use Rattle.std.proofs.lemmas.Grind.{common_steps}
use Rattle.link_base.specs.Frame.{frame_fault}
use Rattle.link_base.specs.Buffer.{kind_field_of, payload_of, frame_of}
use Rattle.link_base.proofs.FrameAtFront.{Splits, splits}
use Rattle.link_base.proofs.FrameBytes.{frame_fault-frame}
use Rattle.link_base.proofs.Walking.{before_more, before_all, begin_next}
use Rattle.link_base.proofs.wire.frame_table.put_down.Goals as goal

pub loop-rest-preserved : goal.loop-rest-preserved
loop-rest-preserved c =
    let s = c.args.bytes.now in
    let rest = c.loop-rest.rest.now in
    let offsets = c.loop-rest.offsets.items in
    let b = c.at_front.result in
    let x = frame_of b in
    let w = c.loop-rest.invariant.before in
    let some : rest ≢ [] = λ e. grind (arith, common_steps) in
    let none : frame_fault rest ≡ None = ap frame_fault c.at_front.ensures.string ∙ frame_fault-frame x c.at_front.ensures.rest c.at_front.ensures.is in
    let next = c.step_over-rest.ensures in
    let pushed : c.push_reserved.new.self.items ≡ offsets ++ (length s - length rest) ∷ [] = c.push_reserved.ensures.items ∙ ap (λ xs. xs ++ (length s - length rest) ∷ []) c.in_ok-make_room.ensures.same in
    let split = subst (Splits rest (kind_field_of b) (payload_of b)) (sym next) (splits rest (kind_field_of b) (payload_of b) c.at_front.ensures) in
    record {
      before = before_more s offsets c.push_reserved.new.self.items rest c.step_over-rest.result.now (kind_field_of b) (payload_of b) w some split pushed;
      begin = begin_next s s offsets c.push_reserved.new.self.items rest w none refl c.loop-rest.invariant.begin pushed;
    }

pub returns-clause-finds : goal.returns-clause-finds
returns-clause-finds c =
    let none : c.loop-rest.rest.now ≡ [] = grind (arith, common_steps) in
    before_all c.args.bytes.now c.loop-rest.offsets.items c.loop-rest.rest.now c.loop-rest.invariant.before none
