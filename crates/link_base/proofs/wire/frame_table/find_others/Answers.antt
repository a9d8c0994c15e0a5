use Rattle.std.proofs.Common.{◌≡◌, [], sym, subst, arith}
use Rattle.std.proofs.lemmas.Grind.{common_steps}
use Rattle.link_base.specs.FrameOffsets.{Finds}
use Rattle.link_base.proofs.Walking.{before_all, before_few}
use Rattle.link_base.proofs.wire.frame_table.find_others.Goals as goal

pub returns-then-is_empty-clause-finds : goal.returns-then-is_empty-clause-finds
returns-then-is_empty-clause-finds c =
    let none : c.args.front.now ≡ [] = grind (arith, common_steps) in
    subst (λ fault. Finds c.args.bytes.now c.args.offsets.now.items fault) (sym c.requires.no_fault) (before_all c.args.bytes.now c.args.offsets.now.items c.args.front.now c.requires.before none)

pub overflow_add-room : goal.overflow_add-room
overflow_add-room c =
    let few = before_few c.args.bytes.now c.args.offsets.now.items c.args.front.now c.requires.before in
    grind (arith, common_steps, few)

pub overflow_add-room-2 : goal.overflow_add-room-2
overflow_add-room-2 c =
    let few = before_few c.args.bytes.now c.args.offsets.now.items c.args.front.now c.requires.before in
    grind (arith, common_steps, few)
