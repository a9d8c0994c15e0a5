use Rattle.std.proofs.Common.{refl, arith, ◌+◌, ◌≡◌, ◌-◌, drop}
use Rattle.std.proofs.lemmas.Grind.{common_steps}
use Rattle.link_show.specs.Gained.{overlaid_stored}
use Rattle.link_show.proofs.front.overlay.Goals as goal

pub returns : goal.returns
returns c =
    let at = c.min-at.result in
    let fit = c.min-fitting.result in
    let stored = overlaid_stored c.args.place at fit (at + fit) c.args.bytes.now c.args.buffer.now (drop (at + fit) c.args.buffer.now) c.min-at.ensures c.min-fitting.ensures refl refl in
    let size : at + fit - at ≡ fit = omega arith in
    grind (arith, common_steps, stored, size, c.copy_from_slice.ensures.after)
