use Rattle.std.proofs.Common.{◌+◌, refl, ap, ◌∙◌, arith, inl, inr}
use Rattle.link_capture.specs.Front.{size_of}
use Rattle.link_capture.specs.Unit.{Rest}
use Rattle.link_capture.proofs.Fronts.{sized_bounded}
use Rattle.link_capture.proofs.Nexts.{IsDue, whole_unit, whole_wrong, cut_unit}
use Rattle.link_capture.proofs.capture.Capture.sized.Goals.{else-not-is_last-via-then-not-is_last+else-left-length, else-not-is_last-via-else-not-is_last}
use Rattle.link_capture.proofs.capture.Capture.sized.Goals as goal

pub returns-then-left-length : goal.returns-then-left-length
returns-then-left-length c = (refl, c.if-not-is_last.true, Rest c.args.length c.args.padding c.requires.sized c.if-left-length.true)

pub returns-then-left-length-2 : goal.returns-then-left-length-2
returns-then-left-length-2 c =
    let due : IsDue c.args.is_last (c.args.length + c.args.padding) c.args.bytes.now = elim c.else-not-is_last.branch [
      | else-not-is_last-via-then-not-is_last+else-left-length w ↦ inr w.if-left-length.false
      | else-not-is_last-via-else-not-is_last w ↦ inl w.if-not-is_last.false
    ] in (
      refl,
      cut_unit c.args.self.now c.args.bytes.now c.args.length c.args.padding c.requires.sized c.args.is_last c.size.result (c.size.ensures ∙ ap (λ s. size_of s.form) c.self.view_is) due c.if-left-length-2.true
          c.requires.some,
    )

pub overflow_add-length-in-Ok : goal.overflow_add-length-in-Ok
overflow_add-length-in-Ok c = let b = sized_bounded c.args.self.now.form c.args.bytes.now c.args.length c.args.padding c.requires.sized in omega (arith, b.0, b.1, b.2)

pub returns-in-Ok : goal.returns-in-Ok
returns-in-Ok c =
    let due : IsDue c.args.is_last (c.args.length + c.args.padding) c.args.bytes.now = elim c.else-not-is_last.branch [
      | else-not-is_last-via-then-not-is_last+else-left-length w ↦ inr w.if-left-length.false
      | else-not-is_last-via-else-not-is_last w ↦ inl w.if-not-is_last.false
    ] in
    whole_unit c.args.self.now c.args.bytes.now c.args.length c.args.padding c.requires.sized c.args.is_last c.min.result _ c.take.new.self due c.if-left-length-2.false c.min.ensures c.in-Ok.ensures.taken

pub returns-in-Err : goal.returns-in-Err
returns-in-Err c =
    (c.in-Err.ensures.kept refl, whole_wrong c.args.self.now c.args.bytes.now c.args.length c.args.padding c.requires.sized c.args.is_last c.in-Err.error c.if-left-length-2.false c.in-Err.ensures.taken)
