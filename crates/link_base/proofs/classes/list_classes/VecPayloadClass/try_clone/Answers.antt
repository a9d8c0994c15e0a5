use Rattle.std.proofs.Common.{◌≡◌, subst}
use Rattle.std.specs.Prelude.{IfOk}
use Rattle.link_base.proofs.Copies.{same_copy}
use Rattle.link_base.proofs.classes.list_classes.VecPayloadClass.try_clone.Goals as goal

pub returns-clause-equal : goal.returns-clause-equal
returns-clause-equal g c =
    same_copy g.met.N.Number.Eq.laws c.from_slice.result (λ copy. copy.items) c.args.numbers.now.items
    (subst (λ xs. IfOk c.from_slice.result (λ copy. copy.items ≡ xs)) c.deref.ensures.value c.from_slice.ensures.items)
