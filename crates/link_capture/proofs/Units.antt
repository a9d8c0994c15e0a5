-- Whole units.
use Rattle.std.proofs.Common.{◌≡◌, ℕ, List, Some, sym, ap, subst, ◌∙◌}
use Rattle.link_capture.specs.declared.form.Form.TheVariants as forms
use Rattle.link_capture.specs.declared.order.Order.{Order}
use Rattle.link_capture.specs.Block.{After, IsBlock}
use Rattle.link_capture.specs.Front.{order_of}
use Rattle.link_capture.specs.Meaning.{State}
use Rattle.link_capture.specs.Unit.{IsTaken, IsTakenAs, IsBlockIn}

-- a block in a state that is seen in another way
pub taken_block : (inside state : State) (order own : Order) (u : List ℕ) (after : After) → inside ≡ state → state.form ≡ forms.Blocks order → Some own ≡ order_of order u → IsBlock own inside.interfaces u after → IsTaken state u after
taken_block inside state order own u after same form e block =
    subst (λ s. IsTaken s u after) same
    (subst (λ f. IsTakenAs f inside.interfaces u after) (sym (ap (λ s. s.form) same ∙ form)) (subst (λ o. IsBlockIn o inside.interfaces u after) e block))
