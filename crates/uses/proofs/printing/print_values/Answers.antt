use Rattle.std.proofs.Common.{◌≡◌, ◌+◌, ◌++◌, ◌∷◌, [], take, sym, subst, arith}
use Rattle.std.proofs.lemmas.Grind.{common_steps}
use Rattle.uses.specs.Printing.{IsTextOf}
use Rattle.uses.proofs.Lines.{no_line, one_more}
use Rattle.uses.proofs.printing.print_values.Goals as goal

pub loop-value-init : goal.loop-value-init
loop-value-init g c = no_line g.F.Debug.debug_output _

pub loop-value-preserved : goal.loop-value-preserved
loop-value-preserved g c =
    let done = take c.loop-value.value-index c.args.values.now in
    let taken : take (c.loop-value.value-index + 1) c.args.values.now ≡ done ++ c.value-item.result ∷ [] = grind (arith, common_steps) in
    rw taken (one_more g.F.Debug.debug_output done c.value-item.result _ _ _ _ c.loop-value.invariant (subst (λ text. IsTextOf (g.F.Debug.debug_output c.value-item.result) text) (sym c.deref.ensures.value) c.in_ok-words.ensures) c.in_ok-print_line.ensures)
