use Rattle.std.proofs.Common.{rules}
use Rattle.std.proofs.lemmas.Result.{on_ok_weaker, on_err_weaker}
use Rattle.uses.proofs.Lines.{printed, fault_has_bytes, value_has_bytes}
use Rattle.uses.proofs.printing.print_list.Goals as goal

pub returns-clause-printed : goal.returns-clause-printed
returns-clause-printed g c =
    on_ok_weaker _ (printed _ _ g.F.Meaning.means g.F.Debug.debug_output c.in_ok-values.values.items _ c.in_ok-values.fault _ _ _ c.in_ok-values.ensures.front c.deref.ensures.value c.in_ok-print_values.ensures.printed) c.print_fault.ensures.printed

pub returns-clause-error : goal.returns-clause-error
returns-clause-error g c = on_err_weaker _ (fault_has_bytes _ _ _ _ c.in_ok-values.ensures.front) c.print_fault.ensures.error

pub returns-in_err-print_values-clause-error : goal.returns-in_err-print_values-clause-error
returns-in_err-print_values-clause-error g c =
    let some = value_has_bytes _ _ g.F.Meaning.means c.in_ok-values.values.items _ _ c.in_ok-values.ensures.front c.deref.ensures.value c.in_err-print_values.ensures.error in
    search rules
