use Rattle.std.proofs.Common.{subst, sym, ◌∙◌, true≢false}
use Rattle.link_base.specs.Table.{Gives}
use Rattle.link_base.specs.Wire.{FirstFault}
use Rattle.link_base.specs.declared.wire.fault.ListFault.{ListFault}
use Rattle.library_tests.proofs.comparing.fails_with.Goals.{in-Err-Fault, in_default, in_default-2}
use Rattle.library_tests.proofs.comparing.fails_with.Goals as goal

-- equal errors are identical
pub returns : goal.returns
returns g c = elim c.match-read_list.branch [
  | in-Err-Fault w ↦ (λ e. subst (λ (v : ListFault). FirstFault (Gives g.F.Meaning.table) c.args.bytes.now v.at v.fault)
      ((c.fault_equality.ensures.list (record { at = w.in-Err-Fault.at; fault = w.in-Err-Fault.fault }) c.args.wanted).0 (sym w.eq.ensures ∙ (sym w.result-is ∙ e)))
      (rw w.in-Err-Fault.field-0-is at w.in-Err-Fault.ensures.answer))
  | in_default w ↦ (λ e. absurd (true≢false (sym e ∙ w.result-is)))
  | in_default-2 w ↦ (λ e. absurd (true≢false (sym e ∙ w.result-is)))
]
