use Rattle.std.proofs.Common.{sym, subst}
use Rattle.link_base.specs.Labels.{label_in}
use Rattle.nlroute_ffi.specs.ValueText.{TextAnswers}
use Rattle.nlroute_ffi.proofs.Texts.{label_answered, element_refused}
use Rattle.nlroute_ffi.proofs.value_text.store_value_text.Goals as goal

pub returns-in-Ok-clause-answer : goal.returns-in-Ok-clause-answer
returns-in-Ok-clause-answer c =
    label_answered c.args.family c.args.value.now c.args.octets.now c.args.buffer.now c.store_payload_text.new.buffer (label_in c.in-Ok.label) c.store_payload_text.result c.in-Ok.ensures c.store_payload_text.ensures.answer

pub returns-in-Err-clause-answer : goal.returns-in-Err-clause-answer
returns-in-Err-clause-answer c =
    subst (TextAnswers c.args.value.now c.args.octets.now c.args.buffer.now c.refuse.new.buffer c.args.family) (sym c.refuse.ensures.refused)
    (element_refused c.args.family c.args.value.now c.args.octets.now c.args.buffer.now c.refuse.new.buffer c.in-Err.misfit c.refused_for.result c.in-Err.ensures c.refused_for.ensures)
