use Rattle.std.proofs.Common.{◌≡◌, length, sym, subst, arith, Ok}
use Rattle.link_base.specs.Labels.{label_in}
use Rattle.nlroute_ffi.specs.Names.{own_kind}
use Rattle.nlroute_ffi.specs.ValueText.{LabelAnswers}
use Rattle.nlroute_ffi.proofs.ShownBytes.{shown_size}
use Rattle.nlroute_ffi.proofs.Texts.{shown_by, text_answered, text_refused}
use Rattle.nlroute_ffi.proofs.value_text.store_payload_text.Goals as goal

pub content_in-requires : goal.content_in-requires
content_in-requires c =
    let value = c.args.value in
    let label = label_in c.args.label in
    let held : length value.octets ≡ 16 = omega arith in
    let shows = shown_by label value c.args.octets.now c.fields_of.result c.own_kind-of_kind.result c.fields_of.ensures.value c.own_kind-of_kind.ensures c.in-Ok.payload.now c.in-Ok.ensures in
    shown_size (record value { kind = own_kind value }) c.args.octets.now c.in-Ok.payload.now held label shows

pub returns-in-Ok-clause-answer : goal.returns-in-Ok-clause-answer
returns-in-Ok-clause-answer c =
    text_answered (label_in c.args.label) c.args.value c.args.octets.now c.fields_of.result c.own_kind-of_kind.result c.fields_of.ensures.value c.own_kind-of_kind.ensures c.args.buffer.now c.store_words.new.buffer c.in-Ok.payload.now
    c.content_in.result _ c.store_words.result c.label_or_plain.ensures c.in-Ok.ensures c.content_in.ensures c.store_words.ensures.stored

pub returns-in-Err-clause-answer : goal.returns-in-Err-clause-answer
returns-in-Err-clause-answer c =
    subst (LabelAnswers (Ok (label_in c.args.label)) c.args.value c.args.octets.now c.args.buffer.now c.refuse.new.buffer) (sym c.refuse.ensures.refused)
    (text_refused (label_in c.args.label) c.args.value c.args.octets.now c.fields_of.result c.own_kind-of_kind.result c.fields_of.ensures.value c.own_kind-of_kind.ensures c.args.buffer.now c.refuse.new.buffer c.in-Err.misfit c.refused_for.result c.in-Err.ensures
    c.refused_for.ensures)
