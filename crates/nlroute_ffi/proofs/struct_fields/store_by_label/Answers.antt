use Rattle.std.proofs.Common.{◌≡◌, true, length, slice_get, sym, subst, arith}
use Rattle.link_base.specs.Labels.{label_in}
use Rattle.link_show.specs.Structs.{are_within}
use Rattle.nlroute_ffi.specs.Names.{own_kind}
use Rattle.nlroute_ffi.specs.StructFields.{FieldIn}
use Rattle.nlroute_ffi.proofs.Texts.{shown_by, refused_by}
use Rattle.nlroute_ffi.proofs.FieldsThere.{fields_there, field_answered, field_refused}
use Rattle.nlroute_ffi.proofs.struct_fields.store_by_label.Goals as goal

pub store_in-requires : goal.store_in-requires
store_in-requires c =
    let value = c.args.value in
    let label = label_in c.args.label in
    let held : length value.octets ≡ 16 = omega arith in
    let shows = shown_by label value c.args.octets.now c.fields_of.result c.own_kind-of_kind.result c.fields_of.ensures.value c.own_kind-of_kind.ensures c.in-Ok.payload.now c.in-Ok.ensures in
    subst (λ fields. are_within fields 0 c.in-Ok.payload.now ≡ true) (sym c.shown_fields.ensures)
    (fields_there label (record value { kind = own_kind value }) c.args.octets.now c.in-Ok.payload.now held c.requires shows)

pub returns-in-Ok-clause-answer : goal.returns-in-Ok-clause-answer
returns-in-Ok-clause-answer c =
    let value = c.args.value in
    let label = label_in c.args.label in
    let shows = shown_by label value c.args.octets.now c.fields_of.result c.own_kind-of_kind.result c.fields_of.ensures.value c.own_kind-of_kind.ensures c.in-Ok.payload.now c.in-Ok.ensures in
    field_answered label value c.args.octets.now c.in-Ok.payload.now c.args.index c.store_in.new.field c.store_in.result c.requires shows
    (subst (λ fields. FieldIn (slice_get fields c.args.index) c.in-Ok.payload.now c.store_in.new.field c.store_in.result) c.shown_fields.ensures c.store_in.ensures.answer)

pub returns-in-Err-clause-answer : goal.returns-in-Err-clause-answer
returns-in-Err-clause-answer c =
    let value = c.args.value in
    let label = label_in c.args.label in
    field_refused label value c.args.octets.now c.args.index c.args.field.now c.in-Err.misfit c.refused_for.result
    (refused_by label value c.args.octets.now c.fields_of.result c.own_kind-of_kind.result c.fields_of.ensures.value c.own_kind-of_kind.ensures c.in-Err.misfit c.in-Err.ensures) c.refused_for.ensures
