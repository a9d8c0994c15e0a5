use Rattle.link_base.specs.Labels.{label_in}
use Rattle.nlroute_ffi.proofs.FieldsThere.{own_room, field_by_label, field_of_none}
use Rattle.nlroute_ffi.proofs.struct_fields.store_field.Goals as goal

pub store_by_label-requires : goal.store_by_label-requires
store_by_label-requires c = own_room c.args.family c.args.value.now (label_in c.in-Ok.label) c.in-Ok.ensures

pub returns-in-Ok-clause-answer : goal.returns-in-Ok-clause-answer
returns-in-Ok-clause-answer c =
    field_by_label c.args.family c.args.value.now c.args.octets.now c.args.index c.store_by_label.new.field (label_in c.in-Ok.label) c.store_by_label.result c.in-Ok.ensures c.store_by_label.ensures.answer

pub returns-in-Err-clause-answer : goal.returns-in-Err-clause-answer
returns-in-Err-clause-answer c = field_of_none c.args.family c.args.value.now c.args.octets.now c.args.index c.args.field.now c.in-Err.misfit c.refused_for.result c.in-Err.ensures c.refused_for.ensures
