use Rattle.std.proofs.Common.{◌<◌, length, arith}
use Rattle.link_show.proofs.StructFields.{field_there}
use Rattle.nlroute_ffi.proofs.FieldsThere.{stored_at}
use Rattle.nlroute_ffi.proofs.struct_fields.store_in.Goals as goal

pub field_in-requires : goal.field_in-requires
field_in-requires c =
    let low : c.args.index < length c.args.fields.now = omega (arith, c.if-index-fields.false) in
    field_there c.args.fields.now c.args.index _ 0 c.args.bytes.now low c.requires

pub returns-clause-answer : goal.returns-clause-answer
returns-clause-answer c =
    let low : c.args.index < length c.args.fields.now = omega (arith, c.if-index-fields.false) in
    stored_at c.args.fields.now c.args.index _ c.args.bytes.now c.field_in.result low c.field_in.ensures
