use Rattle.nlroute_ffi.proofs.FieldsThere.{field_formed}
use Rattle.nlroute_ffi.proofs.laws.rows_of_fields.Goals as goal

pub returns : goal.returns
returns c = field_formed
