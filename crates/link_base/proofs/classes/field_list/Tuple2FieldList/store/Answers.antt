use Rattle.link_base.specs.Class.{written}
use Rattle.link_base.specs.Payloads.{class_by}
use Rattle.link_base.specs.Structs.{packed}
use Rattle.link_base.proofs.FrameBytes.{bytes-append}
use Rattle.link_base.proofs.Values.{written_bytes}
use Rattle.link_base.proofs.classes.field_list.Tuple2FieldList.store.Goals as goal

pub returns-clause-in_range : goal.returns-clause-in_range
returns-clause-in_range g c =
    let first = g.C.FixedSize in
    let value = first.means c.args.values.now.0 in
    bytes-append (written value) (packed (g.R.FieldList.means c.args.values.now.1))
    (written_bytes (class_by first.FORM first.names) value c.store.ensures.in_range) c.store-2.ensures.in_range
