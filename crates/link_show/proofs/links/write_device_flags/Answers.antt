use Rattle.std.proofs.Common.{sym}
use Rattle.link_show.specs.Gained.{then_all}
use Rattle.link_show.proofs.MessageLines.{field_unless_zero}
use Rattle.link_show.proofs.links.write_device_flags.Goals as goal

pub returns : goal.returns
returns g c =
    then_all _ _ _ _ _ _ _ c.in_ok-put_pieces.ensures c.write_flags.ensures
    (sym (field_unless_zero c.args.flags c.args.field.now _ c.if-flags-eq0.false))
