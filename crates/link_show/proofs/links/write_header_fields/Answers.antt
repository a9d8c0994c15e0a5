use Rattle.std.proofs.Common.{append_assoc, arith, refl}
use Rattle.link_show.specs.Gained.{then_all}
use Rattle.link_show.proofs.links.write_header_fields.Goals as goal

pub returns : goal.returns
returns g c =
    then_all _ _ _ _ _ _ _ c.in_ok-write_named_field.ensures
    (then_all _ _ _ _ _ _ _ c.in_ok-write_named_field-2.ensures (then_all _ _ _ _ _ _ _ c.in_ok-write_device_flags.ensures c.write_device_flags-2.ensures refl) refl)
    (grind (arith, append_assoc, c.into.ensures, c.into-2.ensures, c.into-3.ensures, c.into-4.ensures))
