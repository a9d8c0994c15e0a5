use Rattle.std.proofs.Common.{[], refl, subst}
use Rattle.std.specs.Prelude.{◌↔◌, IsTrue}
use Rattle.link_base.specs.declared.rows.form.Layout.{Layout}
use Rattle.link_base.specs.Class.{Octets}
use Rattle.link_base.specs.Forms.{layout_extent}
use Rattle.link_base.specs.Table.{One}
use Rattle.link_base.specs.Buffer.{IsCanonicalAs}
use Rattle.link_base.proofs.classes.struct_class.StructPayloadClass.is_canonical.Goals as goal

pub returns : goal.returns
returns g c =
    subst (λ (layout : Layout). IsTrue c.is_fixed.result ↔ IsCanonicalAs (One (Octets (layout_extent layout))) c.args.buffer.now)
    c.LAYOUT.ensures (c.is_fixed.ensures [] refl)
