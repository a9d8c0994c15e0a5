use Rattle.std.proofs.Common.{ap, ◌∙◌}
use Rattle.link_base.specs.Class.{Octets}
use Rattle.link_base.specs.Forms.{layout_extent}
use Rattle.link_base.proofs.classes.struct_class.StructPayloadClass.check.Goals as goal

pub returns : goal.returns
returns g c = c.check.ensures (Octets (layout_extent g.S.PayloadStruct.LAYOUT)) (c.lengths.ensures ∙ ap layout_extent c.LAYOUT.ensures)
