use Rattle.std.proofs.Common.{ap, ◌∙◌, arith}
use Rattle.link_base.specs.Class.{Raw}
use Rattle.link_base.specs.Forms.{layout_extent}
use Rattle.link_base.specs.Structs.{packed}
use Rattle.link_base.proofs.Numbers.{IsBytes-index}
use Rattle.link_base.proofs.Structs.{struct_back}
use Rattle.link_base.proofs.classes.struct_class.load_struct.Goals as goal

pub returns-clause-bytes : goal.returns-clause-bytes
returns-clause-bytes g c =
    let s = g.S.PayloadStruct in
    let p = c.args.payload.now in
    let bytes = IsBytes-index p (λ i. omega (arith, c.type_inv.payload i)) in
    ap (λ values. Raw (packed values)) c.load.ensures ∙ ap Raw (struct_back s.classes (layout_extent s.LAYOUT) p s.whole bytes c.requires)
