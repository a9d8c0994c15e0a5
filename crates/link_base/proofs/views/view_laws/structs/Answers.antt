use Rattle.std.proofs.Common.{sym, ap, subst, ◌∙◌, Ok}
use Rattle.link_base.specs.Frame.{kind_of}
use Rattle.link_base.specs.Forms.{layout_extent}
use Rattle.link_base.specs.Class.{Octets, Raw}
use Rattle.link_base.specs.Structs.{packed}
use Rattle.link_base.specs.Table.{Case, Single, One, GivesBy}
use Rattle.link_base.proofs.Contents.{content_of}
use Rattle.link_base.proofs.Structs.{struct_back}
use Rattle.link_base.proofs.views.view_laws.structs.Goals as goal

pub returns : goal.returns
returns g c = λ table f p v x bytes row given held.
    let s = g.T.PayloadStruct in
    let k = kind_of f in
    let one = content_of (One (Octets (layout_extent s.LAYOUT))) k p v (subst (λ o. GivesBy o f p (Ok v)) row given) in
    let back = ap packed held ∙ struct_back s.classes (layout_extent s.LAYOUT) p s.whole bytes one.1.0 in
    one.2 ∙ ap (Case k) (one.1.1 ∙ ap (λ b. Single (Raw b)) (sym back))
