use Rattle.std.proofs.Common.{ap, ◌∙◌}
use Rattle.link_base.specs.Forms.{bytes_in}
use Rattle.link_base.specs.Named.{numbers_of, seen_value}
use Rattle.link_base.specs.Class.{named}
use Rattle.link_base.proofs.Naming.{seen_back}
use Rattle.link_base.proofs.NamedPayloads.{seen_named}
use Rattle.link_base.proofs.classes.named_class.NamedFixedSize.load.Goals as goal

pub returns : goal.returns
returns g c =
    let t = g.T.NamedNumber in
    let laws = g.met.T.NamedNumber in
    let w = g.T.Number.Word in
    let n = bytes_in w.WIDTH in
    let listed = numbers_of t.names in
    let d = w.value c.from_bytes.result in
    ap (λ v. seen_value n listed (t.seen v)) (laws.from_number c.from_bytes.result c.from.result c.from.ensures)
    ∙ ap (seen_value n listed) (seen_back t.names t.seen laws.cases_hold laws.other_holds d)
    ∙ seen_named n listed d
    ∙ ap (named n listed) c.from_bytes.ensures.value
