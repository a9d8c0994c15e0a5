use Rattle.std.proofs.Common.{rules, sym, subst}
use Rattle.link_base.specs.Buffer.{kind_field_of, payload_of}
use Rattle.link_base.specs.Borrowed.{HasValues}
use Rattle.link_base.specs.Viewed.{buffer_in, set_in}
use Rattle.link_base.proofs.Elements.{elements_decode}
use Rattle.link_base.proofs.views.view.Value.elements_as.Goals as goal

pub of_checked-requires : goal.of_checked-requires
of_checked-requires g c =
    let table = g.S.AttributeSet.rows (set_in c.args.self.now) in
    let b = buffer_in c.args.self.now in
    let list = c.in-List.list in
    let here = elements_decode table (kind_field_of b) (payload_of b) list _ c.args.self.now.decodes c.in-List.ensures.content in
    subst (λ t. HasValues t list.now) (sym c.requires) here

pub returns-in-List : goal.returns-in-List
returns-in-List c = search rules
