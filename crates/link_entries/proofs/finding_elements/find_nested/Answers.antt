use Rattle.std.proofs.Common.{◌+◌, Some, None, subst}
use Rattle.link_base.specs.Viewed.{set_of, buffer_in}
use Rattle.link_entries.specs.Flat.{IsElement}
use Rattle.link_entries.specs.Finding.{IsOneElement}
use Rattle.link_entries.proofs.finding_elements.find_nested.Goals as goal

pub returns-in-Some : goal.returns-in-Some
returns-in-Some g c =
    let (items, walk, last) = c.in-Some.ensures.last in
    let table = g.T.AttributeSet.rows (set_of c.args.elements) in
    let x = c.in-Some.element in
    let e = c.element_entry.result in
    let is = subst (λ s. IsElement (g.T.AttributeSet.rows s) c.args.kind (c.args.at + (c.in-Some.offset + 4)) (buffer_in x) e) c.in-Some.ensures.set c.element_entry.ensures in
    (items, walk, subst (λ o. IsOneElement table c.args.kind c.args.at o (Some e)) last is)

pub returns-in-None : goal.returns-in-None
returns-in-None g c =
    let (items, walk, last) = c.in-None.ensures.last in
    let table = g.T.AttributeSet.rows (set_of c.args.elements) in
    (items, walk, subst (λ o. IsOneElement table c.args.kind c.args.at o None) last tt)
