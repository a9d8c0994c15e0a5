use Rattle.std.proofs.Common.{◌≡◌, ◌+◌, ◌-◌, ◌∙◌, length, ap, refl, subst, arith}
use Rattle.link_base.specs.Viewed.{bytes_in, set_of, set_in, buffer_in}
use Rattle.link_entries.specs.Flat.{IsElement}
use Rattle.link_entries.proofs.ElementEntries.{elements_none, elements_more}
use Rattle.link_entries.proofs.elements.put_elements.Goals as goal

pub elements-init : goal.elements-init
elements-init g c =
    let v = c.args.elements in
    (ap length c.bytes-length.ensures, refl, elements_none (g.T.AttributeSet.rows (set_of v)) c.args.kind c.args.at (bytes_in v) c.args.places.now c.args.first)

pub elements-preserved : goal.elements-preserved
elements-preserved g c =
    let before = c.elements.invariant in
    let v = c.args.elements in
    let x = c.in-Some.element in
    let steps = c.in-Some.ensures.steps in
    let list = bytes_in v in
    let rest = bytes_in c.elements.rest in
    let set : set_in x ≡ set_of v = steps.1 ∙ before.1 in
    let offset = c.args.at + (length c.bytes-length.result.now - length c.bytes.result.now) + 4 in
    let (e, its, stored) = c.put_element.ensures in
    let is = subst (λ s. IsElement (g.T.AttributeSet.rows s) c.args.kind offset (buffer_in x) e) set its in
    let place : offset ≡ c.args.at + ((length list - length rest) + 4) = omega (arith, before.0, ap length c.bytes.ensures) in (
      before.0,
      steps.2 ∙ before.1,
      elements_more (g.T.AttributeSet.rows (set_of v)) c.args.kind c.args.at list rest (bytes_in c.next.new.self) c.args.places.now c.elements.places c.put_element.new.places c.args.first c.elements.next offset
          (buffer_in x) e before.2 steps.0 place is stored,
    )
