use Rattle.std.proofs.Common.{◌≡◌, ◌+◌, ◌-◌, ap}
use Rattle.link_base.specs.Viewed.{set_in, buffer_in}
use Rattle.link_base.specs.Borrowed.{HasContent}
use Rattle.link_entries.specs.Flat.{head_entry}
use Rattle.link_entries.proofs.Groups.{group_stored}
use Rattle.link_entries.proofs.flattening.put_group.Goals as goal

pub returns : goal.returns
returns g c =
    let x = c.args.value.now in
    let table = g.S.AttributeSet.rows (set_in x) in
    let b = buffer_in x in
    let content = c.content-content.result in
    let at = c.args.at in
    let first = c.args.first in
    let next = c.put_below-next.result in
    let has : HasContent table b content = record { decodes = x.decodes; borrows = c.content-content.ensures.content; form = c.content-content.ensures.form } in
    let (es, elements, puts, fewer) = c.put_below-next.ensures in
    let entry = head_entry (at, c.buffer-buffer.result) content (next - (first + 1)) in
    let is : entry ≡ head_entry (at, b) content (next - (first + 1)) = ap (λ y. head_entry (at, y) content (next - (first + 1))) c.buffer-buffer.ensures in
    group_stored table at first next b content entry es c.args.places.now c.put_below-next.new.places c.store_head.new.places has elements puts fewer is c.store_head.ensures
