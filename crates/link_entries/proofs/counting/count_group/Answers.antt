use Rattle.std.proofs.Common.{◌∷◌, length, refl, arith}
use Rattle.link_base.specs.Viewed.{set_in, buffer_in}
use Rattle.link_base.specs.Borrowed.{HasContent}
use Rattle.link_entries.specs.Flat.{head_entry}
use Rattle.link_entries.proofs.counting.count_group.Goals as goal

pub returns : goal.returns
returns g c =
    let x = c.args.value.now in
    let b = buffer_in x in
    let content = c.content-content.result in
    let has : HasContent (g.S.AttributeSet.rows (set_in x)) b content = record { decodes = x.decodes; borrows = c.content-content.ensures.content; form = c.content-content.ensures.form } in
    let (es, elements, puts, fewer) = c.put_below.ensures in
    (head_entry (c.args.at, b) content (length es) ∷ es, (content, has, (es, elements, refl)), omega (arith, puts.1), omega (arith, fewer))
