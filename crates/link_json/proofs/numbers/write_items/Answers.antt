use Rattle.std.proofs.Common.{◌/◌, ◌+◌, ◌*◌, length}
use Rattle.json.specs.Tree.{json_tokens}
use Rattle.link_base.specs.Forms.{size_in}
use Rattle.link_base.specs.Layout.{number_at}
use Rattle.link_json.specs.Value.{item_json}
use Rattle.link_json.proofs.Loops.{numbers_left, number_more, moved}
use Rattle.link_json.proofs.numbers.write_items.Goals as goal

pub loop-i-preserved : goal.loop-i-preserved
loop-i-preserved c =
    let a = c.args.of in
    let p = c.args.bytes.now in
    let n = length p / size_in a in
    let i = c.loop-i.i in
    moved c.args.doc.now c.loop-i.doc c.write_item.new.doc _ (numbers_left a n i p) (numbers_left a n (i + 1) p) (json_tokens (item_json a (number_at (size_in a) (i * size_in a) p))) c.loop-i.invariant
    (number_more a n i p (rw c.size.ensures.value at c.loop-i-test.true)) c.in_ok-write_item.ensures
