use Rattle.std.proofs.Common.{◌≡◌, refl, ap, ◌∙◌, arith}
use Rattle.link_entries.specs.Entry.{placed}
use Rattle.link_entries.proofs.ElementEntries.{front, front_stored, front_all}
use Rattle.link_entries.proofs.arrays.put_each_number.Goals as goal

pub loop-i-preserved : goal.loop-i-preserved
loop-i-preserved c =
    front_stored c.args.kind c.args.at c.args.of c.args.bytes.now c.args.places.now c.loop-i.places c.store_number.new.places c.args.first c.loop-i.i _ _ c.loop-i.invariant refl
    refl c.store_number.ensures

pub returns : goal.returns
returns c =
    let k = c.args.kind in
    let a = c.args.of in
    let bytes = c.args.bytes.now in
    let end : c.loop-i.i ≡ c.count_of-count.result = omega arith in
    let stored = c.loop-i.invariant ∙ ap (λ i. placed c.args.places.now c.args.first (front k c.args.at a bytes i)) end in
    front_all k c.args.at a bytes c.args.places.now c.loop-i.places c.args.first c.count_of-count.result _ c.count_of-count.ensures.count stored refl
