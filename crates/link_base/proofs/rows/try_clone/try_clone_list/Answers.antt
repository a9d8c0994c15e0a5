use Rattle.std.proofs.Common.{◌≡◌, ◌+◌, ◌++◌, ◌∷◌, [], take, sym, ◌∙◌, arith}
use Rattle.std.proofs.lemmas.Grind.{common_steps}
use Rattle.link_base.proofs.Copies.{one_leaf, same_more, equal_more}
use Rattle.link_base.proofs.rows.try_clone.try_clone_list.Goals as goal

pub loop-value-preserved : goal.loop-value-preserved
loop-value-preserved g c =
    let leaf = g.E.NestedAttribute.leaf in
    let copies = c.loop-value.copies.items in
    let copy = c.in_ok-copy.copy in
    let done = take c.loop-value.value-index c.args.values.now in
    let original = c.value-item.result in
    let pushed : c.push.new.self.items ≡ copies ++ copy ∷ [] = grind (arith, common_steps) in
    let taken : take (c.loop-value.value-index + 1) c.args.values.now ≡ done ++ original ∷ [] = grind (arith, common_steps) in
    let lifted = g.met.E.NestedAttribute.same_means in
    let same = one_leaf (leaf copy) (leaf original) (sym (lifted copy) ∙ c.in_ok-copy.ensures.copy ∙ lifted original) in
    record {
      copies = rw (pushed, taken) (same_more leaf copies done copy original c.loop-value.invariant.copies same);
      equal = rw (pushed, taken) (equal_more g.E.PartialEq.eq copies done copy original c.loop-value.invariant.equal c.in_ok-copy.ensures.equal);
    }
