use Rattle.std.proofs.Common.{◌≡◌, true, map, take}
use Rattle.std.specs.Cmp.Lexicographic.{pointwise}
use Rattle.link_base.proofs.rows.try_clone.try_clone_list.Given as goal

abbrev pub invariant-loop-value : goal.invariant-loop-value
invariant-loop-value g l = record {
  copies : map g.E.NestedAttribute.leaf l.copies.items ≡ map g.E.NestedAttribute.leaf (take l.value-index l.values);
  equal : pointwise g.E.PartialEq.eq l.copies.items (take l.value-index l.values) ≡ true;
}
