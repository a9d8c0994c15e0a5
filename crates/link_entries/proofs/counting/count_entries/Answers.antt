use Rattle.std.proofs.Common.{◌≡◌, ◌+◌, ◌-◌, [], length, ap, sym, subst, arith}
use Rattle.link_base.specs.Viewed.{bytes_in, buffer_in}
use Rattle.link_entries.proofs.Groups.{GroupsTo, groups_none, groups_more, placed_past}
use Rattle.link_entries.proofs.counting.count_entries.Goals as goal

pub values-init : goal.values-init
values-init g c = subst (λ s. GroupsTo g.F.Meaning.table c.args.bytes.now s [] [] 0) (sym c.of_checked-rest.ensures.bytes) (groups_none g.F.Meaning.table c.args.bytes.now [])

pub values-preserved : goal.values-preserved
values-preserved g c =
    let list = c.args.bytes.now in
    let rest = bytes_in c.values.rest in
    let at = length list - length c.bytes.result.now in
    let place : at ≡ length list - length rest = ap (λ s. length list - length s) c.bytes.ensures in
    let next = c.values.count in
    let (es, is, size, fewer) = c.count_group-count.ensures in
    groups_more g.F.Meaning.table list rest (bytes_in c.next.new.self) [] [] [] next _ at (buffer_in c.in-Some.value) c.values.invariant c.in-Some.ensures.steps.0 place
    (es, is, (sym (placed_past [] next es (omega arith)), ap (λ n. next + n) size), fewer)
