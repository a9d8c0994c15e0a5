use Rattle.std.proofs.Common.{◌≡◌, ◌+◌, ◌-◌, [], ◌∷◌, ap, length, refl, subst, sym, arith}
use Rattle.link_base.specs.Buffer.{payload_of}
use Rattle.link_base.specs.Viewed.{bytes_in, buffer_in}
use Rattle.link_base.proofs.ViewLemmas.{split_less}
use Rattle.link_entries.specs.Flat.{IsGroup}
use Rattle.link_entries.proofs.Groups.{GroupsTo, groups_none, groups_more, group_again}
use Rattle.link_entries.proofs.flattening.put_list.Goals as goal

pub values-init : goal.values-init
values-init g c =
    let places = c.args.places.now in
    subst (λ s. GroupsTo g.F.Meaning.table c.args.bytes.now s places places 0) (sym c.of_checked-rest.ensures.bytes) (groups_none g.F.Meaning.table c.args.bytes.now places)

pub singles-preserved : goal.singles-preserved
singles-preserved g c =
    let list = c.args.bytes.now in
    let rest = bytes_in c.singles.rest in
    let after = bytes_in c.next.new.self in
    let b = buffer_in c.in-Some.value in
    let at = length list - length c.bytes.result.now in
    let place : at ≡ length list - length rest = ap (λ s. length list - length s) c.bytes.ensures in
    let e = c.fill_single.new.place in
    let split = c.in-Some.ensures.steps.0 in
    let is : IsGroup g.F.Meaning.table (at, b) (e ∷ []) = c.fill_single.ensures c.if-not-fill_single.false in (
      groups_more g.F.Meaning.table list rest after c.args.places.now c.singles.places _ c.singles.next (c.singles.next + 1) at b c.singles.invariant.0 split place (e ∷ [], is, (refl, omega arith), omega arith),
      omega (arith, c.singles.invariant.1, split_less rest b after split),
    )

pub values-smaller-then-not-fill_single : goal.values-smaller-then-not-fill_single
values-smaller-then-not-fill_single g c =
    omega (arith, c.singles.invariant.1, split_less (bytes_in c.singles.rest) (buffer_in c.in-Some.value) (bytes_in c.next.new.self) c.in-Some.ensures.steps.0)

pub values-preserved-then-not-fill_single : goal.values-preserved-then-not-fill_single
values-preserved-then-not-fill_single g c =
    let list = c.args.bytes.now in
    let rest = bytes_in c.singles.rest in
    let at = length list - length c.bytes.result.now in
    let place : at ≡ length list - length rest = ap (λ s. length list - length s) c.bytes.ensures in
    let b = buffer_in c.in-Some.value in
    let again = group_again g.F.Meaning.table (at, b) c.singles.places c.put_value-next.new.places c.singles.next c.put_value-next.result (4 + length (payload_of b)) c.fill_single.new.place c.put_value-next.ensures in
    groups_more g.F.Meaning.table list rest (bytes_in c.next.new.self) c.args.places.now c.singles.places c.put_value-next.new.places c.singles.next c.put_value-next.result at b
    c.singles.invariant.0 c.in-Some.ensures.steps.0 place again

pub values-smaller : goal.values-smaller
values-smaller g c =
    omega (arith, c.singles.invariant.1, split_less (bytes_in c.singles.rest) (buffer_in c.in-Some-next.value) (bytes_in c.next-in-values.new.self) c.in-Some-next.ensures.steps.0)

pub values-preserved : goal.values-preserved
values-preserved g c =
    let list = c.args.bytes.now in
    let rest = bytes_in c.singles.rest in
    let at = length list - length c.bytes-in-values.result.now in
    let place : at ≡ length list - length rest = ap (λ s. length list - length s) c.bytes-in-values.ensures in
    groups_more g.F.Meaning.table list rest (bytes_in c.next-in-values.new.self) c.args.places.now c.singles.places c.put_value-next-in-Some-next.new.places c.singles.next c.put_value-next-in-Some-next.result at
    (buffer_in c.in-Some-next.value) c.singles.invariant.0 c.in-Some-next.ensures.steps.0 place c.put_value-next-in-Some-next.ensures
