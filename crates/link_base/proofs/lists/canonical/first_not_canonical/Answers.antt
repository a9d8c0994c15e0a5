use Rattle.std.proofs.Common.{refl, arith, rules}
use Rattle.link_base.specs.Table.{Allows}
use Rattle.link_base.specs.Buffer.{kind_field_of, payload_of}
use Rattle.link_base.proofs.CanonicalLists.{passed_more, none_allowed, stops, whole_some, whole_not_nil}
use Rattle.link_base.proofs.lists.canonical.first_not_canonical.Goals as goal

pub returns-then-not-canonical : goal.returns-then-not-canonical
returns-then-not-canonical g c =
    let b = c.in-Some.buffer in
    let rest = c.loop-buffer.rest.now in
    let next = c.in-Some.after.now in
    let some = whole_not_nil rest (kind_field_of b) (payload_of b) next c.in-Some.ensures in
    let none = none_allowed (Allows g.F.Meaning.table) rest next (kind_field_of b) (payload_of b) c.in-Some.ensures (λ a. let t = c.canonical.ensures.1 a in absurd cc) in
    stops (Allows g.F.Meaning.table) c.args.bytes.now rest _ c.loop-buffer.invariant.passed some refl none

pub loop-buffer-preserved : goal.loop-buffer-preserved
loop-buffer-preserved g c =
    let b = c.in-Some.buffer in
    let rest = c.loop-buffer.rest.now in
    let next = c.in-Some.after.now in
    record {
      passed = passed_more (Allows g.F.Meaning.table) c.args.bytes.now rest next (kind_field_of b) (payload_of b) c.loop-buffer.invariant.passed c.in-Some.ensures (c.canonical.ensures.0 (search rules));
      few = omega (arith, c.loop-buffer.invariant.few, whole_some rest (kind_field_of b) (payload_of b) next c.in-Some.ensures);
    }
