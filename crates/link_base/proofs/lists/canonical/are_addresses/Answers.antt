use Rattle.std.proofs.Common.{◌≡◌, ℕ, List, length, ap, subst, arith, rules}
use Rattle.std.proofs.lemmas.Grind.{common_steps}
use Rattle.link_base.specs.Wire.{SplitsWhole}
use Rattle.link_base.specs.Buffer.{kind_field_of, payload_of}
use Rattle.link_base.proofs.CanonicalLists.{first_is, elements_none, elements_end, elements_more, whole_some, whole_not_nil}
use Rattle.link_base.proofs.lists.canonical.are_addresses.Goals as goal
use Rattle.link_base.proofs.lists.canonical.are_addresses.Goals.{then-from-kind-via-then-from-kind, then-from-kind-via-else-from-kind+then-value-size}

pub returns-then-from-kind : goal.returns-then-from-kind
returns-then-from-kind c =
    let b = c.in-Some.element in
    let rest = c.loop-element.rest.now in
    let next = c.in-Some.after.now in
    let some = whole_not_nil rest (kind_field_of b) (payload_of b) next c.in-Some.ensures in
    let is = first_is c.loop-element.kind c.args.size (kind_field_of b) rest next (payload_of b) c.in-Some.ensures in (
      λ t. absurd cc,
      λ h.
          let first = is (c.loop-element.invariant.same.0 h) some in
          elim c.then-from-kind.branch [
            | then-from-kind-via-then-from-kind w ↦ absurd (omega (arith, first.0, c.from.ensures, c.raw_kind.ensures, w.if-from-kind.true))
            | then-from-kind-via-else-from-kind+then-value-size w ↦ absurd (omega (arith, first.1, ap length w.value.ensures, w.if-value-size.true))
          ],
    )

pub loop-element-preserved : goal.loop-element-preserved
loop-element-preserved c =
    let b = c.in-Some.element in
    let rest = c.loop-element.rest.now in
    let next = c.in-Some.after.now in
    let some = whole_not_nil rest (kind_field_of b) (payload_of b) next c.in-Some.ensures in
    let kind : kind_field_of b ≡ c.loop-element.kind = omega (arith, c.from.ensures, c.raw_kind.ensures, c.if-from-kind.false) in
    let size : length (payload_of b) ≡ c.args.size = omega (arith, ap length c.value.ensures, c.if-value-size.false) in
    let split = subst (λ k. SplitsWhole rest k (payload_of b) next) kind c.in-Some.ensures in
    let more = elements_more c.loop-element.kind c.args.size rest next (payload_of b) split size some in
    record {
      same = (λ h. more.0 (c.loop-element.invariant.same.0 h), λ h. c.loop-element.invariant.same.1 (more.1 h));
      few = omega (arith, c.loop-element.invariant.few, whole_some rest (kind_field_of b) (payload_of b) next c.in-Some.ensures);
    }

pub returns : goal.returns
returns c =
    let rest = c.loop-element.rest.now in
    let none : (f : ℕ) (p after : List ℕ) → ¬ (SplitsWhole rest f p after) = search rules in (
      λ t. c.loop-element.invariant.same.1 (elements_none c.loop-element.kind c.args.size rest (grind (arith, common_steps))),
      λ h. let e = elements_end c.loop-element.kind c.args.size rest (c.loop-element.invariant.same.0 h) none in grind (arith, common_steps),
    )
