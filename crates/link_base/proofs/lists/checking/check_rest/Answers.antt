use Rattle.std.proofs.Common.{◌≡◌, ◌≢◌, length, [], refl, ap, arith}
use Rattle.std.proofs.lemmas.Grind.{common_steps}
use Rattle.link_base.specs.Buffer.{kind_field_of, payload_of}
use Rattle.link_base.specs.Table.{Gives}
use Rattle.link_base.specs.declared.wire.fault.DecodeError.TheVariants as errors
use Rattle.link_base.proofs.Streaming.{underway_all, ends_at_rest, ends_at_next}
use Rattle.link_base.proofs.SkipLemmas.{underway, passes_more, passes_few}
use Rattle.link_base.proofs.ViewLemmas.{split_of, split_less}
use Rattle.link_base.proofs.lists.checking.check_rest.Goals as goal

pub returns-in-Err-clause-answer : goal.returns-in-Err-clause-answer
returns-in-Err-clause-answer g c =
    let gives = Gives g.F.Meaning.table in
    let s = c.args.bytes.now in
    let rest = c.loop-frame.rest.now in
    let b = c.in-Some.frame in
    let less = split_less rest b c.in-Some.after.now c.in-Some.ensures in
    let some : rest ≢ [] = λ e. let none = ap length e in absurd (omega (arith, less, none)) in
    let passed = underway gives s c.loop-frame.count rest c.loop-frame.invariant in
    ends_at_next gives s c.loop-frame.count rest c.loop-frame.invariant.0 _ (kind_field_of b) (payload_of b) (errors.Fault c.in-Err.fault) passed some refl c.in-Some.ensures.0 c.in-Err.ensures

pub overflow_add-count : goal.overflow_add-count
overflow_add-count g c =
    let rest = c.loop-frame.rest.now in
    omega (arith, split_less rest c.in-Some.frame c.in-Some.after.now c.in-Some.ensures, passes_few (Gives g.F.Meaning.table) c.args.bytes.now c.loop-frame.count rest c.loop-frame.invariant)

pub loop-frame-preserved : goal.loop-frame-preserved
loop-frame-preserved g c =
    let rest = c.loop-frame.rest.now in
    let next = c.in-Some.after.now in
    let b = c.in-Some.frame in
    let less = split_less rest b next c.in-Some.ensures in
    let some : rest ≢ [] = λ e. let none = ap length e in absurd (omega (arith, less, none)) in
    passes_more (Gives g.F.Meaning.table) c.args.bytes.now c.loop-frame.count rest next (kind_field_of b) (payload_of b) c.loop-frame.invariant some (split_of rest b next c.in-Some.ensures)
    c.in_default-check.ensures

pub returns-then-is_empty-clause-answer : goal.returns-then-is_empty-clause-answer
returns-then-is_empty-clause-answer g c =
    let gives = Gives g.F.Meaning.table in
    let s = c.args.bytes.now in
    let rest = c.loop-frame.rest.now in
    let i = c.loop-frame.invariant in
    let none : rest ≡ [] = grind (arith, common_steps) in
    (i.0, underway_all gives s c.loop-frame.count rest i.0 (underway gives s c.loop-frame.count rest i) none, i.2)

pub returns-then-is_empty-clause-bounded : goal.returns-then-is_empty-clause-bounded
returns-then-is_empty-clause-bounded g c = omega (arith, passes_few (Gives g.F.Meaning.table) c.args.bytes.now c.loop-frame.count c.loop-frame.rest.now c.loop-frame.invariant)

pub returns-clause-answer : goal.returns-clause-answer
returns-clause-answer g c =
    let gives = Gives g.F.Meaning.table in
    let s = c.args.bytes.now in
    let rest = c.loop-frame.rest.now in
    let i = c.loop-frame.invariant in
    let some : rest ≢ [] = λ e. grind (arith, common_steps) in
    ends_at_rest gives s c.loop-frame.count rest i.0 _ c.cause_of.result (underway gives s c.loop-frame.count rest i) some refl c.cause_of.ensures
