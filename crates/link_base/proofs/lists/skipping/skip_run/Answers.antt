use Rattle.std.proofs.Common.{◌≡◌, ◌≢◌, ◌+◌, ◌≤◌, length, take, drop, [], refl, sym, ap, subst, ◌∙◌, arith, inr}
use Rattle.std.proofs.lemmas.List.{length-take, length-drop}
use Rattle.link_base.specs.Frame.{pad}
use Rattle.link_base.specs.Layout.{number_at}
use Rattle.link_base.specs.Buffer.{kind_field_of, payload_of}
use Rattle.link_base.specs.Table.{Gives}
use Rattle.link_base.proofs.FrameAtFront.{Splits}
use Rattle.link_base.proofs.SkipLemmas.{passes_none, passes_more, passes_few, passes_bytes, alike_splits}
use Rattle.link_base.proofs.Numbers.{IsBytes-index}
use Rattle.link_base.proofs.ViewLemmas.{split_of, split_less}
use Rattle.link_base.proofs.lists.skipping.skip_run.Goals as goal

pub loop-rest-init : goal.loop-rest-init
loop-rest-init g c =
    let gives = Gives g.F.Meaning.table in
    let s = c.args.bytes.now in
    let first = c.args.first.now in
    let less = split_less s first c.args.after.now c.requires.first in
    let some : s ≢ [] = λ e. let none = ap length e in absurd (omega (arith, less, none)) in
    passes_more gives s 0 s c.args.after.now (kind_field_of first) (payload_of first) (passes_none gives s) some (split_of s first c.args.after.now c.requires.first)
    (c.requires.all_decode (kind_field_of first) (inr refl) (payload_of first) refl)

pub overflow_add-count : goal.overflow_add-count
overflow_add-count g c =
    omega (arith, c.padded-step.ensures, c.length.ensures, c.from.ensures, c.loop-rest-test.true, passes_few (Gives g.F.Meaning.table) c.args.bytes.now c.loop-rest.count c.loop-rest.rest.now c.loop-rest.invariant)

pub loop-rest-preserved : goal.loop-rest-preserved
loop-rest-preserved g c =
    let gives = Gives g.F.Meaning.table in
    let s = c.args.bytes.now in
    let rest = c.loop-rest.rest.now in
    let first = c.args.first.now in
    let n = length (payload_of first) in
    let f = number_at 2 2 rest in
    let p = take n (drop 4 rest) in
    let step : c.padded-step.result ≡ pad (4 + n) = c.padded-step.ensures ∙ ap pad (c.from.ensures ∙ c.length.ensures) in
    let room : pad (4 + n) ≤ length rest = omega (arith, step, c.loop-rest-test.true) in
    let known = passes_bytes gives s c.loop-rest.count rest c.loop-rest.invariant (IsBytes-index s (λ i. omega (arith, c.type_inv.bytes i))) in
    let split = alike_splits rest n known (c.if-is_alike.ensures.length refl) room in
    let next : drop (pad (4 + n)) rest ≡ c.split_at.result.1.now = sym (c.split_at.ensures.back ∙ ap (λ i. drop i rest) step) in
    let some : rest ≢ [] = λ e. let none = ap length e in absurd (omega (arith, room, none)) in
    let size : length p ≡ n = omega (arith, room, length-take n (drop 4 rest), length-drop 4 rest) in
    passes_more gives s c.loop-rest.count rest c.split_at.result.1.now f p c.loop-rest.invariant some (subst (Splits rest f p) next split)
    (c.requires.all_decode f (c.if-is_alike.ensures.kind refl) p size)
