use Rattle.std.proofs.Common.{◌≡◌, ◌+◌, ◌*◌, take, drop, refl, sym, ap, subst, ◌∙◌, arith, length-set}
use Rattle.std.proofs.lemmas.List.{take_more_set, take_all, length-replicate}
use Rattle.link_base.specs.Layout.{numbers_at, octets_of}
use Rattle.link_base.proofs.Layouts.{read_none, read_more}
use Rattle.link_base.proofs.classes.records.u32s_at.Goals as goal

pub loop-i-init : goal.loop-i-init
loop-i-init g c = record { size = length-replicate g.row.N 0; read = read_none 4 c.args.offset c.args.bytes.now _ refl }

pub loop-i-preserved : goal.loop-i-preserved
loop-i-preserved g c =
    let xs = c.loop-i.numbers in
    let i = c.loop-i.i in
    let x = c.u32_at.result in
    let so_far = c.loop-i.invariant in
    let more = take_more_set xs i x (omega (arith, so_far.size, c.loop-i-test.true)) in
    record {
      size = length-set xs i x ∙ so_far.size;
      read = read_more 4 i c.args.offset (c.args.offset + 4 * i) c.args.bytes.now (take i xs) _ x refl c.u32_at.ensures.value c.u32_at.ensures.octets more so_far.read;
    }

pub returns-clause-value : goal.returns-clause-value
returns-clause-value g c =
    let xs = c.loop-i.numbers in
    let whole = take_all g.row.N xs (omega (arith, c.loop-i.invariant.size)) in
    let end : c.loop-i.i ≡ g.row.N = omega (arith, c.loop-i-test.false, c.loop-i.auto.i-end) in
    sym whole ∙ subst (λ n. take n xs ≡ numbers_at 4 n c.args.offset c.args.bytes.now) end c.loop-i.invariant.read.value

pub returns-clause-octets : goal.returns-clause-octets
returns-clause-octets g c =
    let xs = c.loop-i.numbers in
    let whole = take_all g.row.N xs (omega (arith, c.loop-i.invariant.size)) in
    let end : c.loop-i.i ≡ g.row.N = omega (arith, c.loop-i-test.false, c.loop-i.auto.i-end) in
    ap (octets_of 4) (sym whole) ∙ subst (λ n. octets_of 4 (take n xs) ≡ take (4 * n) (drop c.args.offset c.args.bytes.now)) end c.loop-i.invariant.read.octets
