use Rattle.std.proofs.Common.{◌≡◌, ◌+◌, ◌*◌, ◌/◌, ◌%◌, ◌∙◌, length, sym, ap, arith}
use Rattle.std.proofs.Math.Nat.{mul-div_cancel'}
use Rattle.std.proofs.lemmas.Nat.Gcd.{dvd_of_mod-eq-zero}
use Rattle.std.proofs.lemmas.Grind.{common_steps}
use Rattle.link_base.specs.Forms.{size_in}
use Rattle.link_base.proofs.Layouts.{value_read, values_read}
use Rattle.link_base.proofs.classes.number_lists.parse_numbers.Goals as goal

pub loop-i-preserved : goal.loop-i-preserved
loop-i-preserved g c =
    let w = g.W.ArrayWord in
    let size : c.size-size.result ≡ size_in w.OF = c.size-size.ensures.value ∙ ap size_in c.OF.ensures in
    let so_far = c.loop-i.invariant in
    let pushed = c.push_reserved.ensures in
    record {
      read = value_read (size_in w.OF) w.value c.loop-i.i c.size-size.result c.args.payload.now _ _ c.from_bytes.result size c.from_bytes.ensures.value c.from_bytes.ensures.octets pushed.items so_far.read;
      len = pushed.len ∙ ap (λ n. n + 1) so_far.len;
      room = pushed.capacity ∙ so_far.room;
    }

pub returns-clause-octets : goal.returns-clause-octets
returns-clause-octets g c =
    let w = g.W.ArrayWord in
    let n = c.size-size.result in
    let size : n ≡ size_in w.OF = c.size-size.ensures.value ∙ ap size_in c.OF.ensures in
    let p = c.args.payload.now in
    let exact : length p % n ≡ 0 = grind (arith, common_steps) in
    let end : c.loop-i.i ≡ length p / n = omega (arith, c.loop-i-test.false, c.loop-i.auto.i-end) in
    let whole : n * c.loop-i.i ≡ length p = ap (λ m. n * m) end ∙ mul-div_cancel' n (dvd_of_mod-eq-zero n exact) in
    values_read (size_in w.OF) w.value c.loop-i.i p _ (ap (λ m. m * c.loop-i.i) (sym size) ∙ whole) c.loop-i.invariant.read
