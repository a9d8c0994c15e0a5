use Rattle.std.proofs.Common.{◌≡◌, ◌*◌, ◌∙◌, length, sym, ap, arith}
use Rattle.std.proofs.Math.Nat.{mul_comm}
use Rattle.link_base.specs.Forms.{size_in}
use Rattle.link_base.specs.Layout.{octets_by}
use Rattle.link_base.proofs.Layouts.{IsOctets-numbers}
use Rattle.link_base.proofs.classes.number_lists.numbers_len.Goals as goal

pub returns : goal.returns
returns g c =
    let w = g.W.ArrayWord in
    let xs = c.args.numbers.now in
    let size : size_in w.OF ≡ c.size.result = sym (c.size.ensures.value ∙ ap size_in c.OF.ensures) in
    let len : length (octets_by (size_in w.OF) w.value xs) ≡ length xs * c.size.result =
    (IsOctets-numbers (size_in w.OF) w.value xs).0 ∙ ap (λ n. n * length xs) size ∙ mul_comm c.size.result (length xs) in
    rw len (omega (arith, c.saturating_mul.ensures))
