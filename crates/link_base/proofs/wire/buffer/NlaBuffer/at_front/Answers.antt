use Rattle.std.proofs.Common.{arith, ap, ℕ, take, drop, ◌-◌}
use Rattle.link_base.proofs.FrameBytes.{begins-no_fault}
use Rattle.link_base.proofs.wire.buffer.NlaBuffer.at_front.Goals as goal

pub returns : goal.returns
returns c =
    let s = c.args.bytes.now in
    begins-no_fault s c.from_le_bytes-length.result c.from_le_bytes-kind_field.result _ (λ i. omega (arith, c.type_inv.bytes i)) c.requires c.from_le_bytes-length.ensures c.from_le_bytes-kind_field.ensures
    (ap (λ (n : ℕ). take (n - 4) (drop 4 s)) c.from.ensures)
