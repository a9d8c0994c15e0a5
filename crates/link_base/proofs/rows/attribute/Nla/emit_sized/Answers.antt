use Rattle.std.proofs.Common.{arith, ℕ, ◌≡◌, ◌+◌, ◌-◌, refl, subst}
use borrow.Rule.Slice.PartMut.{put_mid}
use Rattle.link_base.specs.Frame.{frame_bytes}
use Rattle.link_base.specs.Wire.{whole}
use Rattle.link_base.specs.Table.{written_payload, written_kind}
use Rattle.link_base.specs.Answers.{OverwritesFront}
use Rattle.link_base.proofs.Emit.{put_frame, length-whole_bytes}
use Rattle.link_base.proofs.rows.attribute.Nla.emit_sized.Goals as goal

pub returns-clause-written : goal.returns-clause-written
returns-clause-written g c =
    let v = g.Self.Meaning.means c.args.self.now in
    let p = written_payload v in
    let n = c.args.size in
    let end = c.total_size.result in
    let len = length-whole_bytes (written_kind v) p in
    let k : 4 + n - 4 ≡ n = omega arith in
    let out = put_mid 4 (4 + n - 4) c.put_header.new.buffer c.emit_value.new.buffer in
    let done = put_frame c.args.buffer.now c.put_zeros.new.buffer c.put_header.new.buffer out c.kind-kind_field.result p n end c.requires.size (omega (arith, c.requires.size, c.total_size.ensures)) (omega (arith, c.requires.size, c.total_size.ensures, len, c.requires.room))
    c.put_zeros.ensures c.put_header.ensures (rw (k, c.emit_value.ensures.written) refl) in
    subst (λ (m : ℕ). OverwritesFront c.args.buffer.now out (frame_bytes (whole m p))) c.kind-kind_field.ensures done
