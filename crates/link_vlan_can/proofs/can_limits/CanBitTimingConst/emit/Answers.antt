use Rattle.std.proofs.Common.{arith, sym, subst, refl}
use Rattle.std.specs.Prelude.{string_bytes}
use Rattle.link_base.specs.Name.{name_field}
use Rattle.link_base.specs.Answers.{OverwritesFront}
use Rattle.link_base.proofs.Emit.{frame_after}
use Rattle.link_base.proofs.ClassLemmas.{length-name_field}
use Rattle.link_vlan_can.specs.CanLimits.{limits_octets}
use Rattle.link_vlan_can.proofs.can_limits.CanBitTimingConst.emit.Goals as goal

pub returns-clause-written : goal.returns-clause-written
returns-clause-written c =
    let limits = c.args.self.now in
    let b0 = c.args.buffer.now in
    let b = c.emit_name.new.buffer in
    let name = string_bytes limits.name in
    let front : OverwritesFront b0 b (name_field name) = subst (λ t. OverwritesFront b0 b (name_field t)) c.deref.ensures c.emit_name.ensures in
    let size = length-name_field name in
    frame_after b0 b _ (name_field name) (limits_octets limits) c.emit_numbers.new.buffer 16 front (sym size) (omega (arith, size, c.requires)) c.emit_numbers.ensures.written refl
