use Rattle.std.proofs.Common.{◌≡◌, ◌+◌, ◌-◌, ◌≤◌, ◌++◌, length, drop, refl, sym, subst, ap, ◌∙◌, arith}
use Rattle.std.proofs.lemmas.List.{length-append}
use borrow.Rule.Slice.PartMut.{put_mid}
use Rattle.link_base.specs.Number.{IsBytes}
use Rattle.link_base.proofs.Numbers.{IsBytes-index}
use Rattle.link_base.proofs.Emit.{two_parts}
use Rattle.link_base.proofs.classes.peer.PeerPayloadClass.emit.Goals as goal

pub returns-clause-written : goal.returns-clause-written
returns-clause-written c =
    let header = c.args.peer.now.header in
    let list = c.args.peer.now.attributes.items in
    let b0 = c.args.buffer.now in
    let b = c.emit_header.new.buffer in
    let back = c.copy_from_slice.new.self in
    let size = c.emit_header.ensures.octets.0 in
    let front : b ≡ header ++ drop 16 b0 = c.emit_header.ensures.written ∙ ap (λ n. header ++ drop n b0) size in
    let rest : back ≡ list = c.copy_from_slice.ensures.after ∙ c.deref.ensures.value in
    let exact : length b0 ≡ length (header ++ list) = c.requires.exact in
    let room : length b0 ≡ 16 + length back = omega (arith, exact, length-append header list, ap length rest, size) in
    two_parts b0 header b back (put_mid 16 (length b - 16) b back) 16 (sym size) front room refl ∙ ap (λ t. header ++ t) rest

pub returns-clause-in_range : goal.returns-clause-in_range
returns-clause-in_range c =
    let header = c.args.peer.now.header in
    let list = c.args.peer.now.attributes.items in
    let b = c.emit_header.new.buffer in
    let bytes = IsBytes-index (put_mid 16 (length b - 16) b c.copy_from_slice.new.self) (λ i. omega (arith, c.type_inv.buffer i)) in
    let least : 16 ≤ length (header ++ list) = omega (arith, length-append header list, c.emit_header.ensures.octets.0) in
    (least, subst IsBytes (returns-clause-written c) bytes)
