use Rattle.std.proofs.Common.{◌≡◌, ◌≤◌, ℕ, length, take, arith}
use Rattle.link_base.specs.Rewritten.{RewrittenInto}
use Rattle.link_base.proofs.Numbers.{IsBytes-index}
use Rattle.netlink_packet_route.proofs.Rewritten.{front_rewriting, fitting, fault_unless, too_long_iff, succeeds_if, same_iff, streamed}
use Rattle.netlink_packet_route.proofs.rewriting_streaming.rewrite_streaming_as.Goals as goal

pub returns-clause-answer : goal.returns-clause-answer
returns-clause-answer g c =
    let s = c.args.bytes.now in
    streamed g.met.F.Attribute.lawful s (IsBytes-index s (λ i. omega (arith, c.type_inv.bytes i))) c.args.buffer.now c.rewrite_list.new.buffer c.requires c.rewrite_list.result c.rewrite_list.ensures.answer

pub returns-clause-fault : goal.returns-clause-fault
returns-clause-fault g c = fault_unless g.met.F.Attribute.lawful c.args.bytes.now _ (λ n w. fitting w.is) c.rewrite_list.result c.rewrite_list.ensures.answer

pub returns-clause-too_long : goal.returns-clause-too_long
returns-clause-too_long g c = too_long_iff g.met.F.Attribute.lawful c.args.bytes.now _ (λ n w. fitting w.is) c.rewrite_list.result c.rewrite_list.ensures.answer

pub returns-clause-canonical : goal.returns-clause-canonical
returns-clause-canonical g c =
    let law = g.met.F.Attribute.lawful in
    let s = c.args.bytes.now in
    let hs = IsBytes-index s (λ i. omega (arith, c.type_inv.bytes i)) in
    let new = c.rewrite_list.new.buffer in
    succeeds_if law s (RewrittenInto g.F.Meaning.table s c.args.buffer.now new) (λ n w. fitting w.is) hs (λ (n : ℕ). take n new ≡ s) (λ n w canonical. (same_iff law s hs (take n new) (front_rewriting w)).1 canonical)
    c.rewrite_list.result c.rewrite_list.ensures.answer
