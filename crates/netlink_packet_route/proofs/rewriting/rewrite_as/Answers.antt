use Rattle.std.proofs.Common.{◌≡◌, List, ℕ, Result, Ok, Err, arith}
use Rattle.std.specs.Global.{Vec}
use Rattle.std.proofs.lemmas.Result.{err_from_is_err_and}
use Rattle.link_base.specs.Table.{Rewriting}
use Rattle.link_base.proofs.Numbers.{IsBytes-index}
use Rattle.netlink_packet_route.specs.Rewrite.{WritesValues}
use Rattle.netlink_packet_route.proofs.Rewritten.{rewriting, fitting, fault_unless, too_long_iff, succeeds_if, is_rewritten}
use Rattle.netlink_packet_route.proofs.rewriting.rewrite_as.Goals as goal

pub returns-in_err-_values-clause-fault : goal.returns-in_err-_values-clause-fault
returns-in_err-_values-clause-fault g c =
    let s = c.args.bytes.now in
    let p = err_from_is_err_and c.from_residual.result c.from_residual.ensures.1 in
    rw (p.1, p.2) (fault_unless g.met.F.Attribute.lawful s (λ (out : Vec ℕ). Rewriting g.F.Meaning.table s out.items) (λ out r. fitting r) (Err c.in_err-_values.field-0.0) c.in_err-_values.ensures.answer)

pub returns-in_err-_values-clause-too_long : goal.returns-in_err-_values-clause-too_long
returns-in_err-_values-clause-too_long g c =
    let s = c.args.bytes.now in
    let p = err_from_is_err_and c.from_residual.result c.from_residual.ensures.1 in
    rw (p.1, p.2) (too_long_iff g.met.F.Attribute.lawful s (λ (out : Vec ℕ). Rewriting g.F.Meaning.table s out.items) (λ out r. fitting r) (Err c.in_err-_values.field-0.0) c.in_err-_values.ensures.answer)

pub returns-in_err-_values-clause-canonical : goal.returns-in_err-_values-clause-canonical
returns-in_err-_values-clause-canonical g c =
    let s = c.args.bytes.now in
    let law = g.met.F.Attribute.lawful in
    let hs = IsBytes-index s (λ i. omega (arith, c.type_inv.bytes i)) in
    let p = err_from_is_err_and c.from_residual.result c.from_residual.ensures.1 in
    rw (p.1, p.2) (succeeds_if law s (λ (out : Vec ℕ). Rewriting g.F.Meaning.table s out.items) (λ out r. fitting r) hs (λ (out : Vec ℕ). out.items ≡ s) (λ out r canonical. (is_rewritten law s hs out.items r).same.1 canonical)
    (Err c.in_err-_values.field-0.0) c.in_err-_values.ensures.answer)

pub returns-clause-too_long : goal.returns-clause-too_long
returns-clause-too_long g c =
    let s = c.args.bytes.now in
    too_long_iff g.met.F.Attribute.lawful s (λ (out : List ℕ). Rewriting g.F.Meaning.table s out) (λ out r. fitting r) (Ok _) (rewriting c.in_ok-_values.ensures.answer)

pub returns-clause-same : goal.returns-clause-same
returns-clause-same g c =
    let s = c.args.bytes.now in
    (is_rewritten g.met.F.Attribute.lawful s (IsBytes-index s (λ i. omega (arith, c.type_inv.bytes i))) _ (rewriting c.in_ok-_values.ensures.answer)).same

pub returns-clause-canonical : goal.returns-clause-canonical
returns-clause-canonical g c = (returns-clause-same g c).1

pub returns-clause-no_longer : goal.returns-clause-no_longer
returns-clause-no_longer g c =
    let s = c.args.bytes.now in
    (is_rewritten g.met.F.Attribute.lawful s (IsBytes-index s (λ i. omega (arith, c.type_inv.bytes i))) _ (rewriting c.in_ok-_values.ensures.answer)).no_longer

pub returns-clause-back : goal.returns-clause-back
returns-clause-back g c =
    let s = c.args.bytes.now in
    (is_rewritten g.met.F.Attribute.lawful s (IsBytes-index s (λ i. omega (arith, c.type_inv.bytes i))) _ (rewriting c.in_ok-_values.ensures.answer)).back

pub returns-clause-converges : goal.returns-clause-converges
returns-clause-converges g c =
    let s = c.args.bytes.now in
    (is_rewritten g.met.F.Attribute.lawful s (IsBytes-index s (λ i. omega (arith, c.type_inv.bytes i))) _ (rewriting c.in_ok-_values.ensures.answer)).converges
