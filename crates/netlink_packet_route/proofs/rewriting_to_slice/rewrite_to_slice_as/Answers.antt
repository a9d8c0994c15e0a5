use Rattle.std.proofs.Common.{◌≡◌, map, length, subst, ap, arith, Ok, Err, Some, None}
use Rattle.std.proofs.lemmas.Result.{err_from_is_err_and}
use Rattle.std.specs.List.{AllByRecursion}
use Rattle.link_base.specs.Table.{Fits, written_list}
use Rattle.link_base.specs.Answers.{OverwritesFront, IsFirstUnfit, of_reading}
use Rattle.link_base.specs.declared.wire.fault.RewriteError.TheVariants as errors
use Rattle.link_base.proofs.Numbers.{IsBytes-index}
use Rattle.link_base.proofs.Streaming.{fails_by}
use Rattle.netlink_packet_route.specs.Rewrite.{WritesOrLacksRoom, KeepsOrLacksRoom}
use Rattle.netlink_packet_route.proofs.Rewritten.{rewritten, fitting_in, kept_in, too_long_iff, succeeds_if}
use Rattle.netlink_packet_route.proofs.rewriting_to_slice.rewrite_to_slice_as.Goals as goal

pub returns-in_err-values-clause-canonical : goal.returns-in_err-values-clause-canonical
returns-in_err-values-clause-canonical g c =
    let s = c.args.bytes.now in
    let old = c.args.buffer.now in
    let table = g.F.Meaning.table in
    let answers = WritesOrLacksRoom table s old old in
    let p = err_from_is_err_and c.from_residual.result c.from_residual.ensures.1 in
    let e = c.in_err-values.field-0.0 in
    rw (p.1, p.2) (succeeds_if g.met.F.Attribute.lawful s answers (fitting_in table s old old) (IsBytes-index s (λ i. omega (arith, c.type_inv.bytes i))) (KeepsOrLacksRoom s old old) (kept_in table s old old)
    (Err (of_reading e)) (fails_by table s answers e c.in_err-values.ensures.answer))

pub returns-in_err-len-clause-canonical : goal.returns-in_err-len-clause-canonical
returns-in_err-len-clause-canonical g c =
    let s = c.args.bytes.now in
    let old = c.args.buffer.now in
    let table = g.F.Meaning.table in
    let i = c.in_err-len.field-0.0.index in
    let vs = map g.F.Meaning.means c.in_ok-values.values.items in
    let unfit = subst (λ us. IsFirstUnfit us i) (ap (map g.F.Meaning.means) c.deref.ensures.value) c.in_err-len.ensures in
    let p = err_from_is_err_and c.from_residual-in_err-len.result c.from_residual-in_err-len.ensures.1 in
    rw (p.1, p.2) (succeeds_if g.met.F.Attribute.lawful s (WritesOrLacksRoom table s old old) (fitting_in table s old old) (IsBytes-index s (λ k. omega (arith, c.type_inv.bytes k))) (KeepsOrLacksRoom s old old) (kept_in table s old old)
    (Err (errors.TooLong i)) (vs, c.in_ok-values.ensures.answer, unfit))

pub returns-then-len-buffer-clause-answer : goal.returns-then-len-buffer-clause-answer
returns-then-len-buffer-clause-answer g c =
    let s = c.args.bytes.now in
    let vs = map g.F.Meaning.means c.in_ok-values.values.items in
    let measured = c.in_ok-len.ensures in
    let same = ap (map g.F.Meaning.means) c.deref.ensures.value in
    let fit : AllByRecursion Fits vs = subst (AllByRecursion Fits) same measured.0 in
    record {
      text = written_list vs;
      is = rewritten g.met.F.Attribute.lawful s (IsBytes-index s (λ i. omega (arith, c.type_inv.bytes i))) vs c.in_ok-values.ensures.answer fit;
      more = omega (arith, measured.1, c.if-len-buffer.true, ap (λ us. length (written_list us)) same);
    }

pub returns-clause-answer : goal.returns-clause-answer
returns-clause-answer g c =
    let s = c.args.bytes.now in
    let vs = map g.F.Meaning.means c.in_ok-values.values.items in
    let measured = c.in_ok-len.ensures in
    let same = ap (map g.F.Meaning.means) c.deref.ensures.value in
    let fit : AllByRecursion Fits vs = subst (AllByRecursion Fits) same measured.0 in
    let len = ap (λ us. length (written_list us)) same in
    record {
      text = written_list vs;
      is = rewritten g.met.F.Attribute.lawful s (IsBytes-index s (λ i. omega (arith, c.type_inv.bytes i))) vs c.in_ok-values.ensures.answer fit;
      put = record {
        count = omega (arith, measured.1, c.if-len-buffer.false, len);
        room = omega (arith, measured.1, c.if-len-buffer.false, len);
        written = subst (λ xs. OverwritesFront c.args.buffer.now c.emit_list.new.buffer (written_list (map g.F.Meaning.means xs))) c.deref-2.ensures.value c.emit_list.ensures.written;
      };
    }

pub returns-then-len-buffer-clause-too_long : goal.returns-then-len-buffer-clause-too_long
returns-then-len-buffer-clause-too_long g c = too_long_iff g.met.F.Attribute.lawful c.args.bytes.now _ (fitting_in g.F.Meaning.table c.args.bytes.now c.args.buffer.now c.args.buffer.now) (Ok None) (returns-then-len-buffer-clause-answer g c)

pub returns-clause-too_long : goal.returns-clause-too_long
returns-clause-too_long g c = too_long_iff g.met.F.Attribute.lawful c.args.bytes.now _ (fitting_in g.F.Meaning.table c.args.bytes.now c.args.buffer.now c.emit_list.new.buffer) (Ok (Some c.in_ok-len.len)) (returns-clause-answer g c)

pub returns-then-len-buffer-clause-canonical : goal.returns-then-len-buffer-clause-canonical
returns-then-len-buffer-clause-canonical g c canonical = kept_in g.F.Meaning.table c.args.bytes.now c.args.buffer.now c.args.buffer.now None (returns-then-len-buffer-clause-answer g c) canonical

pub returns-clause-canonical : goal.returns-clause-canonical
returns-clause-canonical g c canonical = kept_in g.F.Meaning.table c.args.bytes.now c.args.buffer.now c.emit_list.new.buffer (Some c.in_ok-len.len) (returns-clause-answer g c) canonical
