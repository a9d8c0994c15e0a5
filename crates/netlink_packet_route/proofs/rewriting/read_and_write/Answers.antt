use Rattle.std.proofs.Common.{map, length, subst, ap, ◌∙◌, ◌<◌, Err}
use Rattle.std.proofs.lemmas.Result.{err_from_is_err_and}
use Rattle.link_base.specs.Table.{Gives}
use Rattle.netlink_packet_route.proofs.Rewritten.{begins, memory_of_writing}
use Rattle.netlink_packet_route.proofs.rewriting.read_and_write.Goals as goal

pub returns-in_err-out-clause-memory : goal.returns-in_err-out-clause-memory
returns-in_err-out-clause-memory g c =
    let vs = map g.F.Meaning.means c.in_ok-values.values.items in
    let p = err_from_is_err_and c.from_residual-in_err-out.result c.from_residual-in_err-out.ensures.1 in
    memory_of_writing _ c.from_residual-in_err-out.result c.in_err-out.field-0.0 _ (p.1 ∙ ap Err p.2) c.in_err-out.ensures.answer
    (λ some. begins (Gives g.F.Meaning.table) c.args.bytes.now vs c.in_ok-values.ensures.answer (subst (λ xs. 0 < length (map g.F.Meaning.means xs)) c.deref.ensures.value some))
