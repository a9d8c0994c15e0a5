use Rattle.std.proofs.Common.{length, ◌<◌, arith}
use Rattle.link_base.specs.Table.{written_payload}
use Rattle.link_base.proofs.Emit.{first_unfit_at}
use Rattle.link_base.proofs.lists.writing.measure_list.Goals as goal

pub returns-then-size-gt-MAX_PAYLOAD : goal.returns-then-size-gt-MAX_PAYLOAD
returns-then-size-gt-MAX_PAYLOAD g c =
    let means = g.F.Meaning.means in
    let x = c.index-values-i.result in
    let long : 65531 < length (written_payload (means x)) = omega (arith, c.value_len-size.ensures, c.if-size-gt-MAX_PAYLOAD.true) in
    first_unfit_at means c.args.values.now c.loop-i.i x c.loop-i-test.true c.index-values-i.is c.loop-i.invariant.0 long
