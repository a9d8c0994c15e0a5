use Rattle.std.proofs.Common.{sym, ◌∙◌, arith}
use Rattle.std.proofs.lemmas.Bool.{eqb-true, eqb-false}
use Rattle.nlroute_ffi.proofs.CutTexts.{cut_stored, cut_nothing}
use Rattle.nlroute_ffi.proofs.buffers.store_words.Goals as goal
use Rattle.nlroute_ffi.proofs.buffers.store_words.Goals.{then-not-is_empty, else-not-is_empty}

pub returns : goal.returns
returns g c =
    let words = g.T.Words.words c.args.words.now in
    let old = c.args.buffer.now in
    let room = c.saturating_sub-room in
    let count = c.store_front-count in
    record {
      stored = (
        omega (arith, c.min-2.ensures, count.ensures.counted),
        elim c.if-not-is_empty.branch [
          | then-not-is_empty w ↦
              w.buffer-is
              ∙ cut_stored words old count.new.buffer room.result count.result w.min.result count.ensures.stored room.ensures room.type_inv count.ensures.counted w.min.ensures
              (eqb-false _ 0 (sym c.is_empty.ensures ∙ w.if-not-is_empty.true))
          | else-not-is_empty w ↦
              w.buffer-is ∙ cut_nothing words old count.new.buffer room.result count.ensures.stored room.ensures (eqb-true _ 0 (sym c.is_empty.ensures ∙ w.if-not-is_empty.false))
        ],
      );
      bounded = omega (arith, c.min-2.ensures);
    }
