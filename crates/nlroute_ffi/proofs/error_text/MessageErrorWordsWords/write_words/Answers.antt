use Rattle.std.proofs.Common.{append_assoc, arith, refl}
use Rattle.link_show.specs.Gained.{then_all}
use Rattle.nlroute_ffi.proofs.error_text.MessageErrorWordsWords.write_words.Goals as goal

pub returns : goal.returns
returns g c =
    then_all _ _ _ _ _ _ _ c.in_ok-put.ensures (then_all _ _ _ _ _ _ _ c.in_ok-put-2.ensures (then_all _ _ _ _ _ _ _ c.in_ok-put-3.ensures c.write_reason.ensures refl) refl)
    (grind (arith, append_assoc, c.format.ensures.text, c.as_bytes.ensures.value))
