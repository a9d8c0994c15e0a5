use Rattle.std.proofs.Common.{◌++◌, length, ap, ◌∙◌, arith}
use Rattle.nlroute_ffi.proofs.Texts.{on_ok}
use Rattle.nlroute_ffi.proofs.names.append.Goals as goal

pub returns : goal.returns
returns c =
    let h = c.as_bytes.ensures.value in
    on_ok c.try_extend_from_slice.result (c.try_extend_from_slice.ensures.variant.1 (omega (arith, ap length h, c.requires))) c.try_extend_from_slice.ensures.ok ∙ ap (λ s. c.args.text.now.items ++ s) h
