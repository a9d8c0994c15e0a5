use Rattle.std.proofs.Common.{◌∙◌, refl, ap, take, slice_index_or, arith, length-take}
use Rattle.link_base.specs.Name.{before_nul}
use Rattle.link_base.specs.Payloads.{limit_fields}
use Rattle.link_entries.specs.Entry.{padded}
use Rattle.nlroute_ffi.specs.Timing.{named_fields, named_limits}
use Rattle.nlroute_ffi.proofs.timing.timing_limits.Goals as goal

pub slice_bounds-before_nul-end : goal.slice_bounds-before_nul-end
slice_bounds-before_nul-end c = omega (arith, length-take 16 c.in_ok-bytes.bytes.now, c.in_ok-bytes.ensures.whole)

pub returns-clause-answer : goal.returns-clause-answer
returns-clause-answer c =
    let (refers, is) = c.in_ok-bytes.ensures.value in
    let name = c.before_nul.ensures ∙ ap (λ p. before_nul (take 16 p)) is in
    let fields =
    ap (λ ns. named_limits (record {
      name = c.padded.result;
      tseg1_min = slice_index_or ns 0 0;
      tseg1_max = slice_index_or ns 1 0;
      tseg2_min = slice_index_or ns 2 0;
      tseg2_max = slice_index_or ns 3 0;
      sjw_max = slice_index_or ns 4 0;
      brp_min = slice_index_or ns 5 0;
      brp_max = slice_index_or ns 6 0;
      brp_inc = slice_index_or ns 7 0;
    })) c.u32s_at-numbers.ensures.value in
    (refl, refers, c.padded.ensures ∙ ap padded (c.front.ensures ∙ ap (take 15) name), fields ∙ ap (λ p. named_fields limit_fields p) is)
