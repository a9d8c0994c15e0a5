use Rattle.std.proofs.Common.{[], ◌∷◌, ◌++◌, List, Some, None, sym, ap, ◌∙◌}
use Rattle.std.specs.Option.{option_or}
use Rattle.link_capture.specs.Options.{Coded, first_value}
use Rattle.link_capture.proofs.Passed.{passed_more, passed_end, first_more}
use Rattle.link_capture.proofs.options.read_values.Goals as goal

pub loop-found-preserved : goal.loop-found-preserved
loop-found-preserved c =
    let before = c.loop-found.invariant in
    let options : List Coded = before.0 in
    let o : Coded = (c.in-Ok-Some.found.code, c.in-Ok-Some.found.value.now) in (
      options ++ o ∷ [],
      passed_more c.args.order c.args.options.now options o c.loop-found.rest.now c.in-Ok-Some.found.rest.now before.1 (rw c.in-Ok-Some.field-0-is at c.in-Ok-Some.ensures),
      c.or_value-resolution.ensures ∙ ap (λ v. option_or v (first_value 9 (o ∷ []))) before.2 ∙ sym (first_more 9 options o),
      c.or_value-offset.ensures ∙ ap (λ v. option_or v (first_value 14 (o ∷ []))) before.3 ∙ sym (first_more 14 options o),
    )

pub returns-in-Ok-None : goal.returns-in-Ok-None
returns-in-Ok-None c =
    let before = c.loop-found.invariant in (before.0, passed_end c.args.order c.args.options.now before.0 c.loop-found.rest.now None before.1 (rw c.in-Ok-None.field-0-is at c.in-Ok-None.ensures), before.2, before.3)

pub returns-in-Err : goal.returns-in-Err
returns-in-Err c =
    let before = c.loop-found.invariant in (before.0, passed_end c.args.order c.args.options.now before.0 c.loop-found.rest.now (Some c.in-Err.error) before.1 c.in-Err.ensures)
