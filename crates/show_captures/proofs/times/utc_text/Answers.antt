use Rattle.std.proofs.Common.{◌++◌, Some, ap, ◌∙◌}
use Rattle.jiff_fmt.specs.Text.{datetime_text, zulu_text}
use Rattle.show_captures.proofs.times.utc_text.Goals as goal

pub returns-in-Some : goal.returns-in-Some
returns-in-Some c =
    let text = c.timestamp_text.ensures in
    let options = c.precision.ensures ∙ ap (λ o. (o.0, o.1, Some c.args.time.digits)) c.new.ensures in
    (c.in-Some.ensures.0, (text.0, text.1 ∙ c.in-Some.ensures.1, text.2 ∙ ap (λ o. datetime_text o.0 o.1 o.2 text.0 ++ zulu_text o.0) options))
