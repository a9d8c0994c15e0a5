use Rattle.std.proofs.Common.{◌≡◌, Bool, [], ap, ◌∙◌}
use Rattle.std.proofs.lemmas.Bool.{cond_both}
use Rattle.link_base.specs.Class.{size_of, extent}
use Rattle.link_base.specs.Payloads.{class_by, is_fixed}
use Rattle.link_base.proofs.rows.form.Form.width.Goals as goal

pub returns : goal.returns
returns c =
    let form = c.args.self in
    cond_both (is_fixed form) (size_of (extent (class_by form []))) 0 (λ n. c.kept.result ≡ n)
    (λ fixed. c.kept.ensures ∙ ap size_of (c.lengths.ensures.fixed [] fixed)) (λ other. c.kept.ensures ∙ ap size_of (c.lengths.ensures.other other))
