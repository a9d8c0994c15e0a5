use Rattle.std.proofs.Common.{rules, ◌≡◌, ◌∙◌, [], ◌∷◌, true, codes, ap, ap₂}
use Rattle.std.proofs.lemmas.Result.{IfOk-weaker}
use Rattle.clap.specs.Simple.{App, app_of, app_of_fields, with_rule}
use Rattle.clap.specs.Walk.{rule_of}
use Rattle.show_lines.specs.Command.{app_with}
use Rattle.show_lines.proofs.arguments.command.Goals as goal

pub returns : goal.returns
returns c =
    let versioned : App → App = λ app. record app { top = record app.top { has_version = true } } in
    let none_is : app_of c.version.result ≡ app_with [] = ap app_of_fields c.version.ensures ∙ ap versioned c.new.ensures.app in
    let format_is = c.in_ok-arg.ensures.shape c.format_option.ensures.1 ∙ ap (λ app. with_rule app (rule_of c.format_option.result)) none_is in
    let check_is = c.in_ok-arg-2.ensures.shape c.flag.ensures.1 ∙ ap₂ with_rule format_is c.flag.ensures.0 in
    let brief_is = c.in_ok-arg-3.ensures.shape c.flag-2.ensures.1 ∙ ap₂ with_rule check_is c.flag-2.ensures.0 in
    let raw_is = c.in_ok-arg-4.ensures.shape c.flag-3.ensures.1 ∙ ap₂ with_rule brief_is c.flag-3.ensures.0 in
    IfOk-weaker c.arg-5.result _ _ (λ command h. (rule_of c.format_option.result, c.format_option.ensures.0, h.shape c.file_names.ensures.1 ∙ ap₂ with_rule raw_is c.file_names.ensures.0)) c.arg-5.ensures
