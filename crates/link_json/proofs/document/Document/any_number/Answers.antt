use Rattle.std.proofs.Common.{◌≡◌, ◌++◌, ◌∷◌, [], ◌∙◌, ap₂, arith}
use Rattle.std.specs.Fmt.{decimal}
use Rattle.json.specs.Token.{number}
use Rattle.link_json.specs.Doc.{eight_bytes}
use Rattle.link_json.proofs.Loops.{on_ok}
use Rattle.link_json.proofs.document.Document.any_number.Goals as goal

pub returns : goal.returns
returns c =
    let low : c.args.n ≡ eight_bytes c.args.n = omega arith in
    on_ok c.u64.result (λ e. e ∙ ap₂ (λ a n. a ++ number (decimal n) ∷ []) c.self.view_is low) c.u64.ensures.ok
