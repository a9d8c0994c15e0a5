use Rattle.std.proofs.Common.{◌≡◌, ◌++◌, ◌∷◌, [], ◌∙◌, sym, ap, ap₂, subst, arith}
use Rattle.std.specs.Fmt.{decimal}
use Rattle.json.specs.Token.{number}
use Rattle.json.specs.Print.{IsNumber}
use Rattle.json.proofs.Printed.Decimals.{IsNumber-decimal}
use Rattle.link_json.specs.Doc.{eight_bytes}
use Rattle.link_json.proofs.Loops.{on_ok}
use Rattle.link_json.proofs.document.Document.number.Goals as goal

pub number-requires : goal.number-requires
number-requires c = subst IsNumber (sym c.digit.ensures) (IsNumber-decimal c.args.n (omega arith))

pub returns-then-n-lt10 : goal.returns-then-n-lt10
returns-then-n-lt10 c =
    let low : c.args.n ≡ eight_bytes c.args.n = omega arith in
    on_ok c.number.result (λ e. e ∙ ap₂ (λ a d. a ++ number d ∷ []) c.self.view_is (c.digit.ensures ∙ ap decimal low)) c.number.ensures.ok
