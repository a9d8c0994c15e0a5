use Rattle.std.proofs.Common.{◌≡◌, ◌≢◌, ◌∙◌, codes, refl, sym, subst}
use Rattle.std.proofs.lemmas.Result.{IfOk-weaker}
use Rattle.clap.specs.Values.{kind_of}
use Rattle.clap.specs.declared.error.kind.ErrorKind.{ErrorKind}
use Rattle.show_lines.proofs.Commands.{other_reply}
use Rattle.show_lines.proofs.Cuts.{unbroken_first}
use Rattle.show_lines.proofs.Requests.{is_wrong}
use Rattle.show_lines.proofs.arguments.reported.Goals as goal

pub returns-in_ok-text-in_default-clause-request : goal.returns-in_ok-text-in_default-clause-request
returns-in_ok-text-in_default-clause-request c = IfOk-weaker c.wrong.result _ _ (λ r. is_wrong c.first_line.result.now r (unbroken_first c.as_str.result.now c.first_line.result.now c.first_line.ensures)) c.wrong.ensures

pub returns-in_ok-text-in_default-clause-reply : goal.returns-in_ok-text-in_default-clause-reply
returns-in_ok-text-in_default-clause-reply c =
    let other : (kind : ErrorKind) → c.kind.result ≢ kind → kind_of c.args.error.now ≢ kind = λ kind differs is. differs (c.kind.ensures ∙ is) in
    IfOk-weaker c.wrong.result _ _ (λ r wrong. other_reply (kind_of c.args.error.now) r (other _ c.in_default.not-DisplayHelp) (other _ c.in_default.not-DisplayVersion) (other _ c.in_default.not-OutOfMemory)
    (c.first_line.result.now, unbroken_first c.as_str.result.now c.first_line.result.now c.first_line.ensures, wrong)) c.wrong.ensures
