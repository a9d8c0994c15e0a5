use Rattle.std.proofs.Common.{◌≡◌, ◌++◌, ◌∷◌, [], OnOk, sym, subst}
use Rattle.json.specs.Token.{string}
use Rattle.json.specs.Tree.{json_tokens}
use Rattle.link_json.proofs.Printable.{text_is_string, text_is_opaque}
use Rattle.link_json.proofs.document.Document.text.Goals as goal

pub returns-in-Ok : goal.returns-in-Ok
returns-in-Ok c =
    let cases = c.in-Ok.ensures.cases in
    let is : (string c.in-Ok.text.now ∷ []) ≡ (string c.args.bytes.now ∷ []) = λ i. string (cases.0 i) ∷ [] in
    let written = subst (λ t. OnOk c.string.result (c.string.new.self ≡ c.args.self.now ++ t)) is c.string.ensures in
    subst (λ j. OnOk c.string.result (c.string.new.self ≡ c.args.self.now ++ json_tokens j)) (sym (text_is_string c.args.bytes.now cases.1)) written

pub returns-in-Err : goal.returns-in-Err
returns-in-Err c =
    subst (λ j. OnOk c.opaque.result (c.opaque.new.self ≡ c.args.self.now ++ json_tokens j)) (sym (text_is_opaque c.args.bytes.now c.in-Err.ensures.cases.0)) c.opaque.ensures
