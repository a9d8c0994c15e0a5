use Rattle.std.proofs.Common.{◌++◌, ◌∷◌, [], ◌∙◌, length, ap, ap₂, sym, subst}
use Rattle.json.specs.Token.{string}
use Rattle.link_show.specs.Printable.{IsText}
use Rattle.std.proofs.lemmas.Bool.{eqb-false}
use Rattle.link_show.specs.Octets.{address_text}
use Rattle.link_show.proofs.Printing.{address_digits}
use Rattle.link_json.proofs.Printable.{some_octets}
use Rattle.link_json.proofs.Loops.{on_ok}
use Rattle.link_json.proofs.document.Document.address.Goals as goal

pub push-requires : goal.push-requires
push-requires c = subst IsText (sym (c.deref.ensures.value ∙ c.in-Ok.ensures ∙ ap (λ t. t ++ address_text c.args.bytes.now) c.clear.ensures.items)) (address_digits c.args.bytes.now)

pub returns-in-Ok : goal.returns-in-Ok
returns-in-Ok c =
    let some = some_octets c.args.bytes.now (eqb-false (length c.args.bytes.now) 0 (sym c.is_empty.ensures ∙ c.if-is_empty.false)) in
    let text = c.deref.ensures.value ∙ c.in-Ok.ensures ∙ ap (λ t. t ++ address_text c.args.bytes.now) c.clear.ensures.items ∙ some in
    on_ok c.push.result (λ e. e ∙ ap₂ (λ a b. a ++ string b ∷ []) c.self.view_is text) c.push.ensures.tokens
