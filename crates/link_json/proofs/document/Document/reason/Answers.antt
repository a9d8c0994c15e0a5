use Rattle.std.proofs.Common.{◌++◌, ◌∙◌, ap, sym, subst}
use Rattle.link_show.specs.Printable.{IsText}
use Rattle.link_show.specs.Message.{reason_text}
use Rattle.link_show.proofs.MessagePrinting.{reason_is_text}
use Rattle.link_json.proofs.document.Document.reason.Goals as goal

pub push-requires : goal.push-requires
push-requires c = subst IsText (sym (c.deref.ensures.value ∙ c.in-Ok.ensures ∙ ap (λ t. t ++ reason_text c.args.error) c.clear.ensures.items)) (reason_is_text c.args.error)
