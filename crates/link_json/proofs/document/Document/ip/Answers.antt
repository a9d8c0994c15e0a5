use Rattle.std.proofs.Common.{◌++◌, ◌∙◌, ap, sym, subst}
use Rattle.link_show.specs.Printable.{IsText}
use Rattle.link_show.specs.List.{ip_text}
use Rattle.link_show.proofs.LinePrinting.{ip_is_text}
use Rattle.link_json.proofs.document.Document.ip.Goals as goal

pub push-requires : goal.push-requires
push-requires c = subst IsText (sym (c.deref.ensures.value ∙ c.in-Ok.ensures ∙ ap (λ t. t ++ ip_text c.args.bytes.now) c.clear.ensures.items)) (ip_is_text c.args.bytes.now)
