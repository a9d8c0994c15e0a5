use Rattle.std.proofs.Common.{◌++◌, ◌∙◌, ap, sym, subst}
use Rattle.link_show.specs.Printable.{IsText}
use Rattle.link_show.specs.Structs.{bridge_id_text}
use Rattle.link_show.proofs.ValuePrinting.{bridge_id_is_text}
use Rattle.link_json.proofs.document.Document.bridge_id.Goals as goal

pub push-requires : goal.push-requires
push-requires c = subst IsText (sym (c.deref.ensures.value ∙ c.in-Ok.ensures ∙ ap (λ t. t ++ bridge_id_text c.args.bytes.now) c.clear.ensures.items)) (bridge_id_is_text c.args.bytes.now)
