use Rattle.std.proofs.Common.{◌∙◌, sym, subst, arith}
use Rattle.link_show.specs.Printable.{IsText}
use Rattle.link_json.proofs.Printable.{encoded_text}
use Rattle.link_json.proofs.document.Document.hex.Goals as goal

pub push-requires : goal.push-requires
push-requires c = subst IsText (sym (c.deref.ensures.value ∙ c.in_ok-store_hex.ensures)) (encoded_text c.args.bytes.now (λ i. omega (arith, c.type_inv.bytes i)))
