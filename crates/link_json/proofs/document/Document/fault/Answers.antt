use Rattle.std.proofs.Common.{◌++◌, ◌∙◌, ap, sym, subst}
use Rattle.link_show.specs.Printable.{IsText}
use Rattle.netlink_packet_route.specs.Family.{table_of}
use Rattle.link_show.specs.Fault.{fault_text}
use Rattle.link_show.proofs.ValuePrinting.{fault_is_text}
use Rattle.link_show.proofs.HeldPrinting.{family_has_texts}
use Rattle.link_json.proofs.document.Document.fault.Goals as goal

pub push-requires : goal.push-requires
push-requires c =
    let table = table_of c.args.family in
    subst IsText (sym (c.deref.ensures.value ∙ c.in-Ok.ensures ∙ ap (λ t. t ++ fault_text table c.args.fault) c.clear.ensures.items)) (fault_is_text table c.args.fault (family_has_texts c.args.family))
