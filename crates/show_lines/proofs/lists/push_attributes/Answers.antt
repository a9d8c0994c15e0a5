use Rattle.std.proofs.Common.{◌+◌, ◌++◌, map, length, ap, sym, ◌∙◌, refl, subst}
use Rattle.std.proofs.lemmas.List.{length-map}
use Rattle.netlink_packet_route.specs.Report.{fault_line}
use Rattle.show_lines.specs.List.{AreIndented, Values, Fault}
use Rattle.show_lines.proofs.lists.push_attributes.Goals as goal

pub returns-in-Err-Fault : goal.returns-in-Err-Fault
returns-in-Err-Fault g c = (
  c.args.indent.now ++ fault_line (c.args.list.at + c.in-Err-Fault.at) c.in-Err-Fault.fault,
  Fault c.in-Err-Fault.at c.in-Err-Fault.fault (rw c.in-Err-Fault.field-0-is at c.in-Err-Fault.ensures.answer) refl refl,
  rw c.in-Err-Fault.field-0-is at c.in_ok-push_fault-in-Err-Fault.ensures,
)

pub returns : goal.returns
returns g c =
    let values = c.in-Ok.values.items in
    let h = c.in_ok-push_values.ensures in
    let size = ap length c.deref.ensures.value ∙ sym (length-map values g.F.Meaning.means) in
    (h.0, Values (map g.F.Meaning.means values) c.in-Ok.ensures.answer (subst (AreIndented c.args.indent.now h.0) size h.1) refl, h.2)
