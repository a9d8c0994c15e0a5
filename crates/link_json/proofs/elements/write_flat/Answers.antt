use Rattle.std.proofs.Common.{OnOk, refl, sym, subst}
use Rattle.link_base.specs.Labels.{label_of}
use Rattle.link_json.specs.Doc.{array_of}
use Rattle.link_json.specs.List.{ShowsFlat, WritesOne}
use Rattle.link_json.proofs.Loops.{on_ok}
use Rattle.link_json.proofs.Objects.{array_written}
use Rattle.link_json.proofs.elements.write_flat.Goals as goal

pub returns-in_ok-write_addresses-in-Addresses : goal.returns-in_ok-write_addresses-in-Addresses
returns-in_ok-write_addresses-in-Addresses c =
    let written = c.in_ok-write_addresses-in-Addresses.ensures in
    let old = c.args.doc.now in
    let new = c.end_array.new.self in
    subst (λ content. OnOk c.end_array.result (WritesOne (ShowsFlat (label_of c.args.label.now) content) old new)) (sym c.in-Addresses.is)
    (on_ok c.end_array.result (λ e. (array_of written.0, (written.0, written.1, refl), array_written old c.begin_array.new.self c.write_addresses.new.doc new written.0 c.in_ok-begin_array-in-Addresses.ensures written.2 e))
    c.end_array.ensures)
