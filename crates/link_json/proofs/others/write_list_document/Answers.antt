use Rattle.link_json.proofs.DocumentParts.{empty_line}
use Rattle.link_json.proofs.others.write_list_document.Goals as goal

pub returns-in-Ok-print_document-clause-shown : goal.returns-in-Ok-print_document-clause-shown
returns-in-Ok-print_document-clause-shown g c =
    let contents = g.W.Write.contents in
    let (j, shown, stored) = c.in-Ok.ensures in
    (j, shown, empty_line (contents c.args.writer.now) (contents c.print_document.new.writer) c.clear.new.self c.store_list.new.doc j c.clear.ensures stored c.in-Ok-print_document.ensures.line)
