use Rattle.link_json.specs.Other.{check_document}
use Rattle.link_json.proofs.DocumentParts.{empty_line}
use Rattle.link_json.proofs.OtherParts.{check_shown}
use Rattle.link_json.proofs.others.write_check.Goals as goal

pub returns-in-Ok-print_document-clause-shown : goal.returns-in-Ok-print_document-clause-shown
returns-in-Ok-print_document-clause-shown g c =
    let contents = g.W.Write.contents in
    let place = g.P.Place.fields c.args.place.now in
    let first = c.first_not_canonical-first.result in
    let j = check_document place c.args.family first in (
      j,
      check_shown place c.args.family c.args.bytes.now first c.is_none.result c.is_none.ensures c.first_not_canonical-first.ensures,
      empty_line (contents c.args.writer.now) (contents c.print_document.new.writer) c.clear.new.self c.store_check.new.doc j c.clear.ensures c.in-Ok.ensures c.in-Ok-print_document.ensures.line,
    )
