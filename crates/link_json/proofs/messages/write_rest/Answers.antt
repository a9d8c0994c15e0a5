use Rattle.std.proofs.Common.{◌∷◌, [], drop, false, refl, sym, subst}
use Rattle.std.proofs.lemmas.Bool.{iff_false}
use Rattle.std.proofs.lemmas.List.{take_rest}
use Rattle.std.proofs.KnownBytes.{Appends-nil}
use Rattle.link_show.specs.Message.{AreZerosAfter}
use Rattle.link_json.specs.Message.{Zeros, Broken, message_error, whole_document}
use Rattle.link_json.proofs.DocumentParts.{cleared_line}
use Rattle.link_json.proofs.messages.write_rest.Goals as goal

pub returns-then-are_zeros_after-clause-shown : goal.returns-then-are_zeros_after-clause-shown
returns-then-are_zeros_after-clause-shown g c =
    let at = c.args.at in
    let zeros = subst (AreZerosAfter at) (take_rest c.args.buffer.now at) (c.are_zeros_after.ensures.0 c.if-are_zeros_after.true) in
    ([], Zeros c.requires.0 c.args.error c.requires.1 zeros refl refl, Appends-nil (g.W.Write.contents c.args.writer.now))

pub returns-in-Ok-print_document-clause-shown : goal.returns-in-Ok-print_document-clause-shown
returns-in-Ok-print_document-clause-shown g c =
    let at = c.args.at in
    let other = iff_false c.are_zeros_after.ensures c.if-are_zeros_after.false in
    let some = λ (zeros : AreZerosAfter at (drop at c.args.buffer.now)). other (subst (AreZerosAfter at) (sym (take_rest c.args.buffer.now at)) zeros) in
    let contents = g.W.Write.contents in
    let j = whole_document (g.P.Place.fields c.args.place.now) (message_error c.args.error ∷ []) false in
    (j ∷ [], Broken c.requires.0 c.args.error c.requires.1 some refl refl, cleared_line (contents c.args.writer.now) (contents c.print_document.new.writer) c.clear.new.self c.store_error.new.doc j c.clear.ensures c.in-Ok.ensures c.in-Ok-print_document.ensures.line)
