use Rattle.std.proofs.Common.{◌∷◌, [], codes, IfOk, refl, subst}
use Rattle.std.proofs.lemmas.Bool.{iff_false}
use Rattle.link_messages.specs.Message.{packet_of}
use Rattle.link_messages.specs.Link.{attributes_of}
use Rattle.link_json.specs.Link.{ShowsLink}
use Rattle.link_json.specs.List.{WritesValue}
use Rattle.link_json.specs.Message.{ShowsBody, WritesFields, Link, NoLink, message_error}
use Rattle.link_show.proofs.MessageLines.{if_ok}
use Rattle.link_json.proofs.Objects.{field_only}
use Rattle.link_json.proofs.documents.write_about_link.Goals as goal

pub returns-in_ok-key-in-Ok : goal.returns-in_ok-key-in-Ok
returns-in_ok-key-in-Ok c =
    let m = c.args.message.now in
    let old = c.args.doc.now in
    let new = c.write_link.new.doc in
    let h = c.in-Ok.ensures in
    if_ok (WritesValue (ShowsLink c.in-Ok.header (attributes_of m.at (packet_of m))) c.key.new.self new) (WritesFields (ShowsBody m) old new) c.write_link.result
    (λ well (j, shown, written). ((codes "link", j) ∷ [], Link c.in-Ok.header (iff_false c.is_general.ensures c.if-is_general.false) h.0 j shown refl, field_only old c.key.new.self new (codes "link") j c.in_ok-key-in-Ok.ensures written))
    (subst (λ s. IfOk c.write_link.result (WritesValue (ShowsLink c.in-Ok.header s) c.key.new.self new)) h.1 c.write_link.ensures)

pub returns-in_ok-write_message_error-in-Err : goal.returns-in_ok-write_message_error-in-Err
returns-in_ok-write_message_error-in-Err c =
    (message_error c.in-Err.error ∷ [], NoLink c.in-Err.error c.requires (iff_false c.is_general.ensures c.if-is_general.false) c.in-Err.ensures refl refl, c.in_ok-write_message_error-in-Err.ensures)
