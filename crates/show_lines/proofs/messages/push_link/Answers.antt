use Rattle.std.proofs.Common.{◌++◌, map, refl, sym, ap, subst, ◌∙◌, append_assoc, codes, string_bytes}
use Rattle.link_messages.specs.Link.{part_of}
use Rattle.link_messages.specs.Lists.{ListsMessage}
use Rattle.link_messages.specs.Message.{packet_of}
use Rattle.link_show.proofs.MessageLines.{if_ok}
use Rattle.show_lines.specs.List.{Adds}
use Rattle.show_lines.specs.Messages.{ShowsMessage, ShowsParts, About, AboutNone, index_line}
use Rattle.show_lines.proofs.messages.push_link.Goals as goal

pub returns-in_ok-push_index-in-Ok : goal.returns-in_ok-push_index-in-Ok
returns-in_ok-push_index-in-Ok c =
    let old = string_bytes c.args.text.now in
    let head = string_bytes c.push_index.new.text in
    let new = string_bytes c.push_parts.new.text in
    let m = c.args.message.now in
    let parts = c.deref.result.now in
    let first = index_line c.args.header.index in
    let found = subst (λ ps. ListsMessage m.at (packet_of m) (map part_of ps)) (sym c.deref.ensures.value) c.in-Ok.ensures in
    if_ok (Adds (ShowsParts (codes "  ") (map part_of parts)) head new) (Adds (ShowsMessage m) old new) c.push_parts.result
    (λ read h. (first ++ h.0, About c.args.header c.requires (map part_of parts) found h.0 h.1 refl, h.2 ∙ ap (λ l. l ++ h.0) c.in_ok-push_index-in-Ok.ensures ∙ append_assoc old first h.0)) c.push_parts.ensures

pub returns-in_ok-push_error-in-Err-Message : goal.returns-in_ok-push_error-in-Err-Message
returns-in_ok-push_error-in-Err-Message c = (
  _,
  AboutNone c.in-Err-Message.error (rw c.in-Err-Message.field-0-is at c.in-Err-Message.ensures) refl refl,
  rw c.in-Err-Message.field-0-is at c.in_ok-push_error-in-Err-Message.ensures,
)
