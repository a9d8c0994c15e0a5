use Rattle.std.proofs.Common.{◌++◌, refl, ap, ◌∙◌, append_assoc, string_bytes}
use Rattle.netlink_packet_route.specs.Family.{table_of}
use Rattle.link_messages.specs.Link.{part_of}
use Rattle.link_show.proofs.MessageLines.{if_ok}
use Rattle.show_lines.specs.List.{Adds, ShowsList}
use Rattle.show_lines.specs.Messages.{ShowsPart, part_line}
use Rattle.show_lines.proofs.parts.push_part.Goals as goal

pub returns : goal.returns
returns c =
    let old = string_bytes c.args.text.now in
    let head = string_bytes c.push_head.new.text in
    let new = string_bytes c.push_list.new.text in
    let indent = c.args.indent.now in
    let p = c.args.part in
    let first = part_line indent (part_of p) in
    if_ok (Adds (ShowsList indent p.payload.at (table_of p.family) p.payload.bytes.now) head new) (Adds (ShowsPart indent (part_of p)) old new) c.push_list.result
    (λ read h. (first ++ h.0, (h.0, h.1, refl), h.2 ∙ ap (λ l. l ++ h.0) c.in_ok-push_head.ensures ∙ append_assoc old first h.0)) c.push_list.ensures
