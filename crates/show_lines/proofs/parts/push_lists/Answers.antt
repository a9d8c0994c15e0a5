use Rattle.std.proofs.Common.{◌≡◌, ◌-◌, [], length, map, take, drop, ap, subst, ◌∙◌, arith, string_bytes}
use Rattle.std.proofs.lemmas.List.{take_all, length-drop}
use Rattle.link_messages.specs.Finding.{stretch_of}
use Rattle.link_messages.specs.Link.{part_of}
use Rattle.show_lines.specs.List.{Adds}
use Rattle.show_lines.specs.Messages.{ShowsParts}
use Rattle.show_lines.proofs.Links.{lists_shown}
use Rattle.show_lines.proofs.parts.push_lists.Goals as goal

pub returns : goal.returns
returns c =
    let lists = c.in_ok-lists.lists.items in
    let own = string_bytes c.push_list.new.text in
    let all = string_bytes c.push_parts.new.text in
    let parts = c.deref.result.now in
    let behind : take (length parts - 1) (drop 1 parts) ≡ drop 1 lists = take_all (length parts - 1) (drop 1 parts) (omega (arith, length-drop 1 parts)) ∙ ap (drop 1) c.deref.ensures.value in
    lists_shown c.args.family (stretch_of c.args.list) lists (string_bytes c.args.text.now) own all c.in_ok-whole.whole c.in_ok-held.held c.in_ok-lists.ensures c.in_ok-whole.ensures
    (subst (λ ps. Adds (ShowsParts [] (map part_of ps)) own all c.in_ok-held.held) behind c.in_ok-held.ensures)
