use Rattle.std.proofs.Common.{◌≡◌, ◌+◌, ◌++◌, ◌∷◌, [], map, take, arith, string_bytes}
use Rattle.std.proofs.lemmas.Grind.{common_steps}
use Rattle.std.proofs.lemmas.List.{map-append}
use Rattle.link_messages.specs.Link.{part_of}
use Rattle.show_lines.proofs.Links.{parts_none, parts_more}
use Rattle.show_lines.proofs.parts.push_parts.Goals as goal

pub loop-part-init : goal.loop-part-init
loop-part-init c = parts_none c.args.indent.now (string_bytes c.args.text.now)

pub loop-part-preserved : goal.loop-part-preserved
loop-part-preserved c =
    let done = take c.loop-part.part-index c.args.parts.now in
    let x = c.part-item.result in
    let taken : take (c.loop-part.part-index + 1) c.args.parts.now ≡ done ++ x ∷ [] = grind (arith, common_steps) in
    rw (taken, map-append part_of done (x ∷ [])) (parts_more c.args.indent.now (map part_of done) (part_of x) (string_bytes c.args.text.now) (string_bytes c.loop-part.text) (string_bytes c.push_part.new.text) c.loop-part.whole c.in_ok-read.read
    c.loop-part.invariant c.in_ok-read.ensures)
