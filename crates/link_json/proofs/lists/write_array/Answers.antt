use Rattle.std.proofs.Common.{subst}
use Rattle.link_messages.specs.Held.{levels}
use Rattle.link_messages.specs.Shown.{Added, Shows}
use Rattle.link_json.specs.List.{elements, ShowsList, Adds}
use Rattle.link_json.proofs.Listing.{array_shown}
use Rattle.link_json.proofs.lists.write_array.Goals as goal

pub returns : goal.returns
returns c =
    let list = c.args.list in
    let a = c.begin_array.new.self in
    let b = c.visit_list.new.writer in
    let well = c.in_ok-well.well in
    let written = subst (λ x. Added Adds (Shows elements levels x 0 c.args.family (list.at, list.bytes.now)) a b well) c.of_message-context.ensures c.in_ok-well.ensures in
    array_shown (ShowsList c.args.address_family c.args.family list.at list.bytes.now) c.args.doc.now a b c.end_array.new.self well c.in_ok-begin_array.ensures written c.in_ok-end_array.ensures
