use Rattle.std.proofs.Common.{[], ◌∷◌, refl}
use Rattle.link_messages.specs.Shown.{nest_of}
use Rattle.link_json.specs.List.{nest_json}
use Rattle.link_json.proofs.Listing.{adds_one, nest_written}
use Rattle.link_json.proofs.lists.ElementVisitorListVisitorDocument.end.Goals as goal

pub returns : goal.returns
returns c = λ a b inner begun added.
    let h = nest_of c.args.held.now in
    let new = c.end_nest.new.doc in
    (nest_json h inner ∷ [], (refl, refl), adds_one a new (nest_json h inner) (nest_written h a b c.args.writer.now new inner begun added c.in_ok-end_nest.ensures))
