use Rattle.std.proofs.Common.{[], ◌∷◌, refl, subst}
use Rattle.link_base.specs.Labels.{label_in}
use Rattle.link_show.proofs.HeldLines.{state_long}
use Rattle.link_show.specs.Held.{is_state}
use Rattle.link_json.specs.List.{shows_leaf}
use Rattle.link_json.proofs.Listing.{adds_one}
use Rattle.link_json.proofs.Loops.{on_ok}
use Rattle.link_json.proofs.lists.ElementVisitorListVisitorDocument.leaf.Goals as goal

pub write_leaf-requires : goal.write_leaf-requires
write_leaf-requires c = state_long c.args.context.now c.args.family c.args.list c.args.buffer c.is_state-state.result c.is_state-state.ensures

pub returns : goal.returns
returns c =
    let b = c.args.buffer in
    let known = c.args.known.now in
    on_ok c.write_leaf.result
    (λ (j, shown, written). (
      j ∷ [],
      (j, subst (λ l. shows_leaf (is_state c.args.context.now c.args.family c.args.list b) l b known.content j) c.requires.known.label (subst (λ s. shows_leaf s (label_in known.label) b known.content j) c.is_state-state.ensures shown), refl),
      adds_one c.args.writer.now c.write_leaf.new.doc j written,
    )) c.write_leaf.ensures
