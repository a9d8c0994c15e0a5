use Rattle.std.proofs.Common.{◌≡◌, [], ◌∷◌, length, slice_index, sym, ap, subst, ◌∙◌}
use Rattle.link_base.specs.Buffer.{payload_of}
use Rattle.link_base.specs.Labels.{label_in}
use Rattle.link_json.specs.List.{shows_leaf, state_json}
use Rattle.link_json.proofs.Loops.{on_ok}
use Rattle.link_json.proofs.Valued.{one_byte}
use Rattle.link_json.proofs.elements.write_leaf.Goals as goal

pub returns-then-is_state : goal.returns-then-is_state
returns-then-is_state c =
    let b = c.args.buffer in
    let known = c.args.known.now in
    let p = slice_index c.value.result.now 0 ∷ [] in
    let byte : p ≡ payload_of b = one_byte c.value.result.now (ap length c.value.ensures ∙ c.requires c.if-is_state.true) ∙ c.value.ensures in
    on_ok c.write_state.result
    (λ e. (state_json p, subst (λ state. shows_leaf state (label_in known.label) b known.content (state_json p)) (sym c.if-is_state.true) (ap state_json byte), e))
    c.write_state.ensures
