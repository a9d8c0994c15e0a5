use Rattle.std.proofs.Common.{◌≡◌, ◌++◌, ◌∷◌, [], ◌∙◌, refl, sym, ap, ap₂, arith}
use Rattle.link_base.specs.Number.{number}
use Rattle.link_show.specs.Flags.{enum_text}
use Rattle.link_show.specs.Gained.{then_all}
use Rattle.link_show.specs.Held.{state_names}
use Rattle.link_show.proofs.held.write_state.Goals as goal

pub returns : goal.returns
unfolding state_names
returns g c =
    let one : c.args.state ≡ number (c.args.state ∷ []) = omega arith in
    let same = ap (λ t. t ++ 10 ∷ []) (sym (ap₂ enum_text c.names.ensures (c.into.ensures ∙ one))) in
    then_all _ _ _ _ _ _ _ c.in_ok-write_indent.ensures
    (then_all _ _ _ _ _ _ _ c.in_ok-put.ensures (then_all _ _ _ _ _ _ _ c.in_ok-write_enum.ensures c.put-2.ensures same) refl) refl
