use Rattle.std.proofs.Common.{map, ap, length, List, ℕ, ◌∙◌}
use Rattle.link_base.specs.Answers.{capped}
use Rattle.link_base.proofs.Lifted.{written_same, map-lift}
use Rattle.link_base.proofs.rows.nested.nested_len.Goals as goal

pub returns : goal.returns
returns g c =
    let means = g.E.Meaning.means in
    let leaf = g.E.NestedAttribute.leaf in
    let xs = c.args.values.now in
    c.list_len.ensures ∙ ap (λ (t : List ℕ). capped (length t)) (written_same (map means xs) (map leaf xs) (map-lift means leaf g.met.E.NestedAttribute.same_means xs))
