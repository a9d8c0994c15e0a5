use Rattle.std.proofs.Common.{map, ◌∙◌, ap, sym}
use Rattle.link_base.specs.Table.{cut}
use Rattle.link_base.proofs.Readings.{one_values}
use Rattle.link_base.proofs.Rewritings as lists
use Rattle.link_base.proofs.lists.laws.second_equal.Goals as goal

pub returns : goal.returns
returns g c =
    let law = g.met.F.Attribute.lawful in
    λ s t u s2 t2 u2 vs ws hs hs2 w r r2 w2 q q2.
    let iff = lists.second_equal law.reading law.holding law.writing s t u s2 t2 u2 hs hs2 r r2 q q2 in
    let a = ap (map cut) (one_values law.reading s r.values vs r.wire w) in
    let b = ap (map cut) (one_values law.reading s2 q.values ws q.wire w2) in
    (λ e. sym a ∙ iff.0 e ∙ b, λ e. iff.1 (a ∙ e ∙ sym b))
