use Rattle.link_base.proofs.Rewritings as lists
use Rattle.link_base.proofs.lists.laws.one_rewriting.Goals as goal

pub returns-clause-at_most_one : goal.returns-clause-at_most_one
returns-clause-at_most_one g c =
    let law = g.met.F.Attribute.lawful in
    λ s t u r q. lists.one_rewriting law.reading law.holding law.writing s t u r q

pub returns-clause-second : goal.returns-clause-second
returns-clause-second g c =
    let law = g.met.F.Attribute.lawful in
    λ s t u hs r q. lists.second_own law.reading law.holding law.writing s t u hs r q

pub returns-clause-third : goal.returns-clause-third
returns-clause-third g c =
    let law = g.met.F.Attribute.lawful in
    λ s t u w hs r q p.
    lists.one_rewriting law.reading law.holding law.writing u w u p (lists.second_own law.reading law.holding law.writing s t u hs r q)
