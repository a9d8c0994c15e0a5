use Rattle.link_base.proofs.Rewritings as lists
use Rattle.link_base.proofs.lists.laws.canonical_reads.Goals as goal

pub returns-clause-read : goal.returns-clause-read
returns-clause-read g c =
    let law = g.met.F.Attribute.lawful in
    λ s hs k. lists.canonical_reads law.reading law.holding law.writing s hs k

pub returns-clause-fit : goal.returns-clause-fit
returns-clause-fit g c =
    let law = g.met.F.Attribute.lawful in
    λ s vs hs k w. (lists.canonical_stays law.reading law.holding law.writing s vs hs k w).1

pub returns-clause-stays : goal.returns-clause-stays
returns-clause-stays g c =
    let law = g.met.F.Attribute.lawful in
    λ s vs hs k w. (lists.canonical_stays law.reading law.holding law.writing s vs hs k w).0
