use Rattle.link_base.proofs.Rewritings as lists
use Rattle.link_base.proofs.lists.laws.canonical_once.Goals as goal

pub returns-clause-once : goal.returns-clause-once
returns-clause-once g c =
    let law = g.met.F.Attribute.lawful in
    λ s t vs hs ht k d w u. lists.canonical_once law.reading law.holding law.writing s t vs hs ht k d w u

pub returns-clause-joined : goal.returns-clause-joined
returns-clause-joined g c = λ s t k d. lists.canonical_joined s t k d
