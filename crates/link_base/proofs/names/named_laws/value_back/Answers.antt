use Rattle.link_base.proofs.Naming as naming
use Rattle.link_base.proofs.names.named_laws.value_back.Goals as goal

pub returns : goal.returns
returns g c =
    let t = g.T.NamedNumber in
    let laws = g.met.T.NamedNumber in
    record {
      seen = λ v. naming.value_back t.names t.seen laws.cases_hold laws.other_holds v (laws.no_more v);
      canon = λ v n. naming.canon_back t.names t.seen laws.cases_hold laws.other_holds v n (laws.no_more v);
    }
