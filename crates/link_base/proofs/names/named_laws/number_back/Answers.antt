use Rattle.link_base.proofs.Naming as naming
use Rattle.link_base.proofs.names.named_laws.number_back.Goals as goal

pub returns : goal.returns
returns g c =
    let t = g.T.NamedNumber in
    let laws = g.met.T.NamedNumber in
    record {
      number = naming.number_back t.names t.seen laws.cases_hold laws.other_holds;
      seen = naming.seen_back t.names t.seen laws.cases_hold laws.other_holds;
    }
