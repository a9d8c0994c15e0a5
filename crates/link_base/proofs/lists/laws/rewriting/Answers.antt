use Rattle.link_base.proofs.Rewritings.{fixed_iff_canonical, never_longer, second, second_canonical, third}
use Rattle.link_base.proofs.lists.laws.rewriting.Goals as goal

pub returns : goal.returns
returns g c =
    let law = g.met.F.Attribute.lawful in
    record {
      same = fixed_iff_canonical law.reading law.holding law.writing;
      no_longer = never_longer law.reading law.holding law.writing;
      second = λ s t hs r. (_, second law.reading law.holding law.writing s t hs r, second_canonical law.reading law.holding law.writing s t hs r, third law.reading law.holding law.writing s t hs r);
    }
