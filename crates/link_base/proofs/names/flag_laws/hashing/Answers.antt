use Rattle.std.proofs.Common.{◌∙◌}
use Rattle.std.proofs.lemmas.Bool.{eq-eqb}
use Rattle.link_base.proofs.names.flag_laws.hashing.Goals as goal

pub returns : goal.returns
returns g c = λ a b same. g.met.F.Hash.respects_eq a b (g.met.F.FlagSet.equal_by_bits a b ∙ eq-eqb _ _ same)
