use Rattle.std.proofs.lemmas.Bool.{cond-false, ne_eqb}
use Rattle.link_show.specs.Gained.{then_all}
use Rattle.link_show.proofs.attributes.write_type_flags.Goals as goal

pub returns : goal.returns
returns g c = then_all _ _ _ _ _ _ _ c.in_ok-put.ensures c.write_flags.ensures (cond-false _ _ _ (ne_eqb _ _ c.if-flags-eq0.false))
