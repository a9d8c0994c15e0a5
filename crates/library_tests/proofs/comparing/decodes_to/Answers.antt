use Rattle.std.proofs.Common.{subst, sym, ◌∙◌}
use Rattle.link_base.specs.Equality.{each}
use Rattle.link_base.specs.Table.{Gives}
use Rattle.link_base.specs.Wire.{Wire}
use Rattle.library_tests.proofs.comparing.decodes_to.Goals as goal

-- equal values have the same meaning
pub returns-in-Ok : goal.returns-in-Ok
returns-in-Ok g c = λ e. subst (Wire (Gives g.F.Meaning.table) c.args.bytes.now)
    (each {eq = g.F.PartialEq.eq} {means = g.F.Meaning.means} (record { same = λ a b is. c.equality.ensures.same a b is }) c.in-Ok.values.items c.args.wanted.now
    (rw c.as_slice.ensures.value at (sym c.eq.ensures ∙ e)))
    c.in-Ok.ensures.answer
