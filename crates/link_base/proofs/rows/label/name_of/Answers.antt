use Rattle.std.proofs.Common.{◌≡◌, ◌<◌, ◌+◌, ℕ, ◌∷◌, drop, length, List, ap, sym, ◌∙◌, arith, slice_index_or}
use Rattle.std.proofs.lemmas.Bool.{cond-true, cond-false, eq-eqb, ne_eqb}
use Rattle.std.proofs.lemmas.List.{at_drop_more, drop_all}
use Rattle.link_base.specs.declared.rows.label.Name.{Name}
use Rattle.link_base.specs.Labels.{names_in, name_in}
use Rattle.link_base.proofs.rows.label.name_of.Goals as goal

-- the names from an index on start with that of the index
from : (xs : List Name) (i n : ℕ) (d : Name) → i < length xs → name_in (names_in (drop i xs)) n ≡ name_in (names_in (slice_index_or xs i d ∷ drop (i + 1) xs)) n
from xs i n d lt = at_drop_more (λ ys. name_in (names_in ys) n) xs i d lt

pub returns-then-name-number : goal.returns-then-name-number
returns-then-name-number c =
    let xs = c.args.names.now in
    let i = c.loop-name.name-index in
    sym (sym c.loop-name.invariant ∙ from xs i c.args.number _ c.loop-name-test.true ∙ cond-true _ _ _ (eq-eqb _ _ c.if-name-number.true))

pub loop-name-preserved : goal.loop-name-preserved
loop-name-preserved c =
    let xs = c.args.names.now in
    let i = c.loop-name.name-index in
    sym (from xs i c.args.number _ c.loop-name-test.true ∙ cond-false _ _ _ (ne_eqb _ _ c.if-name-number.false)) ∙ c.loop-name.invariant

pub returns : goal.returns
returns c =
    let xs = c.args.names.now in
    let i = c.loop-name.name-index in
    sym (ap (λ ys. name_in (names_in ys) c.args.number) (drop_all i xs (omega (arith, c.loop-name-test.false)))) ∙ c.loop-name.invariant
