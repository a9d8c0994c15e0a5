use Rattle.std.proofs.Common.{map, ap, length, drop, List, ℕ, ◌∙◌, ◌≡◌, ◌++◌, [], arith}
use Rattle.std.proofs.lemmas.List.{append-nil, nil_from_length, length-drop}
use Rattle.link_base.specs.Table.{written_list}
use Rattle.link_base.proofs.Lifted.{written_same, map-lift, each_fits, all_in_range}
use Rattle.link_base.proofs.rows.nested.emit_nested.Goals as goal

pub emit_list-requires-clause-fits : goal.emit_list-requires-clause-fits
emit_list-requires-clause-fits g c =
    let means = g.E.Meaning.means in
    let xs = c.args.values.now in
    let same = written_same (map means xs) (map g.E.NestedAttribute.leaf xs) (map-lift means g.E.NestedAttribute.leaf g.met.E.NestedAttribute.same_means xs) in
    each_fits (map means xs) (omega (arith, ap length same, c.requires.fits))

pub emit_list-requires-clause-room : goal.emit_list-requires-clause-room
emit_list-requires-clause-room g c =
    let means = g.E.Meaning.means in
    let xs = c.args.values.now in
    let same = written_same (map means xs) (map g.E.NestedAttribute.leaf xs) (map-lift means g.E.NestedAttribute.leaf g.met.E.NestedAttribute.same_means xs) in
    omega (arith, ap length same, c.requires.exact)

pub returns-clause-written : goal.returns-clause-written
returns-clause-written g c =
    let means = g.E.Meaning.means in
    let xs = c.args.values.now in
    let all = written_list (map means xs) in
    let old = c.args.buffer.now in
    let same = written_same (map means xs) (map g.E.NestedAttribute.leaf xs) (map-lift means g.E.NestedAttribute.leaf g.met.E.NestedAttribute.same_means xs) in
    let none : drop (length all) old ≡ [] = nil_from_length (drop (length all) old) (omega (arith, length-drop (length all) old, ap length same, c.requires.exact)) in
    c.emit_list.ensures.written ∙ ap (λ (t : List ℕ). all ++ t) none ∙ append-nil all ∙ same

pub returns-clause-in_range : goal.returns-clause-in_range
returns-clause-in_range g c =
    let means = g.E.Meaning.means in
    let leaf = g.E.NestedAttribute.leaf in
    let xs = c.args.values.now in
    all_in_range g.E.Meaning.table g.E.NestedAttribute.rows (map means xs) (map leaf xs) g.met.E.NestedAttribute.same_table (map-lift means leaf g.met.E.NestedAttribute.same_means xs) c.emit_list.ensures.in_range
