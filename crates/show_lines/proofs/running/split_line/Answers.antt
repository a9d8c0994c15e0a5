use Rattle.std.proofs.Common.{◌∙◌, sym, rules, tests, nat_eq}
use Rattle.std.proofs.lemmas.Iterator.{YieldsList-from_slice}
use Rattle.std.proofs.lemmas.Iterator.Search.{position_from_yields_List}
use Rattle.show_lines.proofs.Cuts.{first_line}
use Rattle.show_lines.proofs.running.split_line.Goals as goal

pub returns : goal.returns
returns c =
    let found = position_from_yields_List (λ b. nat_eq b 10) _ _ c.position.result c.position.ensures.ran (YieldsList-from_slice c.args.bytes.now cc) (λ x b q k. search (rules, tests)) in
    first_line c.args.bytes.now c.split_at.result.0.now c.split_at.result.1.now c.split_at-2.result.1.now c.in_ok-end.end (sym c.in_ok-end.was ∙ found) c.split_at.ensures.front c.split_at.ensures.back c.split_at-2.ensures.back
