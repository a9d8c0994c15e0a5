use Rattle.std.proofs.Common.{rules, ◌≡◌, ◌≢◌, subst}
use Rattle.std.specs.Prelude.{codes}
use Rattle.show_lines.specs.Show.{IsCut, First, Second}
use Rattle.show_lines.proofs.asking.Asked.from_line.Goals as goal

pub returns-in-None : goal.returns-in-None
returns-in-None c =
    let rest = c.cut_word.result.1.now in
    let word : c.cut_word.result.0.now ≡ codes "check" = search rules in
    Second c.cut_word-then-eq-2.result.0.now c.cut_word-then-eq-2.result.1.now
    (record {
      behind = rest;
      second = c.without_space.result.now;
      first = subst (λ w. IsCut c.args.text.now w rest) word c.cut_word.ensures;
      apart = c.without_space.ensures;
      cut = c.cut_word-then-eq-2.ensures;
    })
    c.in-None.ensures.none

pub returns-in-None-family_of : goal.returns-in-None-family_of
returns-in-None-family_of c =
    let no_message : c.cut_word.result.0.now ≢ codes "message" = search rules in
    let no_check : c.cut_word.result.0.now ≢ codes "check" = search rules in
    First c.cut_word.result.0.now c.cut_word.result.1.now c.cut_word.ensures no_message no_check c.in-None-family_of.ensures.none
