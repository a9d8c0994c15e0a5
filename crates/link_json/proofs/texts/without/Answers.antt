use Rattle.std.proofs.Common.{◌≡◌, ◌≢◌, ◌++◌, ◌∙◌, false, bytes_eq, take, drop, length, sym, ap, arith, take_all}
use Rattle.std.proofs.lemmas.Bool.{cond-true, cond-false}
use Rattle.std.proofs.lemmas.List.{take-append-le, take-append-drop}
use Rattle.std.proofs.lemmas.Slice.Eq.{bytes_eq-Decides}
use Rattle.link_json.proofs.texts.without.Goals as goal

pub returns-in-Some : goal.returns-in-Some
returns-in-Some c =
    let p = c.args.prefix.now in
    let t = c.args.text.now in
    let (n, (size, is, cut), rest, long) = c.in-Some.ensures.cases in
    let front : take (length p) t ≡ p = ap (take (length p)) is ∙ take-append-le (length p) p (drop n t) (omega arith) ∙ take_all (length p) p (omega arith) in
    rest ∙ ap (λ m. drop m t) size ∙ sym (cond-true _ _ _ ((bytes_eq-Decides _ _).1 front))

pub returns-in-None : goal.returns-in-None
returns-in-None c =
    let p = c.args.prefix.now in
    let t = c.args.text.now in
    let no : take (length p) t ≢ p = λ e. c.in-None.ensures.cases (drop (length p) t) (sym (take-append-drop (length p) t) ∙ ap (λ x. x ++ drop (length p) t) e) in
    let other : bytes_eq (take (length p) t) p ≡ false = grind (arith, bytes_eq-Decides (take (length p) t) p, no) in
    sym (cond-false _ _ _ other)
