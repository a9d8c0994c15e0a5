use Rattle.std.proofs.Common.{ℕ, List, inr, refl, ap, ap₂, length, subst, sym, ◌∙◌}
use Rattle.std.proofs.lemmas.Bool.{eqb-false}
use Rattle.show_lines.specs.Show.{shower_of}
use Rattle.show_lines.proofs.Pieces.{adds_none}
use Rattle.show_lines.proofs.running.end_text.Goals as goal

pub returns-in-Ok-clause-shown : goal.returns-in-Ok-clause-shown
returns-in-Ok-clause-shown g c =
    let shown = c.in-Ok.ensures.shown in
    let text = c.bytes-text.result.now in
    let same = c.bytes-text.ensures in
    let shows = shower_of g.S.ShowLines.refused g.S.ShowLines.answered c.args.shown.now in
    inr (
      λ empty. eqb-false (length text) 0 (sym c.is_empty.ensures ∙ c.if-is_empty.false) (ap length (same ∙ empty)),
      (c.in-Ok.read, (shown.0, subst (λ (h : ℕ × List ℕ). shows h shown.0 c.in-Ok.read) (ap₂ (λ n t. (n, t)) c.number.ensures same) shown.1, shown.2), refl),
    )

pub returns-then-is_empty-clause-pieces : goal.returns-then-is_empty-clause-pieces
returns-then-is_empty-clause-pieces g c = adds_none (g.W.Write.contents c.args.writer.now)
