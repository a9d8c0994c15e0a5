use Rattle.std.proofs.Common.{ℕ, List, ap, ap₂, subst, ◌∙◌}
use Rattle.show_lines.specs.Show.{shower_of}
use Rattle.show_lines.proofs.Pieces.{adds_none}
use Rattle.show_lines.proofs.running.end_line.Goals as goal

pub returns-in-Ok-begin_next-clause-shown : goal.returns-in-Ok-begin_next-clause-shown
returns-in-Ok-begin_next-clause-shown g c =
    let shows = shower_of g.S.ShowLines.refused g.S.ShowLines.answered c.args.shown.now in
    let shown = c.in-Ok-show_line.ensures.shown in
    let number = c.number.ensures ∙ ap (λ (h : ℕ × List ℕ). h.0) c.in-Ok.ensures.kept in
    let text = c.bytes.ensures ∙ ap (λ (h : ℕ × List ℕ). h.1) c.in-Ok.ensures.kept in
    (shown.0, subst (λ (h : ℕ × List ℕ). shows h shown.0 c.in-Ok-show_line.read) (ap₂ (λ n t. (n, t)) number text) shown.1, shown.2)

pub returns-in-Err-clause-pieces : goal.returns-in-Err-clause-pieces
returns-in-Err-clause-pieces g c = adds_none (g.W.Write.contents c.args.writer.now)
