use Rattle.std.proofs.Common.{rules, ◌≡◌, ℕ, Bool, false, List, Some, IfOk, subst}
use Rattle.std.specs.Io.KnownBytes.{Appends}
use Rattle.show_lines.specs.Digits.{bad_hex}
use Rattle.show_lines.proofs.Pieces.{adds_none}
use Rattle.show_lines.proofs.showing.refuse_hex.Goals as goal

pub returns-in_default-clause-pieces : goal.returns-in_default-clause-pieces
returns-in_default-clause-pieces g c = adds_none (g.W.Write.contents c.args.writer.now)

pub returns-clause-shown : goal.returns-clause-shown
returns-clause-shown g c =
    let is : c.as_str.result.now ≡ bad_hex c.args.column = search rules in
    let P : List ℕ → Type 0 = λ reason. IfOk c.refuse.result (λ well. Appends (g.W.Write.contents c.args.writer.now) (g.W.Write.contents c.refuse.new.writer) (g.S.ShowLines.refused c.args.shown.now c.args.number (Some c.args.text.now) reason) × (well ≡ false)) in
    subst P is c.refuse.ensures.shown
