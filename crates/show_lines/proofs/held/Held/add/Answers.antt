use Rattle.std.proofs.Common.{◌≡◌, ◌++◌, ℕ, List, ap, ap₂, arith}
use Rattle.std.proofs.lemmas.Result.{on_ok_weaker}
use Rattle.show_lines.specs.Progress.{most_held, held_of}
use Rattle.show_lines.proofs.Cuts.{kept}
use Rattle.show_lines.proofs.held.Held.add.Goals as goal

pub returns-clause-kept : goal.returns-clause-kept
returns-clause-kept c =
    let bytes = c.self.inside.bytes in
    let new = c.extend_from_slice.new.self in
    let number = ap (λ (h : ℕ × List ℕ). h.0) c.self.view_is in
    let inside : bytes.items ≡ c.args.self.now.1 = ap (λ (h : ℕ × List ℕ). h.1) c.self.view_is in
    on_ok_weaker {P = new.items ≡ held_of (c.args.self.now.1 ++ c.args.piece.now)} c.extend_from_slice.result (ap₂ (λ n l. (n, l)) number)
    (kept c.extend_from_slice.result most_held _ c.min.result c.args.self.now.1 bytes.items c.args.piece.now c.split_at.result.0.now new.items inside (omega (arith, bytes.ok.0, c.self.invariant)) (omega (arith, bytes.ok.0, c.len-room.ensures)) c.min.ensures c.split_at.ensures.front
    c.extend_from_slice.ensures.items)
