use Rattle.std.proofs.Common.{rules, tests, not, take, drop, ℕ, ap, sym, ◌∙◌}
use Rattle.std.proofs.lemmas.Iterator.{YieldsList-from_slice}
use Rattle.std.proofs.lemmas.Iterator.Search.{position_from_yields_List}
use Rattle.std.proofs.lemmas.List.{length-drop}
use Rattle.std.proofs.Math.Seq.{take-length}
use Rattle.netlink_packet_route.specs.HexText.{is_space}
use Rattle.show_lines.proofs.Cuts.{skip_space}
use Rattle.show_lines.proofs.asking.without_space.Goals as goal

pub returns : goal.returns
returns c =
    let text = c.args.text.now in
    let start = c.unwrap_or-start.result in
    let found = position_from_yields_List (λ b. not (is_space b)) _ _ c.position.result c.position.ensures.ran (YieldsList-from_slice text cc) (λ x b q k. search (rules, tests)) in
    let behind = ap (λ (n : ℕ). take n (drop start text)) (sym (length-drop start text)) ∙ take-length (drop start text) in
    skip_space text _ c.position.result start found c.unwrap_or-start.ensures behind
