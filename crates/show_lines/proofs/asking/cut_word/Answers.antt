use Rattle.std.proofs.Common.{rules, tests}
use Rattle.std.proofs.lemmas.Iterator.{YieldsList-from_slice}
use Rattle.std.proofs.lemmas.Iterator.Search.{position_from_yields_List}
use Rattle.netlink_packet_route.specs.HexText.{is_space}
use Rattle.show_lines.proofs.Cuts.{cut_space}
use Rattle.show_lines.proofs.asking.cut_word.Goals as goal

pub returns : goal.returns
returns c =
    let found = position_from_yields_List is_space _ _ c.position.result c.position.ensures.ran (YieldsList-from_slice c.args.text.now cc) (λ x b q k. search (rules, tests)) in
    cut_space c.args.text.now c.split_at.result.0.now c.split_at.result.1.now c.position.result c.unwrap_or-end.result found c.unwrap_or-end.ensures c.split_at.ensures.front c.split_at.ensures.back
