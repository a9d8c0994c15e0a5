use Rattle.std.proofs.Common.{rules, tests, not}
use Rattle.std.proofs.lemmas.Iterator.{YieldsList-from_slice}
use Rattle.std.proofs.lemmas.Iterator.Adapters.{items_from_extend}
use Rattle.std.proofs.lemmas.Iterator.Consumers.{YieldsList-from_copied, YieldsList-from_filter}
use Rattle.netlink_packet_route.specs.HexText.{is_space}
use Rattle.netlink_packet_route.proofs.hex_text.digits.Goals as goal

pub returns : goal.returns
returns c =
    let added = items_from_extend c.extend.result c.extend.ensures.ran
    (YieldsList-from_filter _ (λ b. not (is_space b)) (YieldsList-from_copied (YieldsList-from_slice c.args.text.now cc))
    c.filter.ensures.closure (λ x r q k. search (rules, tests))) in
    search rules
