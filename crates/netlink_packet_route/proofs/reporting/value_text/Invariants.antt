use Rattle.std.proofs.Common.{◌≡◌, take, map, flat_map, string_bytes}
use Rattle.netlink_packet_route.specs.Report.{attr_line}
use Rattle.netlink_packet_route.proofs.reporting.value_text.Given as goal

abbrev pub invariant-loop-value : goal.invariant-loop-value
invariant-loop-value g l = string_bytes l.text ≡ flat_map attr_line (map g.F.Meaning.means (take l.value-index l.values))
