use Rattle.std.proofs.Common.{string_bytes}
use Rattle.show_lines.specs.List.{unbroken}
use Rattle.show_lines.proofs.Unbroken.{is_unbroken, lines_none, lines_more}
use Rattle.show_lines.proofs.lists.push_values.Goals as goal

pub loop-value-init : goal.loop-value-init
loop-value-init g c = lines_none c.args.indent.now (string_bytes c.args.text.now)

pub loop-value-preserved : goal.loop-value-preserved
loop-value-preserved g c =
    lines_more c.args.indent.now (string_bytes c.args.text.now) (string_bytes c.loop-value.text) _ _ _ _ (unbroken c.as_str.result.now) c.loop-value.value-index c.loop-value.invariant c.in_ok-push_str.ensures.bytes c.in_ok-push_str-2.ensures.bytes
    c.in_ok-push_unbroken.ensures c.in_ok-push_str-3.ensures.bytes (is_unbroken c.as_str.result.now)
