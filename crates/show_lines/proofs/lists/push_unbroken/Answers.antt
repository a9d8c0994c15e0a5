use Rattle.std.proofs.Common.{string_bytes, arith, rules}
use Rattle.show_lines.proofs.Unbroken.{front_added, rest_added}
use Rattle.show_lines.proofs.lists.push_unbroken.Goals as goal

pub loop-line-preserved : goal.loop-line-preserved
loop-line-preserved c =
    let rest = c.loop-line.rest.now in
    let line = c.in-Some.line.now in
    let after = c.in-Some.after.now in
    let cut = c.in-Some.ensures.byte (omega arith) (λ w o f. f) in (
      search rules,
      front_added (string_bytes c.args.text.now) c.args.words.now (string_bytes c.loop-line.text) rest line after (string_bytes c.push_str.new.self) (string_bytes c.push_str-in-Some.new.self) c.loop-line.invariant.1
          cut.2 cut.0 cut.1 c.in_ok-push_str.ensures.bytes c.in_ok-push_str-2.ensures.bytes,
    )

pub returns : goal.returns
returns c =
    let rest = c.loop-line.rest.now in
    let none = c.in_default.ensures.byte (omega arith) (λ w o f. f) in
    rest_added c.push_str-2.result (string_bytes c.args.text.now) c.args.words.now (string_bytes c.loop-line.text) rest (string_bytes c.push_str-2.new.self) c.loop-line.invariant.1 none c.push_str-2.ensures.bytes
