use Rattle.std.proofs.Common.{[], length, drop, refl, sym, subst}
use Rattle.std.proofs.lemmas.Bool.{iff_false}
use Rattle.std.proofs.lemmas.List.{take_rest}
use Rattle.link_show.specs.Sink.{Gains}
use Rattle.link_show.specs.Message.{message_error_line, AreZerosAfter, zeros_line, Zeros, Broken}
use Rattle.link_show.proofs.messages.write_rest.Goals as goal

pub returns-then-are_zeros_after : goal.returns-then-are_zeros_after
returns-then-are_zeros_after g c =
    let output = g.W.Sink.output in
    let at = c.args.at in
    let same = take_rest c.args.buffer.now at in
    let zeros = subst (AreZerosAfter at) same (c.are_zeros_after.ensures.0 c.if-are_zeros_after.true) in
    let written = subst (λ r. Gains (output c.args.writer.now) (output c.write_zeros.new.writer) (zeros_line at (length r))) same c.in_ok-write_zeros.ensures in
    λ check. (zeros_line at (length (drop at c.args.buffer.now)), Zeros c.requires.0 zeros refl refl, written)

pub returns : goal.returns
returns g c =
    let at = c.args.at in
    let other = iff_false c.are_zeros_after.ensures c.if-are_zeros_after.false in
    let some = λ (zeros : AreZerosAfter at (drop at c.args.buffer.now)). other (subst (AreZerosAfter at) (sym (take_rest c.args.buffer.now at)) zeros) in
    λ check. (message_error_line [] c.args.error, Broken c.args.error c.requires.0 some c.requires.1 refl refl, c.in_ok-write_message_error.ensures)
