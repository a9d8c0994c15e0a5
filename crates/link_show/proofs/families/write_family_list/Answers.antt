use Rattle.std.proofs.Common.{[], true, refl, sym, subst}
use Rattle.std.proofs.lemmas.Bool.{not-true, not-false}
use Rattle.std.proofs.lemmas.List.{append-nil}
use Rattle.netlink_packet_route.specs.Family.{table_of}
use Rattle.link_messages.specs.Held.{context_of}
use Rattle.link_show.specs.Gained.{gains_nothing}
use Rattle.link_show.specs.List.{Writes, ShowsVerdict, Unasked}
use Rattle.link_show.proofs.HeldLines.{judged}
use Rattle.link_show.proofs.Listing.{and_true}
use Rattle.link_show.proofs.families.write_family_list.Goals as goal

pub returns-then-not-options : goal.returns-then-not-options
returns-then-not-options g c =
    let list = c.args.list in
    let new = g.W.Sink.output c.write_set.new.writer in
    let unasked = Unasked (not-true c.args.options.check c.if-not-options.true) refl refl in
    rw and_true at (judged c.args.options (context_of 0) _ c.args.indent.now list.at c.args.family list.bytes.now (g.W.Sink.output c.args.writer.now) new new c.in_ok-whole.whole true
    (append-nil c.args.indent.now) c.in_ok-whole.ensures ([], unasked, gains_nothing new))

pub returns : goal.returns
returns g c =
    let list = c.args.list in
    let mid = g.W.Sink.output c.write_set.new.writer in
    let new = g.W.Sink.output c.write_verdict.new.writer in
    let well = c.in_ok-canonical.canonical in
    let asked = sym (not-false c.args.options.check c.if-not-options.false) in
    let verdict = subst (λ k. Writes (ShowsVerdict k c.args.indent.now list.at (table_of c.args.family) list.bytes.now) mid new well) asked c.in_ok-canonical.ensures in
    judged c.args.options (context_of 0) _ c.args.indent.now list.at c.args.family list.bytes.now (g.W.Sink.output c.args.writer.now) mid new c.in_ok-whole.whole well
    (append-nil c.args.indent.now) c.in_ok-whole.ensures verdict
