use Rattle.std.proofs.Common.{◌+◌, ◌++◌, replicate, refl}
use Rattle.link_messages.specs.Shown.{nest_of}
use Rattle.link_show.specs.Held.{indent_in, ShowsJudgement}
use Rattle.link_show.proofs.HeldLines.{unasked, around_plain, around_judged}
use Rattle.link_show.proofs.held.LineVisitorListVisitor.end.Goals as goal

pub returns-then-not-self : goal.returns-then-not-self
returns-then-not-self g c = λ a b inner begun added.
    let output = g.W.Sink.output in
    let v = c.args.self.now in
    let h = nest_of c.args.held.now in
    let indent = v.text.now ++ replicate v.spaces 32 in
    around_plain v.options indent c.args.level h inner c.args.whole (output a) (output b) begun (output c.args.writer.now)
    (unasked v.options.check (indent_in indent (c.args.level + 1)) h.set h.list c.if-not-self.true) added

pub returns-in_ok-canonical-in-Some : goal.returns-in_ok-canonical-in-Some
returns-in_ok-canonical-in-Some g c = λ a b inner begun added.
    let output = g.W.Sink.output in
    let v = c.args.self.now in
    let h = nest_of c.args.held.now in
    let indent = v.text.now ++ replicate v.spaces 32 in
    let here = indent_in indent (c.args.level + 1) in
    let (verdict, of, written) = c.in_ok-canonical-in-Some.ensures in
    let well = c.in_ok-canonical-in-Some.canonical in
    let judged : ShowsJudgement v.options.check here h.set h.list verdict well = rw (c.if-not-self.false, c.in-Some.is) (rw c.indent.ensures at of) in
    around_judged v.options indent c.args.level h inner c.args.whole (output a) (output b) begun (output c.args.writer.now)
    (output c.write_judgement.new.writer) verdict well judged added written

pub returns-in-None : goal.returns-in-None
returns-in-None g c = λ a b inner begun added.
    let output = g.W.Sink.output in
    let v = c.args.self.now in
    let h = nest_of c.args.held.now in
    let indent = v.text.now ++ replicate v.spaces 32 in
    around_plain v.options indent c.args.level h inner c.args.whole (output a) (output b) begun (output c.args.writer.now)
    (rw c.in-None.is (refl, refl)) added
