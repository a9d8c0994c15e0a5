use Rattle.std.proofs.Common.{◌≡◌, ◌++◌, ℕ, Bool, List, [], Option, Result, Ok, IfOk, string_bytes, sym, ap, subst, ◌∙◌}
use Rattle.std.specs.Io.KnownBytes.{Appends}
use Rattle.netlink_packet_route.specs.Report.{line}
use Rattle.show_lines.specs.declared.asking.Asked.{Asked}
use Rattle.show_lines.specs.declared.asking.Asked.TheVariants.{Messages, Attributes}
use Rattle.show_lines.specs.List.{Adds}
use Rattle.show_lines.specs.Show.{ShowsDebug, ShowsPlain, repeated}
use Rattle.show_lines.specs.Progress.{WritesAnswer}
use Rattle.link_show.proofs.MessageLines.{if_ok}
use Rattle.show_lines.proofs.debug.write_debug.Goals as goal

-- what was added to an empty string was written
pushed : {E F : Type 0} (asked : Asked) (bytes text start added words : List ℕ) (old new : Option (List ℕ)) (read : Result Bool E) (r : Result Bool F) → start ≡ [] → words ≡ added
    → IfOk read (Adds (ShowsDebug asked bytes) start added) → IfOk r (λ well. (read ≡ Ok well) × Appends old new (line (repeated text) ++ words)) → IfOk r (WritesAnswer ShowsDebug asked bytes text old new)
pushed asked bytes text start added words old new read r none same adds written =
    if_ok (λ well. (read ≡ Ok well) × Appends old new (line (repeated text) ++ words)) (WritesAnswer ShowsDebug asked bytes text old new) r
    (λ well h.
    let (out, shown, is) = subst (λ o. IfOk o (Adds (ShowsDebug asked bytes) start added)) h.0 adds in
    (words, subst (λ t. ShowsDebug asked bytes t well) (sym (same ∙ is ∙ ap (λ s. s ++ out) none)) shown, h.1))
    written

pub returns-in-Messages-clause-shown : goal.returns-in-Messages-clause-shown
returns-in-Messages-clause-shown g c =
    rw c.in-Messages.is (pushed Messages c.args.bytes.now c.args.text.now (string_bytes c.new-below.result) (string_bytes c.push_messages-read.new.text) c.as_str.result.now (g.W.Write.contents c.args.writer.now)
    (g.W.Write.contents c.write_pushed.new.writer) c.push_messages-read.result c.write_pushed.result c.new-below.ensures.bytes c.as_str.ensures.value c.push_messages-read.ensures c.write_pushed.ensures.shown)

pub returns-in-Attributes-clause-shown : goal.returns-in-Attributes-clause-shown
returns-in-Attributes-clause-shown g c =
    rw c.in-Attributes.is (pushed (Attributes c.in-Attributes.family) c.args.bytes.now c.args.text.now (string_bytes c.new-below.result) (string_bytes c.push_lists-read.new.text) c.as_str-in-Attributes.result.now
    (g.W.Write.contents c.args.writer.now) (g.W.Write.contents c.write_pushed-in-Attributes.new.writer) c.push_lists-read.result c.write_pushed-in-Attributes.result c.new-below.ensures.bytes c.as_str-in-Attributes.ensures.value
    c.push_lists-read.ensures c.write_pushed-in-Attributes.ensures.shown)

-- a check is the same in both forms
pub returns-clause-shown : goal.returns-clause-shown
returns-clause-shown g c =
    let old = g.W.Write.contents c.args.writer.now in
    let new = g.W.Write.contents c.write_plain.new.writer in
    subst (λ asked. IfOk c.write_plain.result (WritesAnswer ShowsDebug asked c.args.bytes.now c.args.text.now old new)) (sym c.in-Verdict.is)
    (subst (λ asked. IfOk c.write_plain.result (WritesAnswer (ShowsPlain c.default.result) asked c.args.bytes.now c.args.text.now old new)) c.in-Verdict.is c.write_plain.ensures.shown)
