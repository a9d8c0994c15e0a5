use Rattle.std.proofs.Common.{◌≡◌, ℕ, suc, ◌+◌, ◌-◌, Bool, false, List, length, Some, Result, Ok, Err, IsErr, refl, sym, ap, subst, ◌∙◌, codes}
use Rattle.std.proofs.lemmas.Result.{IfOk-from_err}
use Rattle.hex.specs.declared.error.FromHexError.{FromHexError}
use Rattle.std.specs.Io.KnownBytes.{Appends}
use Rattle.show_lines.specs.declared.asking.Asked.{Asked}
use Rattle.show_lines.specs.Digits.{bad_column, bad_hex}
use Rattle.show_lines.specs.Show.{Refused, Answered, ShowsDigits, shower_of, Known, Unknown}
use Rattle.show_lines.specs.Progress.{WritesLine}
use Rattle.link_show.proofs.MessageLines.{if_ok}
use Rattle.show_lines.proofs.Pieces.{adds_none}
use Rattle.show_lines.proofs.showing.show_asked.Goals as goal

-- digits that are not valid hex
bad_digits : (refused : Refused) (answered : Answered) (x : ℕ × List ℕ) (asked : Asked) (column : ℕ) (r : Result (List ℕ) FromHexError) (out : List ℕ) (read : Bool) → IsErr r → out ≡ refused x.0 (Some x.1) (bad_hex column) → read ≡ false
    → ShowsDigits refused answered x asked column r out read
bad_digits refused answered x asked column (Ok s) out read bad o e = IfOk-from_err {E = FromHexError} (Ok s) (λ t. ShowsDigits refused answered x asked column (Ok t) out read) bad
bad_digits refused answered x asked column (Err f) out read bad o e = (o, e)

pub returns-in-None-clause-shown : goal.returns-in-None-clause-shown
returns-in-None-clause-shown g c =
    let x : ℕ × List ℕ = (c.args.number, c.args.text.now) in
    let shows = shower_of g.S.ShowLines.refused g.S.ShowLines.answered c.args.shown.now in
    let out = g.S.ShowLines.refused c.args.shown.now x.0 (Some x.1) (codes "no such family") in
    let old = g.W.Write.contents c.args.writer.now in
    let new = g.W.Write.contents c.refuse.new.writer in
    if_ok (λ well. Appends old new out × (well ≡ false)) (WritesLine shows x old new) c.refuse.result (λ well h. (out, Unknown c.requires.short c.requires.asks c.in-None.ensures refl h.1, h.0)) c.refuse.ensures.shown

pub returns-in-Ok-clause-shown : goal.returns-in-Ok-clause-shown
returns-in-Ok-clause-shown g c =
    let x : ℕ × List ℕ = (c.args.number, c.args.text.now) in
    let refused = g.S.ShowLines.refused c.args.shown.now in
    let answered = g.S.ShowLines.answered c.args.shown.now in
    let shows = shower_of g.S.ShowLines.refused g.S.ShowLines.answered c.args.shown.now in
    let asked = c.in-Some.found.0 in
    let old = g.W.Write.contents c.args.writer.now in
    let new = g.W.Write.contents c.answer.new.writer in
    if_ok (λ well. (out : List ℕ) × answered x asked c.deref.result.now out well × Appends old new out) (WritesLine shows x old new) c.answer.result
    (λ well (out, shown, written). let said = subst (λ s. answered x asked s out well) c.deref.ensures.value shown in
    (out, Known c.requires.short c.requires.asks asked c.in-Some.found.1.now c.in-Some.ensures (subst (λ r. ShowsDigits refused answered x asked (bad_column x.1 c.in-Some.found.1.now) r out well) (sym c.in-Ok.ensures) said), written))
    c.answer.ensures.shown

pub returns-in-Err-BadHex-clause-shown : goal.returns-in-Err-BadHex-clause-shown
returns-in-Err-BadHex-clause-shown g c =
    let x : ℕ × List ℕ = (c.args.number, c.args.text.now) in
    let refused = g.S.ShowLines.refused c.args.shown.now in
    let answered = g.S.ShowLines.answered c.args.shown.now in
    let shows = shower_of g.S.ShowLines.refused g.S.ShowLines.answered c.args.shown.now in
    let asked = c.in-Some.found.0 in
    let rest = c.in-Some.found.1.now in
    let out = refused x.0 (Some x.1) (bad_hex c.column_of-column.result) in
    let old = g.W.Write.contents c.args.writer.now in
    let new = g.W.Write.contents c.refuse_hex.new.writer in
    let bad = rw c.in-Err-BadHex.field-0-is at c.in-Err-BadHex.ensures in
    let counted = rw c.in-Err-BadHex.field-0-is at c.column_of-column.ensures in
    let is : c.column_of-column.result ≡ bad_column x.1 rest = counted ∙ ap (λ at. suc (length x.1 - length rest + at)) bad.1 in
    if_ok (λ well. Appends old new out × (well ≡ false)) (WritesLine shows x old new) c.refuse_hex.result
    (λ well h. (out, Known c.requires.short c.requires.asks asked rest c.in-Some.ensures (bad_digits refused answered x asked (bad_column x.1 rest) _ out well bad.0 (ap (λ n. refused x.0 (Some x.1) (bad_hex n)) is) h.1), h.0)) c.refuse_hex.ensures.shown

pub returns-in-Err-Memory-clause-pieces : goal.returns-in-Err-Memory-clause-pieces
returns-in-Err-Memory-clause-pieces g c = adds_none (g.W.Write.contents c.args.writer.now)
