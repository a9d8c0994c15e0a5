use Rattle.std.proofs.Common.{◌≡◌, ℕ, Bool, [], Some, Ok, Err, if◌then◌else◌, sym, ap, subst, ◌∙◌}
use Rattle.std.specs.Io.Buffered.{writer_contents}
use Rattle.std.specs.Io.KnownBytes.{Appends}
use Rattle.show_lines.specs.Pieces.{AddsPieces}
use Rattle.show_captures.specs.Run.{RunsFrom, RunsFor, input_form}
use Rattle.show_captures.specs.Shower.{shower_of}
use Rattle.show_lines.proofs.Pieces.{adds_more, kept_adds}
use Rattle.show_captures.proofs.KnownForm.{runs_on, runs_out, runs_other, status_ok, status_other, status_written}
use Rattle.std.specs.Io.KnownBytes.{Keeps}
use Rattle.show_lines.proofs.Pieces.{adds_none, if_written}
use Rattle.show_captures.proofs.running.show_input.Goals as goal

pub returns-then-first-clause-shown : goal.returns-then-first-clause-shown
returns-then-first-clause-shown g c =
    let contents = writer_contents g.W.Write.contents in
    let shower = shower_of g.S.ShowLines.refused g.S.ShowLines.answered g.S.ShowUnits.units c.args.shown.now in
    let bytes = c.in-Ok-read_first.first.bytes.items in
    let form = c.in-Ok-form_of.form in
    let r = g.R.Read.remaining c.args.reader.now in
    let s = g.R.Read.remaining c.read_first.new.reader in
    let w = contents c.args.writer.now in
    let v = contents c.read_first.new.writer in
    let u = contents c.show_from.new.writer in
    let same = c.as_slice-bytes.ensures.value in
    let is : input_form c.args.raw bytes ≡ Ok form = sym (ap (input_form c.args.raw) same) ∙ (sym c.form_of.ensures ∙ c.in-Ok-form_of.is) in
    status_ok (λ whole. if whole then 0 else 1) (RunsFrom shower form c.as_slice-bytes.result.now (Some []) (Some []) v u) (RunsFor shower c.args.raw r s w u) c.show_from.result c.status_of.result c.status_of.ensures
    (λ whole h. runs_out {shower = shower} c.args.raw form bytes r s (Some []) w v u whole is c.in-Ok-read_first.ensures.read (c.in-Ok-read_first.ensures.last c.if-first.true) c.in-Ok-read_first.ensures.kept
    (subst (λ l. RunsFrom shower form l (Some []) (Some []) v u whole) same h)) c.show_from.ensures.shown

pub returns-then-first-clause-pieces : goal.returns-then-first-clause-pieces
returns-then-first-clause-pieces g c =
    let contents = writer_contents g.W.Write.contents in
    status_written {X = Bool} (λ whole. if whole then 0 else 1) (AddsPieces (g.S.ShowLines.piece c.args.shown.now) (contents c.read_first.new.writer) (contents c.show_from.new.writer)) (AddsPieces (g.S.ShowLines.piece c.args.shown.now) (contents c.args.writer.now) (contents c.show_from.new.writer)) c.show_from.result c.status_of.result c.status_of.ensures
    (adds_more (contents c.args.writer.now) (contents c.read_first.new.writer) (contents c.show_from.new.writer) (kept_adds (contents c.args.writer.now) (contents c.read_first.new.writer) c.in-Ok-read_first.ensures.kept)) c.show_from.ensures.pieces

pub returns-clause-shown : goal.returns-clause-shown
returns-clause-shown g c =
    let contents = writer_contents g.W.Write.contents in
    let shower = shower_of g.S.ShowLines.refused g.S.ShowLines.answered g.S.ShowUnits.units c.args.shown.now in
    let bytes = c.in-Ok-read_first.first.bytes.items in
    let form = c.in-Ok-form_of.form in
    let r = g.R.Read.remaining c.args.reader.now in
    let s = g.R.Read.remaining c.read_first.new.reader in
    let t = g.R.Read.remaining c.show_from-2.new.reader in
    let w = contents c.args.writer.now in
    let v = contents c.read_first.new.writer in
    let u = contents c.show_from-2.new.writer in
    let same = c.as_slice-bytes.ensures.value in
    let is : input_form c.args.raw bytes ≡ Ok form = sym (ap (input_form c.args.raw) same) ∙ (sym c.form_of.ensures ∙ c.in-Ok-form_of.is) in
    status_ok (λ whole. if whole then 0 else 1) (RunsFrom shower form c.as_slice-bytes.result.now s t v u) (RunsFor shower c.args.raw r t w u) c.show_from-2.result c.status_of-2.result c.status_of-2.ensures
    (λ whole h. runs_on {shower = shower} c.args.raw form bytes r s t w v u whole is c.in-Ok-read_first.ensures.read c.in-Ok-read_first.ensures.kept (c.in-Ok-read_first.ensures.known c.if-first.false)
    (subst (λ l. RunsFrom shower form l s t v u whole) same h)) c.show_from-2.ensures.shown

pub returns-clause-pieces : goal.returns-clause-pieces
returns-clause-pieces g c =
    let contents = writer_contents g.W.Write.contents in
    status_written {X = Bool} (λ whole. if whole then 0 else 1) (AddsPieces (g.S.ShowLines.piece c.args.shown.now) (contents c.read_first.new.writer) (contents c.show_from-2.new.writer)) (AddsPieces (g.S.ShowLines.piece c.args.shown.now) (contents c.args.writer.now) (contents c.show_from-2.new.writer)) c.show_from-2.result c.status_of-2.result c.status_of-2.ensures
    (adds_more (contents c.args.writer.now) (contents c.read_first.new.writer) (contents c.show_from-2.new.writer) (kept_adds (contents c.args.writer.now) (contents c.read_first.new.writer) c.in-Ok-read_first.ensures.kept)) c.show_from-2.ensures.pieces

pub returns-in-Err-form_of-clause-shown : goal.returns-in-Err-form_of-clause-shown
returns-in-Err-form_of-clause-shown g c =
    let contents = writer_contents g.W.Write.contents in
    let shower = shower_of g.S.ShowLines.refused g.S.ShowLines.answered g.S.ShowUnits.units c.args.shown.now in
    let first = c.in-Ok-read_first.first in
    let format = c.in-Err-form_of.format in
    let r = g.R.Read.remaining c.args.reader.now in
    let s = g.R.Read.remaining c.read_first.new.reader in
    let w = contents c.args.writer.now in
    let v = contents c.read_first.new.writer in
    let u = contents c.show_format.new.writer in
    let is : input_form c.args.raw first.bytes.items ≡ Err format = sym (ap (input_form c.args.raw) c.as_slice-bytes.ensures.value) ∙ (sym c.form_of.ensures ∙ c.in-Err-form_of.is) in
    status_other 2 (Appends v u (shower.units.formats format)) (RunsFor shower c.args.raw r s w u) c.show_format.result c.status_of_other.result c.status_of_other.ensures
    (λ written. runs_other {shower = shower} c.args.raw first.is_last format first.bytes.items r s w v u is c.in-Ok-read_first.ensures.read c.in-Ok-read_first.ensures.last c.in-Ok-read_first.ensures.known c.in-Ok-read_first.ensures.kept written) c.show_format.ensures.shown

pub returns-in-Err-form_of-clause-pieces : goal.returns-in-Err-form_of-clause-pieces
returns-in-Err-form_of-clause-pieces g c =
    let contents = writer_contents g.W.Write.contents in
    status_written (λ _. 2) (AddsPieces (g.S.ShowLines.piece c.args.shown.now) (contents c.read_first.new.writer) (contents c.show_format.new.writer)) (AddsPieces (g.S.ShowLines.piece c.args.shown.now) (contents c.args.writer.now) (contents c.show_format.new.writer)) c.show_format.result c.status_of_other.result c.status_of_other.ensures
    (adds_more (contents c.args.writer.now) (contents c.read_first.new.writer) (contents c.show_format.new.writer) (kept_adds (contents c.args.writer.now) (contents c.read_first.new.writer) c.in-Ok-read_first.ensures.kept)) c.show_format.ensures.pieces

pub returns-in-Err-clause-pieces : goal.returns-in-Err-clause-pieces
returns-in-Err-clause-pieces g c = adds_none (writer_contents g.W.Write.contents c.args.writer.now)

pub returns-in-Err-read_first-clause-pieces : goal.returns-in-Err-read_first-clause-pieces
returns-in-Err-read_first-clause-pieces g c =
    let w = writer_contents g.W.Write.contents c.args.writer.now in
    let v = writer_contents g.W.Write.contents c.read_first.new.writer in if_written {X = ℕ} (Keeps w v) (AddsPieces (g.S.ShowLines.piece c.args.shown.now) w v) (Err c.in-Err-read_first.stop) (kept_adds w v) c.in-Err-read_first.ensures.kept
