use Rattle.std.proofs.Common.{rules, ◌≡◌, ◌≢◌, false, codes, Result, Ok, Err, OnOk, is_err, sym, ◌∙◌, true≢false}
use Rattle.program.specs.UntilEnd.{errno_of, left_of}
use Rattle.program.specs.Watched.{given}
use Rattle.nlshow.specs.Runs.{FromInput, FromFile, Opened, Unopened}
use Rattle.nlshow.proofs.Sources.{fresh}
use Rattle.nlshow.proofs.run_file.Goals as goal

-- what was written, if the call did not fail
unfailed : {T E P : Type 0} (r : Result T E) → is_err r ≡ false → OnOk r P → P
unfailed (Ok x) e h = h
unfailed (Err x) e h = absurd (true≢false e)

pub returns-then-eq-clause-run : goal.returns-then-eq-clause-run
returns-then-eq-clause-run g c =
    let dash : c.args.name.now ≡ codes "-" = search rules in
    let remaining = g.R.Reader.Read.remaining in
    Opened (given g.W.Write.contents c.write_name.new.writer) (left_of remaining c.new.result) (left_of remaining c.run_told.new.reader) (errno_of c.run_told.new.reader) (FromInput c.reader.result dash (fresh remaining c.new.result c.reader.result c.new.ensures.inner c.new.ensures.open))
    (unfailed c.write_name.result (sym c.is_err.ensures.value ∙ c.if-is_err.false) c.write_name.ensures) c.run_told.ensures.run c.run_told.ensures.told

pub returns-in-Ok-clause-run : goal.returns-in-Ok-clause-run
returns-in-Ok-clause-run g c =
    let other : c.args.name.now ≢ codes "-" = search rules in
    let remaining = g.R.File.Read.remaining in
    Opened (given g.W.Write.contents c.write_name.new.writer) (left_of remaining c.new-in-Ok.result) (left_of remaining c.run_told-in-Ok.new.reader) (errno_of c.run_told-in-Ok.new.reader) (FromFile c.in-Ok.file other (fresh remaining c.new-in-Ok.result c.in-Ok.file c.new-in-Ok.ensures.inner c.new-in-Ok.ensures.open))
    (unfailed c.write_name.result (sym c.is_err.ensures.value ∙ c.if-is_err.false) c.write_name.ensures) c.run_told-in-Ok.ensures.run c.run_told-in-Ok.ensures.told

pub returns-in-Err-clause-run : goal.returns-in-Err-clause-run
returns-in-Err-clause-run g c =
    let other : c.args.name.now ≢ codes "-" = search rules in
    Unopened (given g.W.Write.contents c.write_name.new.writer) c.raw_os_error.result other (unfailed c.write_name.result (sym c.is_err.ensures.value ∙ c.if-is_err.false) c.write_name.ensures) c.end_unopened-status.ensures.written c.tell_reason.ensures
