use Rattle.std.proofs.Common.{rules, ℕ, Bool, ◌≡◌, ◌<◌, ◌+◌, ◌++◌, ◌∷◌, [], true, false, true≢false, List, Option, None, map, take, drop, string_bytes, refl, sym, subst, ◌∙◌, arith}
use Rattle.std.proofs.lemmas.Grind.{common_steps}
use Rattle.std.specs.Io.Buffered.{writer_buffer, writer_inner}
use Rattle.program.specs.Told.{told}
use Rattle.program.specs.UntilEnd.{errno_of, left_of}
use Rattle.program.specs.Watched.{given, has_failed, passed_on}
use Rattle.nlshow.specs.Runs.{NoFile, OneMore, IsSource, RunsFile, RunsFiles, RunsOn, goes_on}
use Rattle.nlshow.proofs.Greatest.{greatest, one_name, all_names, no_others}
use Rattle.nlshow.proofs.Sources.{fresh, nothing_kept, unfailed}
use Rattle.nlshow.proofs.run_task.Goals as goal

pub returns-then-is_empty-clause-input : goal.returns-then-is_empty-clause-input
returns-then-is_empty-clause-input g c none =
    let remaining = g.R.Reader.Read.remaining in
    let P : Option (List ℕ) → Type 0 = λ left. RunsOn c.args.task.now.output None c.args.task.now.raw left (left_of remaining c.run_told.new.reader) (given g.W.Write.contents c.args.writer.now) (passed_on g.W.Write.contents c.run_told.new.writer)
    (has_failed (writer_inner c.run_told.new.writer)) c.run_told.result in
    record {
      reader = c.reader.result;
      left_after = _;
      errno = errno_of c.run_told.new.reader;
      ran = subst P (fresh remaining c.new.result c.reader.result c.new.ensures.inner c.new.ensures.open) c.run_told.ensures.run;
      tells = c.run_told.ensures.told;
    }

pub loop-name-init : goal.loop-name-init
loop-name-init g c = (NoFile [] _ false 0 true _ refl refl refl refl refl, λ some. absurd (omega (arith, some)))

pub loop-name-preserved : goal.loop-name-preserved
loop-name-preserved g c =
    let items = c.args.task.now.files.items in
    let i = c.loop-name.name-index in
    let name = c.name-item.result in
    let taken : take (i + 1) items ≡ take i items ++ name ∷ [] = grind (arith, common_steps) in
    let text : string_bytes name ≡ c.as_str.result.now = search rules in
    let writer = c.run_file-status.new.writer in
    let failed = has_failed (writer_inner writer) in
    let on : goes_on c.run_file-status.result failed ≡ true = sym (sym c.if-not-goes_on.false ∙ c.goes_on.ensures) in
    let well : failed ≡ false = unfailed c.run_file-status.result failed on in
    let empty : writer_buffer writer ≡ [] = c.run_file-status.ensures.unfailed well in
    let contents = g.W.Write.contents in
    let told_between = told g.E.Write.contents c.loop-name.errors in
    let told_after = told g.E.Write.contents c.run_file-status.new.errors in
    let source = IsSource g.R.Reader.Read.remaining g.R.File.Read.remaining in
    let P : Option (List ℕ) → Type 0 = λ held. RunsFile source c.args.task.now.output c.args.task.now.raw c.as_str.result.now (given contents c.loop-name.writer) held false c.run_file-status.result told_between told_after in
    let Q : Bool → Type 0 = λ b. RunsFile source c.args.task.now.output c.args.task.now.raw c.as_str.result.now (given contents c.loop-name.writer) (passed_on contents writer) b c.run_file-status.result told_between told_after in
    let ran = subst P (sym (nothing_kept (passed_on contents writer) (writer_buffer writer) empty)) (subst Q well c.run_file-status.ensures.run) in (
      OneMore _ _ false _ true told_after (map string_bytes (take i items)) c.as_str.result.now (given contents c.loop-name.writer) c.loop-name.greatest c.run_file-status.result told_between c.loop-name.invariant.0
          (one_name string_bytes (take i items) (take (i + 1) items) name _ taken text) ran (c.max-greatest.ensures ∙ greatest c.loop-name.greatest c.run_file-status.result) (subst (λ b. true ≡ goes_on c.run_file-status.result b) well (sym on)),
      λ some. (empty, well),
    )

pub returns-then-not-goes_on-clause-files : goal.returns-then-not-goes_on-clause-files
returns-then-not-goes_on-clause-files g c some =
    let items = c.args.task.now.files.items in
    let i = c.loop-name.name-index in
    let name = c.name-item.result in
    let taken : take (i + 1) items ≡ take i items ++ name ∷ [] = grind (arith, common_steps) in
    let text : string_bytes name ≡ c.as_str.result.now = search rules in
    record {
      done = map string_bytes (take (i + 1) items);
      rest = map string_bytes (drop (i + 1) items);
      more = false;
      all = all_names string_bytes (i + 1) items;
      ran = OneMore _ _ _ _ false (told g.E.Write.contents c.run_file-status.new.errors) (map string_bytes (take i items)) c.as_str.result.now (given g.W.Write.contents c.loop-name.writer) c.loop-name.greatest c.run_file-status.result (told g.E.Write.contents c.loop-name.errors) c.loop-name.invariant.0
          (one_name string_bytes (take i items) (take (i + 1) items) name _ taken text) c.run_file-status.ensures.run (c.max-greatest.ensures ∙ greatest c.loop-name.greatest c.run_file-status.result)
          (sym c.if-not-goes_on.true ∙ c.goes_on.ensures);
      ended = λ e. absurd (true≢false (sym e));
    }

pub returns-after-loop-name-clause-files : goal.returns-after-loop-name-clause-files
returns-after-loop-name-clause-files g c some =
    let items = c.args.task.now.files.items in
    let i = c.loop-name.name-index in
    let contents = g.W.Write.contents in
    let writer = c.loop-name.writer in
    let kept = c.loop-name.invariant.1 (search (arith, rules)) in
    let source = IsSource g.R.Reader.Read.remaining g.R.File.Read.remaining in
    let told_before = told g.E.Write.contents c.args.errors.now in
    let told_after = told g.E.Write.contents c.loop-name.errors in
    let P : Option (List ℕ) → Type 0 = λ held. RunsFiles source c.args.task.now.output c.args.task.now.raw (given contents c.args.writer.now) told_before (map string_bytes (take i items)) held false c.loop-name.greatest true told_after in
    let Q : Bool → Type 0 = λ b. RunsFiles source c.args.task.now.output c.args.task.now.raw (given contents c.args.writer.now) told_before (map string_bytes (take i items)) (passed_on contents writer) b c.loop-name.greatest true told_after in
    record {
      done = map string_bytes (take i items);
      rest = [];
      more = true;
      all = no_others string_bytes i items (omega (arith, c.loop-name-test.false));
      ran = subst Q (sym kept.1) (subst P (nothing_kept (passed_on contents writer) (writer_buffer writer) kept.0) c.loop-name.invariant.0);
      ended = λ e. refl;
    }
