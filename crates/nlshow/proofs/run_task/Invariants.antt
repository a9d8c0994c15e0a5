use Rattle.std.proofs.Common.{◌≡◌, ◌<◌, [], true, false, map, take, string_bytes}
use Rattle.std.specs.Io.Buffered.{writer_buffer, writer_inner}
use Rattle.program.specs.Told.{told}
use Rattle.program.specs.Watched.{given, has_failed}
use Rattle.nlshow.specs.Runs.{IsSource, RunsFiles}
use Rattle.nlshow.proofs.run_task.Given as goal

abbrev pub invariant-loop-name : goal.invariant-loop-name
invariant-loop-name g l =
    RunsFiles (IsSource g.R.Reader.Read.remaining g.R.File.Read.remaining) l.task.output l.task.raw (given g.W.Write.contents l.fn.writer) (told g.E.Write.contents l.fn.errors) (map string_bytes (take l.name-index l.task.files.items)) (given g.W.Write.contents l.writer) false l.greatest true (told g.E.Write.contents l.errors)
    × (0 < l.name-index → (writer_buffer l.writer ≡ []) × (has_failed (writer_inner l.writer) ≡ false))
