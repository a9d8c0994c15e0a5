use Rattle.std.proofs.Common.{◌∙◌}
use Rattle.std.specs.Io.Buffered.{writer_contents}
use Rattle.std.proofs.KnownBytes.{Keeps-trans}
use Rattle.show_captures.proofs.Begun.{may_begin, read_more}
use Rattle.show_captures.proofs.first.read_first.Goals as goal

pub returns-then-not-needs_more-clause-read : goal.returns-then-not-needs_more-clause-read
returns-then-not-needs_more-clause-read g c =
    read_more c.loop.bytes.items c.read_on.new.held.items (g.R.Read.remaining c.args.reader.now) (g.R.Read.remaining c.loop.reader) (g.R.Read.remaining c.read_on.new.reader) c.in-Ok.field-0 c.loop.invariant.0 c.in-Ok.ensures.read

pub returns-then-not-needs_more-clause-kept : goal.returns-then-not-needs_more-clause-kept
returns-then-not-needs_more-clause-kept g c =
    let contents = writer_contents g.W.Write.contents in Keeps-trans (contents c.args.writer.now) (contents c.loop.writer) (contents c.read_on.new.writer) c.loop.invariant.1 c.in-Ok.ensures.kept

pub loop-preserved : goal.loop-preserved
loop-preserved g c =
    let contents = writer_contents g.W.Write.contents in (
      read_more c.loop.bytes.items c.read_on.new.held.items (g.R.Read.remaining c.args.reader.now) (g.R.Read.remaining c.loop.reader) (g.R.Read.remaining c.read_on.new.reader) c.in-Ok.field-0 c.loop.invariant.0 c.in-Ok.ensures.read,
      Keeps-trans (contents c.args.writer.now) (contents c.loop.writer) (contents c.read_on.new.writer) c.loop.invariant.1 c.in-Ok.ensures.kept,
      c.in-Ok.ensures.room ∙ c.loop.invariant.2,
      may_begin c.read_on.new.held.items c.deref.result.now c.needs_more.result c.if-not-needs_more.false c.needs_more.ensures c.deref.ensures.value,
    )
