use Rattle.std.proofs.Common.{◌+◌, refl, codes}
use Rattle.link_show.specs.Indents.{indent_text}
use Rattle.link_show.specs.Gained.{gains_more}
use Rattle.link_show.specs.List.{indented, not_canonical_line, IsCanonical, IsNot}
use Rattle.link_show.proofs.verdicts.write_judgement.Goals as goal

pub returns-in_ok-write_not_canonical-in-Some : goal.returns-in_ok-write_not_canonical-in-Some
returns-in_ok-write_not_canonical-in-Some g c =
    let at = c.in-Some.first in
    (not_canonical_line (indent_text c.args.indent) (c.args.list.at + at), IsNot refl at c.in-Some.ensures refl refl, c.in_ok-write_not_canonical-in-Some.ensures)

pub returns-in_ok-put-in-None : goal.returns-in_ok-put-in-None
returns-in_ok-put-in-None g c =
    let output = g.W.Sink.output in
    let indent = indent_text c.args.indent in (
      indented indent (codes "canonical"),
      IsCanonical refl c.in-None.ensures refl refl,
      gains_more (output c.args.writer.now) (output c.write_indent.new.writer) (output c.put.new.self) indent (codes "canonical\n") c.in_ok-write_indent-in-None.ensures c.in_ok-put-in-None.ensures,
    )
