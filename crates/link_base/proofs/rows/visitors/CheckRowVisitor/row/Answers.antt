use Rattle.std.proofs.Common.{rules}
use Rattle.link_base.specs.Buffer.{kind_field_of, payload_of}
use Rattle.link_base.proofs.Entries.{checks_row}
use Rattle.link_base.proofs.rows.visitors.CheckRowVisitor.row.Goals as goal

pub returns : goal.returns
returns g c =
    checks_row g.F.Meaning.table c.args.kind (kind_field_of c.args.self.buffer.now) (payload_of c.args.self.buffer.now) c.check.result
    _ c.requires.row c.requires.asks (search rules)
