use Rattle.link_base.specs.Table.{Other}
use Rattle.link_base.specs.Buffer.{kind_field_of, payload_of}
use Rattle.link_base.proofs.Entries.{checks_none}
use Rattle.link_base.proofs.rows.visitors.CheckRowVisitor.other.Goals as goal

pub returns : goal.returns
returns g c =
    let f = kind_field_of c.args.self.buffer.now in
    let p = payload_of c.args.self.buffer.now in
    (Other f p, checks_none g.F.Meaning.table c.args._kind f p c.requires.row c.requires.asks)
