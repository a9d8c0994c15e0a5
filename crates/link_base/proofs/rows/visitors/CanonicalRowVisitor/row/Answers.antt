use Rattle.std.proofs.Common.{◌∙◌, ap, sym, subst, Option}
use Rattle.std.specs.Prelude.{◌↔◌, IsTrue}
use Rattle.link_base.specs.Table.{Shape, class_at, allows_by}
use Rattle.link_base.specs.Buffer.{kind_field_of, payload_of}
use Rattle.link_base.proofs.Entries.{class_of_row}
use Rattle.link_base.proofs.rows.visitors.CanonicalRowVisitor.row.Goals as goal

pub returns : goal.returns
returns g c =
    let f = kind_field_of c.args.self.buffer.now in
    let p = payload_of c.args.self.buffer.now in
    subst (λ (o : Option Shape). IsTrue c.is_canonical.result ↔ allows_by o f p)
    (sym (ap (class_at g.F.Meaning.table) c.requires.asks ∙ class_of_row g.F.Meaning.table c.args._kind _ c.requires.row))
    c.is_canonical.ensures
