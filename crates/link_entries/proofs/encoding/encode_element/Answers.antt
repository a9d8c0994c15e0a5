use Rattle.std.proofs.Common.{◌∙◌, ap, subst}
use Rattle.link_base.specs.Borrowed.{elements_at}
use Rattle.link_entries.specs.Stored.{sized, StoresBytes}
use Rattle.link_entries.proofs.StoredBytes.{nested_element}
use Rattle.link_entries.proofs.encoding.encode_element.Goals as goal

pub returns-in-List-clause-size : goal.returns-in-List-clause-size
returns-in-List-clause-size g c =
    let e = c.args.entry.now in
    c.encode_framed-in-List.ensures.size
    ∙ ap sized (nested_element (elements_at g.F.Meaning.table c.args.kind) c.args.own c.fields_of-fields.result c.args.kind c.args.i c.in-List.flag c.field_of.result e c.args.octets.now c.if-entry-ne1.false c.if-entry-kind.false c.in-List.is c.fields_of-fields.ensures.value c.field_of.ensures)

pub returns-in-List-clause-stored : goal.returns-in-List-clause-stored
returns-in-List-clause-stored g c =
    let e = c.args.entry.now in
    subst (λ r. StoresBytes r c.args.room.now c.encode_framed-in-List.new.room)
    (nested_element (elements_at g.F.Meaning.table c.args.kind) c.args.own c.fields_of-fields.result c.args.kind c.args.i c.in-List.flag c.field_of.result e c.args.octets.now c.if-entry-ne1.false c.if-entry-kind.false c.in-List.is c.fields_of-fields.ensures.value c.field_of.ensures)
    c.encode_framed-in-List.ensures.stored
