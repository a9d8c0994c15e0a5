use Rattle.std.proofs.Common.{Some, sym, subst}
use Rattle.link_base.specs.Borrowed.{elements_at}
use Rattle.netlink_packet_route.specs.Family.{table_of}
use Rattle.link_entries.specs.Fields.{IsNarrow}
use Rattle.link_requests.specs.declared.level.Scope.TheVariants.{Attributes}
use Rattle.link_requests.proofs.Rows.{narrow_at, narrow_of}
use Rattle.link_requests.proofs.level.row_for.Goals as goal

pub returns-in-Attributes-clause-narrow : goal.returns-in-Attributes-clause-narrow
returns-in-Attributes-clause-narrow c =
    narrow_of (Attributes c.in-Attributes.family) c.args.level.now.context.address_family c.args.entry.now (Some c.attribute_row.result) c.attribute_row.ensures

pub returns-in-Elements-clause-narrow : goal.returns-in-Elements-clause-narrow
returns-in-Elements-clause-narrow c =
    subst IsNarrow (sym c.element_fields.ensures) (narrow_at (elements_at (table_of c.in-Elements.family) c.in-Elements.list) c.args.entry.now.inner)
