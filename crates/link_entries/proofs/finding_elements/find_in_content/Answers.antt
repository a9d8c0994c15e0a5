use Rattle.std.proofs.Common.{◌∙◌, List, None, length, ap, sym, subst, arith}
use Rattle.link_base.specs.Frame.{kind_of}
use Rattle.link_base.specs.Buffer.{kind_field_of, payload_of}
use Rattle.link_base.specs.Table.{class_at}
use Rattle.link_base.specs.Borrowed.{HasValues, Borrows, elements_at}
use Rattle.link_base.proofs.Elements.{elements_decode}
use Rattle.link_base.specs.Viewed.{set_of}
use Rattle.link_messages.specs.Walk.{Item, Walk}
use Rattle.netlink_packet_route.specs.Family.{table_of}
use Rattle.netlink_packet_route.specs.Views.{elements_table}
use Rattle.link_messages.specs.BeforeFault.{last_item}
use Rattle.link_entries.specs.Finding.{IsOneElement, IsLastElement}
use Rattle.link_entries.proofs.Shapes.{list_payload, array_payload, addresses_decode}
use Rattle.link_entries.proofs.FoundElements.{none_last}
use Rattle.link_entries.proofs.finding_elements.find_in_content.Goals as goal

pub of_checked-requires : goal.of_checked-requires
of_checked-requires c =
    let table = table_of c.args.family in
    let b = c.args.buffer.now in
    let bytes = c.in-List.list in
    let shape = class_at table (kind_of (kind_field_of b)) in
    let borrows = subst (Borrows shape (payload_of b)) c.in-List.is c.requires.content.borrows in
    subst (λ k. HasValues (elements_at table k) bytes.now) (sym c.kind-kind.ensures)
    (elements_decode table (kind_field_of b) (payload_of b) bytes c.in-List.flagged c.requires.content.decodes borrows)

pub of_checked-requires-in-Addresses : goal.of_checked-requires-in-Addresses
of_checked-requires-in-Addresses c =
    let table = table_of c.args.family in
    let b = c.args.buffer.now in
    let shape = class_at table (kind_of (kind_field_of b)) in
    let borrows = subst (Borrows shape (payload_of b)) c.in-Addresses.is c.requires.content.borrows in
    addresses_decode table (kind_field_of b) (payload_of b) c.in-Addresses.list c.in-Addresses.size c.requires.content.decodes borrows

pub find_nested-requires : goal.find_nested-requires
find_nested-requires c =
    let b = c.args.buffer.now in
    let shape = class_at (table_of c.args.family) (kind_of (kind_field_of b)) in
    let borrows = subst (Borrows shape (payload_of b)) c.in-List.is c.requires.content.borrows in
    let same = c.of_checked.ensures.bytes ∙ list_payload shape (payload_of b) c.in-List.list c.in-List.flagged borrows in
    omega (arith, c.requires.offset, ap length same)

pub find_number-requires-clause-short : goal.find_number-requires-clause-short
find_number-requires-clause-short c =
    let b = c.args.buffer.now in
    let shape = class_at (table_of c.args.family) (kind_of (kind_field_of b)) in
    let borrows = subst (Borrows shape (payload_of b)) c.in-Numbers.is c.requires.content.borrows in
    omega (arith, b.short, array_payload shape (payload_of b) c.in-Numbers.of c.in-Numbers.bytes borrows)

pub find_number-requires-clause-offset : goal.find_number-requires-clause-offset
find_number-requires-clause-offset c =
    let b = c.args.buffer.now in
    let shape = class_at (table_of c.args.family) (kind_of (kind_field_of b)) in
    let borrows = subst (Borrows shape (payload_of b)) c.in-Numbers.is c.requires.content.borrows in
    omega (arith, c.requires.offset, array_payload shape (payload_of b) c.in-Numbers.of c.in-Numbers.bytes borrows)

pub returns-in-List : goal.returns-in-List
returns-in-List c =
    let table = table_of c.args.family in
    let list = c.in-List.list.now in
    let found = c.find_nested.result in
    let bytes = subst (λ s. (items : List Item) × Walk s items None × IsOneElement (elements_table (set_of c.of_checked.result)) c.kind-kind.result c.args.at (last_item c.args.inner items) found) c.of_checked.ensures.bytes c.find_nested.ensures in
    let set = subst (λ t. (items : List Item) × Walk list items None × IsOneElement (elements_table t) c.kind-kind.result c.args.at (last_item c.args.inner items) found) c.of_checked.ensures.set bytes in
    let here = subst (λ k. (items : List Item) × Walk list items None × IsOneElement (elements_at table k) k c.args.at (last_item c.args.inner items) found) c.kind-kind.ensures set in
    subst (λ x. IsLastElement table (kind_of (kind_field_of c.args.buffer.now)) c.args.at x c.args.inner found) (sym c.in-List.is) here

pub returns-in_default : goal.returns-in_default
returns-in_default c =
    none_last (table_of c.args.family) (kind_of (kind_field_of c.args.buffer.now)) c.args.at c.args.inner c.args.content c.in_default.not-Numbers c.in_default.not-Addresses c.in_default.not-List
