use Rattle.std.proofs.Common.{sym, subst, ap, ap₂}
use Rattle.link_base.specs.Buffer.{kind_field_of}
use Rattle.link_base.specs.Borrowed.{Borrows, HasContent, HasValues, elements_at}
use Rattle.link_base.specs.Table.{class_at}
use Rattle.link_base.specs.Viewed.{buffer_in, set_in, kind_in, payload_in}
use Rattle.link_base.proofs.Elements.{elements_decode}
use Rattle.netlink_packet_route.specs.Family.{table_of}
use Rattle.netlink_packet_route.specs.Views.{family_in}
use Rattle.nlroute_ffi.proofs.Openings.{opens_list, opens_no_list}
use Rattle.nlroute_ffi.proofs.opens.opened_among.Goals as goal

pub of_checked-elements-requires : goal.of_checked-elements-requires
of_checked-elements-requires c =
    let x = c.in-Ok.attribute in
    let table = table_of (family_in (set_in x)) in
    let borrows = subst (Borrows (class_at table (kind_in x)) (payload_in x)) c.in-List.is c.content.ensures.content in
    subst (λ t. HasValues t c.in-List.list.now) (ap₂ (λ f k. elements_at (table_of f) k) (ap family_in c.in-Ok.ensures.1) (sym c.kind.ensures))
    (elements_decode table (kind_field_of (buffer_in x)) (payload_in x) c.in-List.list _ x.decodes borrows)

pub returns-in-List : goal.returns-in-List
returns-in-List c =
    let x = c.in-Ok.attribute in
    let has : HasContent (table_of (family_in (set_in x))) (buffer_in x) c.content.result = record { decodes = x.decodes; borrows = c.content.ensures.content; form = c.content.ensures.form } in
    opens_list c.args.context.now (family_in (set_in x)) c.args.family c.args.value.now (buffer_in x) c.args.around c.in-List.list _ _ c.of_elements-inner.result _ c.opened.result (ap family_in c.in-Ok.ensures.1) c.in-Ok.ensures.0
    (subst (HasContent (table_of (family_in (set_in x))) (buffer_in x)) c.in-List.is has) c.of_checked-elements.ensures.bytes c.of_elements-inner.ensures.family c.of_elements-inner.ensures.kinds c.type_of.ensures c.opened.ensures

pub returns-in_default-content : goal.returns-in_default-content
returns-in_default-content c =
    let x = c.in-Ok.attribute in
    let has : HasContent (table_of (family_in (set_in x))) (buffer_in x) c.content.result = record { decodes = x.decodes; borrows = c.content.ensures.content; form = c.content.ensures.form } in
    opens_no_list c.args.context.now (family_in (set_in x)) c.args.family c.args.value.now (buffer_in x) c.args.around c.content.result (ap family_in c.in-Ok.ensures.1) c.in-Ok.ensures.0 has c.in_default-content.not-List
