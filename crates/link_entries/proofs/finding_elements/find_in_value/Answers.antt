use Rattle.std.proofs.Common.{◌+◌, subst}
use Rattle.link_base.specs.declared.wire.buffer.NlaBuffer.{NlaBuffer}
use Rattle.link_base.specs.Frame.{kind_of}
use Rattle.link_base.specs.Buffer.{kind_field_of}
use Rattle.link_base.specs.Viewed.{set_in, buffer_in}
use Rattle.netlink_packet_route.specs.declared.viewing.FamilySet.{FamilySet}
use Rattle.netlink_packet_route.specs.Family.{table_of}
use Rattle.netlink_packet_route.specs.Views.{family_in}
use Rattle.link_base.specs.Borrowed.{HasContent}
use Rattle.link_entries.specs.Finding.{IsLastElement}
use Rattle.link_entries.proofs.finding_elements.find_in_value.Goals as goal

pub returns : goal.returns
returns c =
    let x = c.args.value.now in
    let content = c.content.result in
    let has : HasContent (table_of (family_in (set_in x))) (buffer_in x) content = record { decodes = x.decodes; borrows = c.content.ensures.content; form = c.content.ensures.form } in
    let Found : FamilySet → NlaBuffer → Type 0 = λ s y.
    IsLastElement (table_of (family_in s)) (kind_of (kind_field_of y)) (c.args.at + 4) content c.args.inner c.find_in_content.result in
    (content, has, subst (Found (set_in x)) c.buffer.ensures (subst (λ s. Found s c.buffer.result) c.set.ensures c.find_in_content.ensures))
