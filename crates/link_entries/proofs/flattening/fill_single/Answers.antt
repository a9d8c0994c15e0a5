use Rattle.std.proofs.Common.{◌≡◌, ◌+◌, ap, ap₂, ◌∙◌}
use Rattle.link_base.specs.Frame.{kind_of}
use Rattle.link_base.specs.Buffer.{kind_field_of}
use Rattle.link_base.specs.Viewed.{buffer_in}
use Rattle.link_entries.specs.declared.entry.Entry.{Entry}
use Rattle.link_entries.specs.Content.{filled}
use Rattle.link_base.specs.Borrowed.{HasContent}
use Rattle.link_entries.specs.Flat.{head_entry}
use Rattle.link_entries.proofs.Groups.{group_single}
use Rattle.link_entries.proofs.Shapes.{no_elements}
use Rattle.link_entries.proofs.flattening.fill_single.Goals as goal

pub returns-in_default : goal.returns-in_default
returns-in_default g c =
    let x = c.args.value.now in
    let table = g.F.Meaning.table in
    let b = buffer_in x in
    let at = c.args.at in
    let content = c.content.result in
    let has : HasContent table b content = record { decodes = x.decodes; borrows = c.content.ensures.content; form = c.content.ensures.form } in
    let none = no_elements table (kind_of (kind_field_of b)) (at + 4) content c.in_default.not-Numbers c.in_default.not-Addresses c.in_default.not-List in
    let placed : c.fill.new.place ≡ head_entry (at, c.buffer-buffer.result) content 0 =
    c.fill.ensures ∙ ap₂ (λ f (e : Entry). filled f content 0 (record e { number = 0 })) c.raw_kind.ensures c.start_head.ensures in
    let is = placed ∙ ap (λ y. head_entry (at, y) content 0) c.buffer-buffer.ensures in
    λ t. group_single table at b content c.fill.new.place has none is
