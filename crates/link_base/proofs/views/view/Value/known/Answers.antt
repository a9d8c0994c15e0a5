use Rattle.std.proofs.Common.{[], length, subst, ap, ◌∙◌}
use Rattle.link_base.specs.Class.{extent, length_cause}
use Rattle.link_base.specs.Payloads.{class_by}
use Rattle.link_base.specs.Buffer.{kind_field_of, payload_of}
use Rattle.link_base.specs.Borrowed.{BorrowsBy}
use Rattle.link_base.specs.Viewed.{buffer_in, set_in}
use Rattle.link_base.proofs.ContentBy.{accepts, borrows_label}
use Rattle.link_base.proofs.views.view.Value.known.Goals as goal

pub content_by-requires : goal.content_by-requires
content_by-requires g c =
    let x = c.args.self.now in
    let b = buffer_in x in
    let label = c.in-Some.label in
    ap (λ p. length_cause (extent (class_by label.form [])) (length p)) c.value.ensures
    ∙ accepts (g.S.AttributeSet.rows (set_in x)) (kind_field_of b) c.well_formed-2.ensures label (payload_of b) c.in-Some.ensures x.decodes

pub returns-in-Some-clause-content : goal.returns-in-Some-clause-content
returns-in-Some-clause-content g c =
    let x = c.args.self.now in
    let b = buffer_in x in
    let label = c.in-Some.label in
    borrows_label (g.S.AttributeSet.rows (set_in x)) (kind_field_of b) c.well_formed-2.ensures label (payload_of b) c.content_by.result c.in-Some.ensures
    (subst (λ p. BorrowsBy label.form p c.content_by.result) c.value.ensures c.content_by.ensures.content)
