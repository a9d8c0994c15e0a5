use Rattle.std.proofs.Common.{◌≡◌, ◌+◌, ◌∙◌, ap, sym, subst, arith}
use Rattle.link_base.specs.Frame.{kind_of}
use Rattle.link_base.specs.Table.{Canonical, nested_flag}
use Rattle.link_base.specs.Buffer.{kind_field_of, payload_of}
use Rattle.link_base.proofs.Lifted.{nested_canonical}
use Rattle.link_base.proofs.lists.canonical.is_nested.Goals as goal

pub returns-then-raw_kind-kind : goal.returns-then-raw_kind-kind
returns-then-raw_kind-kind g c =
    let table = g.E.Meaning.table in
    let f = kind_field_of c.args.buffer.now in
    let p = payload_of c.args.buffer.now in
    let same = nested_canonical table g.E.NestedAttribute.rows p g.met.E.NestedAttribute.same_table in
    let kind : f ≡ kind_of f + nested_flag g.E.NestedAttribute.FLAGGED = omega (arith, c.raw_kind.ensures, c.kind.ensures, c.nested_flag.ensures ∙ ap nested_flag c.FLAGGED.ensures, c.if-raw_kind-kind.true) in
    let judged = c.list_is_canonical.ensures in (
      λ t. (kind, same.0 (subst (λ s. Canonical table s) c.value.ensures (judged.0 t))),
      λ h. judged.1 (subst (λ s. Canonical table s) (sym c.value.ensures) (same.1 h.1)),
    )
