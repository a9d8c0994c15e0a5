use Rattle.std.proofs.Common.{inl, inr, length, sym, subst}
use Rattle.link_base.specs.Buffer.{kind_field_of, payload_of}
use Rattle.link_base.specs.Table.{Gives}
use Rattle.link_base.specs.Checked.{AllDecode}
use Rattle.link_base.proofs.SkipLemmas.{leaves_decode}
use Rattle.link_base.proofs.lists.skipping.skip_decodable_leaves.Goals as goal

pub skip_run-requires-clause-all_decode : goal.skip_run-requires-clause-all_decode
skip_run-requires-clause-all_decode g c f (inl any) = absurd cc
skip_run-requires-clause-all_decode g c f (inr is) =
    let first = c.args.first in
    let given = leaves_decode g.E.Meaning.table g.E.NestedAttribute.rows (kind_field_of first) (payload_of first) g.met.E.NestedAttribute.same_table c.in-Ok.ensures in
    subst (λ i. AllDecode (Gives g.E.Meaning.table) i (length (payload_of first))) (sym is) given
