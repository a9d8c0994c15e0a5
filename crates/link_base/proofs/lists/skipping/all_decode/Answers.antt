use Rattle.std.proofs.Common.{sym, subst, ap, ◌∙◌}
use Rattle.link_base.specs.Buffer.{kind_field_of, payload_of}
use Rattle.link_base.specs.Frame.{kind_of}
use Rattle.link_base.specs.Table.{label_at}
use Rattle.link_base.proofs.ContentBy.{single_class, no_row}
use Rattle.link_base.proofs.Entries.{class_of_none}
use Rattle.link_base.proofs.SkipLemmas.{IsNoList, all_decoded}
use Rattle.link_base.proofs.lists.skipping.all_decode.Goals as goal

pub returns-in-Some : goal.returns-in-Some
returns-in-Some g c single =
    let table = g.F.Meaning.table in
    let first = c.args.first.now in
    let f = kind_field_of first in
    let class = single_class table f g.met.F.Attribute.well_formed c.in-Some.label (c.in-Some.ensures ∙ ap (label_at table) c.kind.ensures) (sym c.is_single.ensures ∙ single) in
    all_decoded table f (payload_of first) (subst IsNoList (sym class.1) tt) c.in-Ok.ensures

pub returns-in-None : goal.returns-in-None
returns-in-None g c is =
    let table = g.F.Meaning.table in
    let first = c.args.first.now in
    let f = kind_field_of first in
    let none = class_of_none table (kind_of f) (no_row table f g.met.F.Attribute.well_formed (c.in-None.ensures ∙ ap (label_at table) c.kind.ensures)) in
    all_decoded table f (payload_of first) (subst IsNoList (sym none) tt) c.in-Ok.ensures
