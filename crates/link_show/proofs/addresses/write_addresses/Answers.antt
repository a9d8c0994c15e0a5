use Rattle.std.proofs.Common.{◌≢◌, [], length, ap, sym, ◌∙◌}
use Rattle.std.proofs.lemmas.Bool.{eqb-true, eqb-false}
use Rattle.std.proofs.lemmas.List.{nil_from_length}
use Rattle.link_show.proofs.Addressing.{addresses_more, addresses_all, addresses_empty}
use Rattle.link_show.proofs.addresses.write_addresses.Goals as goal

pub loop-attribute-preserved : goal.loop-attribute-preserved
loop-attribute-preserved g c =
    addresses_more c.args.size c.args.list.now c.loop-attribute.rest.now c.in-Ok.after.now c.loop-attribute.separator.now c.in_ok-separator.separator.now (g.W.Sink.output c.args.writer.now)
    (g.W.Sink.output c.loop-attribute.writer) (g.W.Sink.output c.write_address_of.new.writer) c.in-Ok.attribute c.loop-attribute.invariant c.in-Ok.ensures
    (rw c.value.ensures at c.in_ok-separator.ensures.0) (rw c.value.ensures at c.in_ok-separator.ensures.1)

pub returns-then-is_empty : goal.returns-then-is_empty
returns-then-is_empty g c =
    addresses_empty c.put.result c.args.size c.args.list.now c.loop-attribute.rest.now c.loop-attribute.separator.now (g.W.Sink.output c.args.writer.now) (g.W.Sink.output c.loop-attribute.writer)
    (g.W.Sink.output c.put.new.self) c.in_default.field-0 c.loop-attribute.invariant c.in_default.ensures
    (nil_from_length c.loop-attribute.separator.now (eqb-true (length c.loop-attribute.separator.now) 0 (sym c.is_empty.ensures ∙ c.if-is_empty.true))) c.put.ensures

pub returns : goal.returns
returns g c =
    let separator = c.loop-attribute.separator.now in
    let some : separator ≢ [] = λ e. eqb-false (length separator) 0 (sym c.is_empty.ensures ∙ c.if-is_empty.false) (ap length e) in
    addresses_all c.args.size c.args.list.now c.loop-attribute.rest.now separator (g.W.Sink.output c.args.writer.now) (g.W.Sink.output c.loop-attribute.writer) c.in_default.field-0
    c.loop-attribute.invariant c.in_default.ensures some
