use Rattle.std.proofs.Common.{◌-◌, length, None, refl}
use Rattle.std.specs.Option.{option_map}
use Rattle.link_messages.specs.Finding.{stretch_of}
use Rattle.link_messages.specs.BeforeFault.{latest}
use Rattle.link_messages.proofs.Walking.{latest_same, latest_more, reached_none, reached_more, reached_all}
use Rattle.link_messages.proofs.before_fault.last_before_fault.Goals as goal

pub loop-attribute-init : goal.loop-attribute-init
loop-attribute-init c = reached_none (latest c.args.list.at c.args.kind) c.args.list.bytes.now None refl

pub loop-attribute-preserved : goal.loop-attribute-preserved
loop-attribute-preserved c =
    let base = c.args.list.at in
    let list = c.args.list.bytes.now in
    let rest = c.loop-attribute.rest.now in
    let b = c.in-Ok.attribute in
    reached_more (latest base c.args.kind) list rest c.in-Ok.after.now _ _ b c.loop-attribute.invariant c.in-Ok.ensures
    (λ items. latest_more base c.args.kind (length list - length rest) b (option_map stretch_of c.loop-attribute.found) _ items c.later-found.ensures)

pub returns : goal.returns
returns c =
    let (walk, last) = reached_all _ c.args.list.bytes.now c.loop-attribute.rest.now _ c.in_default.field-0 (latest_same c.args.list.at c.args.kind) c.loop-attribute.invariant c.in_default.ensures in
    record { walk = walk; last = last }
