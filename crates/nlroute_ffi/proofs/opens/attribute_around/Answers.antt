use Rattle.std.proofs.Common.{◌-◌, length, Some, None, refl, sym, ◌∙◌}
use Rattle.link_messages.proofs.Walking.{at_end, at_fault, reached_none, reached_more}
use Rattle.nlroute_ffi.proofs.Around.{found_among, found_more, found_all}
use Rattle.nlroute_ffi.proofs.opens.attribute_around.Goals as goal

pub loop-rest-init : goal.loop-rest-init
loop-rest-init c = reached_none (found_among c.args.kind c.args.offset) c.args.list.now None refl

pub loop-rest-preserved : goal.loop-rest-preserved
loop-rest-preserved c =
    let list = c.args.list.now in
    let rest = c.loop-rest.rest.now in
    let b = c.in-Ok.attribute in
    reached_more (found_among c.args.kind c.args.offset) list rest c.in-Ok.after.now _ _ b c.loop-rest.invariant c.in-Ok.ensures
    (λ items. found_more c.args.kind c.args.offset (length list - length rest) b c.loop-rest.found _ items c.later-found.ensures)

pub returns-in-Err : goal.returns-in-Err
returns-in-Err c =
    let list = c.args.list.now in
    let rest = c.loop-rest.rest.now in
    found_all c.args.kind c.args.offset list rest _ (Some (length list - length rest, c.in-Err.field-0)) c.loop-rest.invariant
    (at_fault (length list) rest c.in-Err.field-0 (sym c.is_empty.ensures ∙ c.loop-rest-test.true) c.in-Err.ensures)

pub returns : goal.returns
returns c =
    found_all c.args.kind c.args.offset c.args.list.now c.loop-rest.rest.now _ None c.loop-rest.invariant
    (at_end (length c.args.list.now) c.loop-rest.rest.now (sym c.is_empty.ensures ∙ c.loop-rest-test.false))
