use Rattle.std.proofs.Common.{◌≡◌, ◌≢◌, ◌≤◌, ◌+◌, ◌++◌, ◌∷◌, [], length, map, ap, ◌∙◌, arith}
use Rattle.std.specs.Prelude.{vec_len}
use Rattle.std.proofs.lemmas.Grind.{common_steps}
use Rattle.std.proofs.lemmas.List.{length-append}
use Rattle.link_base.specs.Frame.{frame_bytes}
use Rattle.link_base.specs.Table.{of_length}
use Rattle.link_base.specs.Buffer.{kind_field_of, payload_of, frame_of}
use Rattle.link_base.proofs.AddressLists.{kept_none, kept_more, kept_all, kept_fault, kept_low}
use Rattle.link_base.proofs.classes.address_list.push_addresses.Goals as goal

pub loop-rest-init : goal.loop-rest-init
loop-rest-init g c =
    let n = g.A.Address.SIZE in
    record {
      reads = kept_none n c.args.payload.now _ (ap (map g.A.Address.octets) c.requires.none);
      low = rw c.requires.len (omega arith);
      room = c.requires.room;
    }

pub returns-in-Err-clause-answer : goal.returns-in-Err-clause-answer
returns-in-Err-clause-answer g c =
    let rest = c.loop-rest.rest.now in
    let some : rest ≢ [] = λ e. grind (arith, common_steps) in
    kept_fault g.A.Address.SIZE c.args.kind c.args.payload.now rest _ c.in-Err.cause c.loop-rest.invariant.reads some
    c.in-Err.ensures

pub loop-rest-preserved : goal.loop-rest-preserved
loop-rest-preserved g c =
    let n = g.A.Address.SIZE in
    let i = c.loop-rest.invariant in
    let s = c.args.payload.now in
    let rest = c.loop-rest.rest.now in
    let b = c.in-Ok.element in
    let begins = c.in-Ok.ensures.0 in
    let p = payload_of b in
    let x = frame_of b in
    let some : rest ≢ [] = λ e. grind (arith, common_steps) in
    let front : 4 + length p ≤ length rest = omega (arith, ap length begins.string, length-append (frame_bytes x) begins.rest, length-append x.payload x.padding) in
    let kept = c.keep.ensures.kept ∙ ap (λ q. map g.A.Address.octets c.loop-rest.addresses.items ++ of_length n (q ∷ [])) c.value.ensures in
    let len = c.keep.ensures.len ∙ ap (λ q. vec_len c.loop-rest.addresses + length (of_length n (q ∷ []))) c.value.ensures in
    record {
      reads = kept_more n s rest _ _ _ (kind_field_of b) p i.reads some begins c.in-Ok.ensures.1 kept;
      low = kept_low n (vec_len c.loop-rest.addresses) _ s rest _ p i.low c.in-Ok.ensures.1 front len;
      room = c.keep.ensures.room ∙ i.room;
    }

pub returns-clause-answer : goal.returns-clause-answer
returns-clause-answer g c =
    let rest = c.loop-rest.rest.now in
    let none : rest ≡ [] = grind (arith, common_steps) in
    kept_all g.A.Address.SIZE c.args.kind c.args.payload.now rest _ c.loop-rest.invariant.reads none
