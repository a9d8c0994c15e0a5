use Rattle.std.proofs.Common.{◌≡◌, ◌∙◌, ◌+◌, ◌-◌, ◌++◌, length, take, drop, refl, ap, subst, arith}
use Rattle.std.proofs.lemmas.List.{length-append}
use Rattle.link_base.specs.Borrowed.{elements_at}
use Rattle.link_entries.specs.Fields.{fields_at}
use Rattle.link_entries.specs.Encoded.{alone, element_of, elements_of}
use Rattle.link_entries.specs.Stored.{sized, StoresBytes}
use Rattle.link_entries.proofs.Encodings.{reached_by, reached_more}
use Rattle.link_entries.proofs.ElementLoops.{element_next, elements_done}
use Rattle.link_entries.proofs.StoredBytes.{sized_ok, sized_err, stored_more, part_length, encodes_all, encodes_error}
use Rattle.link_entries.proofs.encoding.encode_elements.Goals as goal

pub loop-entry-preserved : goal.loop-entry-preserved
loop-entry-preserved g c =
    let k = c.args.kind in
    let table = elements_at g.F.Meaning.table k in
    let list = fields_at g.F.Meaning.table k in
    let octets = c.args.octets.now in
    let room = c.loop-entry.room in
    let from = c.min-from.result in
    let sub = c.encode_element.new.room in
    let (text, i, count, size, stored, reached) = c.loop-entry.invariant in
    let e = c.in-Some.entry.now in
    let es = c.in-Some.others.now in
    let all = elements_of table list k octets 0 c.args.entries.now in
    let others = elements_of table list k octets (i + 1) es in
    let next = reached_by all _ _ text i reached (ap (elements_of table list k octets i) c.in-Some.ensures.cases.0 ∙ element_next table octets e es list k i c.if-entry-eq0.false) in
    let place : length c.args.entries.now - length c.loop-entry.rest.now ≡ i = omega (arith, count) in
    let own : element_of table c.fields_of-own.result k _ e octets ≡ element_of table list k i e octets = (λ j. element_of table (c.fields_of-own.ensures.value j) k (place j) e octets) in
    let (x, is, n) = sized_ok (element_of table list k i e octets) c.in-Ok.size (c.in-Ok.ensures.size ∙ ap sized own) in
    let placed = subst (λ r. StoresBytes r (take (length room - from) (drop from room)) sub) (own ∙ is) c.in-Ok.ensures.stored in (
      text ++ x,
      i + 1,
      omega (arith, count, c.in-Some.ensures.cases.1),
      omega (arith, length-append text x, size, n, c.saturating_add-len.ensures),
      stored_more text x c.args.room.now room sub _ from stored (omega arith) (omega (arith, size, c.min-from.ensures)) placed refl,
      reached_more all others text x i _ next (ap alone is),
    )

pub returns-in-Err-clause-encodes : goal.returns-in-Err-clause-encodes
returns-in-Err-clause-encodes g c =
    let k = c.args.kind in
    let table = elements_at g.F.Meaning.table k in
    let list = fields_at g.F.Meaning.table k in
    let octets = c.args.octets.now in
    let room = c.loop-entry.room in
    let from = c.min-from.result in
    let sub = c.encode_element.new.room in
    let (text, i, count, size, stored, reached) = c.loop-entry.invariant in
    let e = c.in-Some.entry.now in
    let es = c.in-Some.others.now in
    let all = elements_of table list k octets 0 c.args.entries.now in
    let next = reached_by all _ _ text i reached (ap (elements_of table list k octets i) c.in-Some.ensures.cases.0 ∙ element_next table octets e es list k i c.if-entry-eq0.false) in
    let place : length c.args.entries.now - length c.loop-entry.rest.now ≡ i = omega (arith, count) in
    let own : element_of table c.fields_of-own.result k _ e octets ≡ element_of table list k i e octets = (λ j. element_of table (c.fields_of-own.ensures.value j) k (place j) e octets) in
    let bad = sized_err (element_of table list k i e octets) c.in-Err.misfit (c.in-Err.ensures.size ∙ ap sized own) in
    let same = subst (λ r. StoresBytes r (take (length room - from) (drop from room)) sub) (own ∙ bad) c.in-Err.ensures.stored in
    encodes_error all (elements_of table list k octets (i + 1) es) text i c.args.room.now _ _ 0 c.in-Err.misfit _ next (ap alone bad) (omega (arith, count))
    (part_length from room sub _ (omega (arith, c.min-from.ensures)) same refl ∙ stored.same)

pub returns-then-entry-eq0-clause-encodes : goal.returns-then-entry-eq0-clause-encodes
returns-then-entry-eq0-clause-encodes g c =
    let k = c.args.kind in
    let table = elements_at g.F.Meaning.table k in
    let list = fields_at g.F.Meaning.table k in
    let octets = c.args.octets.now in
    let (text, i, count, size, stored, reached) = c.loop-entry.invariant in
    let done = ap (elements_of table list k octets i) c.in-Some.ensures.cases.0 ∙ elements_done table octets c.in-Some.entry.now c.in-Some.others.now list k i c.if-entry-eq0.true in
    encodes_all (elements_of table list k octets 0 c.args.entries.now) _ text i c.args.room.now c.loop-entry.room c.loop-entry.len reached done size stored
