use Rattle.std.proofs.Common.{◌∙◌, ◌+◌, ◌-◌, ◌++◌, length, take, drop, refl, ap, arith}
use Rattle.std.proofs.lemmas.List.{length-append}
use Rattle.link_entries.specs.Encoded.{attribute_of, entries_of}
use Rattle.link_entries.proofs.Encodings.{reached_by, reached_more, reached_skip}
use Rattle.link_entries.proofs.ElementLoops.{entry_here, entry_skipped}
use Rattle.link_entries.proofs.StoredBytes.{encodes_ok, encodes_err, stored_more, part_length, encodes_error}
use Rattle.link_entries.proofs.encoding.encode_list.Goals as goal

pub loop-entry-preserved-in-Ok : goal.loop-entry-preserved-in-Ok
loop-entry-preserved-in-Ok g c =
    let table = g.F.Meaning.table in
    let octets = c.args.octets.now in
    let out = c.loop-entry.out in
    let (text, i, count, size, stored, reached) = c.loop-entry.invariant in
    let e = c.in-Some.entry.now in
    let es = c.in-Some.others.now in
    let all = entries_of table octets c.args.entries.now in
    let next = reached_by all _ _ text i reached (ap (entries_of table octets) c.in-Some.ensures.cases.0) in
    let from = c.min-from.result in
    let sub = c.encode_attribute.new.room in
    let (x, is, n, placed) = encodes_ok (attribute_of table octets e es) (take (length out - from) (drop from out)) sub c.in-Ok.size c.in-Ok.ensures.encodes in (
      text ++ x,
      i + 1,
      omega (arith, count, c.in-Some.ensures.cases.1),
      omega (arith, length-append text x, size, n, c.saturating_add-len.ensures),
      stored_more text x c.args.out.now out sub _ from stored (omega arith) (omega (arith, size, c.min-from.ensures)) placed refl,
      reached_more all (entries_of table octets es) text x i _ next (entry_here table octets e es c.if-entry-eq0.true ∙ is),
    )

pub loop-entry-preserved : goal.loop-entry-preserved
loop-entry-preserved g c =
    let table = g.F.Meaning.table in
    let octets = c.args.octets.now in
    let (text, i, count, size, stored, reached) = c.loop-entry.invariant in
    let es = c.in-Some.others.now in
    let all = entries_of table octets c.args.entries.now in
    let next = reached_by all _ _ text i reached (ap (entries_of table octets) c.in-Some.ensures.cases.0) in
    (text, i + 1, omega (arith, count, c.in-Some.ensures.cases.1), size, stored, reached_skip all (entries_of table octets es) text i _ next (entry_skipped table octets c.in-Some.entry.now es c.if-entry-eq0.false))

pub returns-in-Err : goal.returns-in-Err
returns-in-Err g c =
    let table = g.F.Meaning.table in
    let octets = c.args.octets.now in
    let out = c.loop-entry.out in
    let (text, i, count, size, stored, reached) = c.loop-entry.invariant in
    let e = c.in-Some.entry.now in
    let es = c.in-Some.others.now in
    let all = entries_of table octets c.args.entries.now in
    let next = reached_by all _ _ text i reached (ap (entries_of table octets) c.in-Some.ensures.cases.0) in
    let from = c.min-from.result in
    let sub = c.encode_attribute.new.room in
    let first = c.in-Err.first in
    let (bad, same) = encodes_err (attribute_of table octets e es) (take (length out - from) (drop from out)) sub first c.in-Err.ensures.encodes in
    encodes_error all (entries_of table octets es) text i c.args.out.now _ _ first.index first.misfit _ next (entry_here table octets e es c.if-entry-eq0.true ∙ bad) (omega (arith, count))
    (part_length from out sub _ (omega (arith, c.min-from.ensures)) same refl ∙ stored.same)
