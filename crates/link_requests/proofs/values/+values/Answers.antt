use borrow.Rule.Slice.PartMut.{put_mid}
use Rattle.std.proofs.Common.{◌≡◌, ◌∙◌, ◌+◌, ◌-◌, ◌≤◌, [], ◌++◌, cond, Ok, Err, length, take, drop, replicate, refl, sym, ap, ap₂, subst, arith, ⊎_elim}
use Rattle.std.proofs.lemmas.List.{append-nil, length-append}
use Rattle.link_base.specs.Frame.{max_payload, pad}
use Rattle.link_entries.specs.Encoded.{alone, before, fitted}
use Rattle.link_entries.specs.Stored.{StoresAt, StoresPayload, Encodes, header, padded}
use Rattle.link_entries.proofs.Encodings.{reached_by, reached_more, reached_skip}
use Rattle.link_entries.proofs.StoredBytes.{stored_frame, stored_more, stored_padded, stored_part, part_length, sized_ok, sized_err, encodes_ok, encodes_err, encodes_error, encodes_frame, encodes_behind}
use Rattle.link_requests.specs.Opening.{kinds_of}
use Rattle.link_requests.specs.Value.{value_payload, scope_below, inside_of, below_of, value_of}
use Rattle.link_requests.specs.Values.{values_of, inner_of}
use Rattle.link_requests.proofs.Following.{attribute_same, nothing_own}
use Rattle.link_requests.proofs.Steps.{value_here, value_skipped}
use Rattle.link_requests.proofs.values.+values.Goals as goal

pub put_attribute-returns-in-Err-clause-encodes : goal.put_attribute-returns-in-Err-clause-encodes
put_attribute-returns-in-Err-clause-encodes t c =
    let e = c.args.entry.now in
    let es = c.args.others.now in
    let octets = c.args.octets.now in
    let scope = c.args.level.now.scope in
    let depth = c.args.level.now.depth in
    let x = kinds_of c.args.level.now.context in
    let own = c.args.own in
    let inner = inner_of octets depth x es in
    let f = c.type_for-nla_type.result in
    let reader = c.reader_for-reader.result in
    let follow = c.is_above-follow.result in
    let room = c.args.room.now in
    let last = c.put_value_payload.new.room in
    let misfit = c.in-Err.misfit in
    let is = sized_err (value_payload scope reader own follow e octets) misfit c.in-Err.ensures.size in
    let all = ap (λ r. fitted f (before (alone r) (below_of depth (scope_below scope reader own e) inner es))) (sym is)
    ∙ attribute_same octets scope depth x c.args.index own e es inner f reader follow c.type_for-nla_type.ensures c.reader_for-reader.ensures c.is_above-follow.ensures in
    subst (λ s. Encodes s room last (Err (record { index = 0; misfit = misfit }))) all (refl, subst (λ r. StoresPayload r room last) is c.in-Err.ensures.stored)

pub put_attribute-returns-then-not-follow-clause-encodes : goal.put_attribute-returns-then-not-follow-clause-encodes
put_attribute-returns-then-not-follow-clause-encodes t c =
    let e = c.args.entry.now in
    let es = c.args.others.now in
    let octets = c.args.octets.now in
    let scope = c.args.level.now.scope in
    let depth = c.args.level.now.depth in
    let x = kinds_of c.args.level.now.context in
    let own = c.args.own in
    let inner = inner_of octets depth x es in
    let f = c.type_for-nla_type.result in
    let reader = c.reader_for-reader.result in
    let follow = c.is_above-follow.result in
    let room = c.args.room.now in
    let one = c.put_value_payload.new.room in
    let last = c.store_header.new.room in
    let n = c.store_header.result in
    let (p, is, size) = sized_ok (value_payload scope reader own follow e octets) c.in-Ok.size c.in-Ok.ensures.size in
    let put = subst (λ r. StoresPayload r room one) is c.in-Ok.ensures.stored in
    let head = subst (λ m. StoresAt 0 (header f m) one last) size c.store_header.ensures.stored in
    let short = subst (λ m. m ≤ max_payload) size c.in-Ok.ensures.short in
    let frame = encodes_frame f p n room last short (stored_frame f p room one last put head) (subst (λ m. n ≡ pad (4 + m)) size c.store_header.ensures.length) in
    let none : below_of depth (scope_below scope reader own e) inner es ≡ Ok [] = ap (λ b. cond b (inside_of (depth + 1) (scope_below scope reader own e) inner es) (Ok [])) (sym c.is_above-follow.ensures ∙ c.if-not-follow.true) in
    let all = ap (λ q. fitted f (Ok q)) (sym (append-nil p)) ∙ ap₂ (λ r s. fitted f (before (alone r) s)) (sym is) (sym none)
    ∙ attribute_same octets scope depth x c.args.index own e es inner f reader follow c.type_for-nla_type.ensures c.reader_for-reader.ensures c.is_above-follow.ensures in
    subst (λ s. Encodes s room last (Ok n)) all frame

pub put_attribute-returns-clause-encodes : goal.put_attribute-returns-clause-encodes
put_attribute-returns-clause-encodes t c =
    let e = c.args.entry.now in
    let es = c.args.others.now in
    let octets = c.args.octets.now in
    let scope = c.args.level.now.scope in
    let depth = c.args.level.now.depth in
    let x = kinds_of c.args.level.now.context in
    let own = c.args.own in
    let inner = inner_of octets depth x es in
    let f = c.type_for-nla_type.result in
    let reader = c.reader_for-reader.result in
    let follow = c.is_above-follow.result in
    let room = c.args.room.now in
    let one = c.put_value_payload.new.room in
    let last = c.put_below.new.room in
    let result = c.put_below.result in
    let (p, is, size) = sized_ok (value_payload scope reader own follow e octets) c.in-Ok.size c.in-Ok.ensures.size in
    let put = subst (λ r. StoresPayload r room one) is c.in-Ok.ensures.stored in
    let inside = inside_of (depth + 1) (scope_below scope reader own e) inner es in
    let some : below_of depth (scope_below scope reader own e) inner es ≡ inside = ap (λ b. cond b inside (Ok [])) (sym c.is_above-follow.ensures ∙ c.if-not-follow.false) in
    let first = subst (λ sub. Encodes (fitted f (before (Ok []) (inside_of (depth + 1) sub inner es))) one last result) c.scope_below-scope.ensures c.put_below.ensures.encodes in
    let all = ap₂ (λ r s. fitted f (before (alone r) s)) (sym is) (sym some)
    ∙ attribute_same octets scope depth x c.args.index own e es inner f reader follow c.type_for-nla_type.ensures c.reader_for-reader.ensures c.is_above-follow.ensures in
    let own_or_none = nothing_own scope reader e octets p own (sym (ap (λ b. value_payload scope reader own b e octets) c.if-not-follow.false) ∙ is) in
    subst (λ s. Encodes s room last result) all
    (⊎_elim
    (λ none. subst (λ q. Encodes (fitted f (before (Ok q) inside)) room last result) (sym none) (encodes_behind f (before (Ok []) inside) room one last result (subst (λ q. StoresAt 4 (padded q) room one) none put) first))
    (λ bad. let same = subst (λ sub. Encodes (fitted f (before (Ok []) (inside_of (depth + 1) sub inner es))) one last result) bad first in
    subst (λ sub. Encodes (fitted f (before (Ok p) (inside_of (depth + 1) sub inner es))) room last result) (sym bad) (same.0, same.1 ∙ put.same))
    own_or_none)

pub put_below-returns-clause-encodes : goal.put_below-returns-clause-encodes
put_below-returns-clause-encodes t c =
    let f = c.args.nla_type in
    let depth = c.args.level.now.depth in
    let es = c.args.others.now in
    let others = inside_of (depth + 1) c.args.scope (inner_of c.args.octets.now depth (kinds_of c.args.level.now.context) es) es in
    let room = c.args.room.now in
    let from = c.min-from.result in
    let sub = c.put_inside.new.room in
    let size = c.in-Ok.size in
    let one = put_mid from (length room - from) room sub in
    let two = c.store_padding.new.room in
    let last = c.store_header.new.room in
    let (t, is, count, placed) = encodes_ok others (take (length room - from) (drop from room)) sub size c.in-Ok.ensures.encodes in
    let same : size ≡ length t = omega (arith, count, c.if-size-gt-MAX_PAYLOAD.false) in
    let short : length t ≤ max_payload = omega (arith, same, c.if-size-gt-MAX_PAYLOAD.false) in
    let part = stored_part 4 from t room sub one (omega (arith, c.min-from.ensures)) placed refl in
    let padding = subst (λ n. StoresAt (4 + n) (replicate (pad (4 + n) - (4 + n)) 0) one two) same c.store_padding.ensures in
    let head = subst (λ n. StoresAt 0 (header f n) two last) same c.store_header.ensures.stored in
    let frame = stored_frame f t room two last (stored_padded t room one two part padding) head in
    let result = subst (λ n. c.store_header.result ≡ pad (4 + n)) same c.store_header.ensures.length in
    subst (λ s. Encodes (fitted f (before (Ok []) s)) room last (Ok c.store_header.result)) (sym is) (encodes_frame f t c.store_header.result room last short frame result)

pub put_values-loop-entry-preserved-in-Ok : goal.put_values-loop-entry-preserved-in-Ok
put_values-loop-entry-preserved-in-Ok t c =
    let octets = c.args.octets.now in
    let scope = c.args.level.now.scope in
    let depth = c.args.level.now.depth in
    let x = kinds_of c.args.level.now.context in
    let room = c.loop-entry.room in
    let from = c.min-from.result in
    let sub = c.put_value.new.room in
    let (text, i, count, size, stored, reached) = c.loop-entry.invariant in
    let e = c.in-Some.entry.now in
    let es = c.in-Some.others.now in
    let all = values_of octets scope depth x 0 c.args.entries.now in
    let next = reached_by all _ _ text i reached (ap (values_of octets scope depth x i) c.in-Some.ensures.cases.0 ∙ value_here octets scope depth x i e es c.if-entry-level-2.true) in
    let place : length c.args.entries.now - length c.loop-entry.rest.now ≡ i = omega (arith, count) in
    let here : _ ≡ value_of octets scope depth x i e es (inner_of octets depth x es) = ap (λ j. value_of octets scope depth x j e es (inner_of octets depth x es)) place in
    let (s, is, n, placed) = encodes_ok (value_of octets scope depth x (length c.args.entries.now - length c.loop-entry.rest.now) e es (inner_of octets depth x es)) (take (length room - from) (drop from room)) sub c.in-Ok.size c.in-Ok.ensures.encodes in (
      text ++ s,
      i + 1,
      omega (arith, count, c.in-Some.ensures.cases.1),
      omega (arith, length-append text s, size, n, c.saturating_add-len.ensures),
      stored_more text s c.args.room.now room sub _ from stored (omega arith) (omega (arith, size, c.min-from.ensures)) placed refl,
      reached_more all (values_of octets scope depth x (i + 1) es) text s i _ next (sym here ∙ is),
    )

pub put_values-loop-entry-preserved : goal.put_values-loop-entry-preserved
put_values-loop-entry-preserved t c =
    let octets = c.args.octets.now in
    let scope = c.args.level.now.scope in
    let depth = c.args.level.now.depth in
    let x = kinds_of c.args.level.now.context in
    let (text, i, count, size, stored, reached) = c.loop-entry.invariant in
    let e = c.in-Some.entry.now in
    let es = c.in-Some.others.now in
    let all = values_of octets scope depth x 0 c.args.entries.now in
    let next = reached_by all _ _ text i reached (ap (values_of octets scope depth x i) c.in-Some.ensures.cases.0 ∙ value_skipped octets scope depth x i e es c.if-entry-level.false c.if-entry-level-2.false) in
    (text, i + 1, omega (arith, count, c.in-Some.ensures.cases.1), size, stored, reached_skip all (values_of octets scope depth x (i + 1) es) text i (Ok []) next refl)

pub put_values-returns-in-Err-clause-encodes : goal.put_values-returns-in-Err-clause-encodes
put_values-returns-in-Err-clause-encodes t c =
    let octets = c.args.octets.now in
    let scope = c.args.level.now.scope in
    let depth = c.args.level.now.depth in
    let x = kinds_of c.args.level.now.context in
    let room = c.loop-entry.room in
    let from = c.min-from.result in
    let sub = c.put_value.new.room in
    let first = c.in-Err.first in
    let (text, i, count, size, stored, reached) = c.loop-entry.invariant in
    let e = c.in-Some.entry.now in
    let es = c.in-Some.others.now in
    let all = values_of octets scope depth x 0 c.args.entries.now in
    let next = reached_by all _ _ text i reached (ap (values_of octets scope depth x i) c.in-Some.ensures.cases.0 ∙ value_here octets scope depth x i e es c.if-entry-level-2.true) in
    let place : length c.args.entries.now - length c.loop-entry.rest.now ≡ i = omega (arith, count) in
    let here : _ ≡ value_of octets scope depth x i e es (inner_of octets depth x es) = ap (λ j. value_of octets scope depth x j e es (inner_of octets depth x es)) place in
    let (bad, same) = encodes_err (value_of octets scope depth x (length c.args.entries.now - length c.loop-entry.rest.now) e es (inner_of octets depth x es)) (take (length room - from) (drop from room)) sub first c.in-Err.ensures.encodes in
    encodes_error all (values_of octets scope depth x (i + 1) es) text i c.args.room.now _ _ first.index first.misfit _ next (sym here ∙ bad) (omega (arith, count))
    (part_length from room sub _ (omega (arith, c.min-from.ensures)) same refl ∙ stored.same)
