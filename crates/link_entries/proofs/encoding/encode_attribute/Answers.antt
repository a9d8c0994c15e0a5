use Rattle.std.proofs.Common.{◌≡◌, ◌∙◌, ◌+◌, ◌≤◌, [], sym, ap, ap₂, subst, refl, Ok, Err, ⊎_elim}
use Rattle.std.proofs.lemmas.List.{append-nil}
use Rattle.link_base.specs.Borrowed.{elements_at}
use Rattle.link_base.specs.Frame.{max_payload, pad}
use Rattle.link_entries.specs.declared.fields.Fields.{Fields}
use Rattle.link_entries.specs.Payload.{payload_of, field_of}
use Rattle.link_entries.specs.Encoded.{Encoding, alone, before, fitted, elements_of, attribute_by}
use Rattle.link_entries.specs.Stored.{StoresAt, StoresPayload, Encodes, header, padded}
use Rattle.link_entries.proofs.BackElements.{elements_end}
use Rattle.link_entries.proofs.Below.{below}
use Rattle.link_entries.proofs.StoredBytes.{sized_ok, sized_err, stored_frame, encodes_frame, fitted_low, encodes_behind}
use Rattle.link_entries.proofs.encoding.encode_attribute.Goals as goal

pub returns-in-Err-clause-encodes : goal.returns-in-Err-clause-encodes
returns-in-Err-clause-encodes g c =
    let e = c.args.entry.now in
    let octets = c.args.octets.now in
    let es = c.args.others.now in
    let table = g.F.Meaning.table in
    let own = c.fields_of-own.result in
    let room = c.args.room.now in
    let new = c.put_payload.new.room in
    let bad = sized_err (payload_of own e octets) c.in-Err.misfit c.in-Err.ensures.size in
    let all = ap (λ r. fitted (field_of own e.kind e) (before (alone r) (elements_of (elements_at table e.kind) own e.kind octets 0 es))) (sym bad) ∙ ap (λ o. attribute_by table o octets e es) c.fields_of-own.ensures.value in
    subst (λ s. Encodes s room new (Err (record { index = 0; misfit = c.in-Err.misfit }))) all (refl, subst (λ r. StoresPayload r room new) bad c.in-Err.ensures.stored)

pub returns-then-begins_well-clause-encodes : goal.returns-then-begins_well-clause-encodes
returns-then-begins_well-clause-encodes g c =
    let e = c.args.entry.now in
    let octets = c.args.octets.now in
    let es = c.args.others.now in
    let table = g.F.Meaning.table in
    let own = c.fields_of-own.result in
    let room = c.args.room.now in
    let one = c.put_payload.new.room in
    let last = c.store_header.new.room in
    let f = field_of own e.kind e in
    let kf = c.field_of-kind_field.result in
    let n = c.store_header.result in
    let (p, is, size) = sized_ok (payload_of own e octets) c.in-Ok.size c.in-Ok.ensures.size in
    let none = elements_end (elements_at table e.kind) own e.kind octets 0 es (sym c.begins_well.ensures ∙ c.if-begins_well.true) in
    let put = subst (λ r. StoresPayload r room one) is c.in-Ok.ensures.stored in
    let head = subst (λ m. StoresAt 0 (header kf m) one last) size c.store_header.ensures.stored in
    let short = subst (λ m. m ≤ max_payload) size c.in-Ok.ensures.short in
    let frame = encodes_frame kf p n room last short (stored_frame kf p room one last put head) (subst (λ m. n ≡ pad (4 + m)) size c.store_header.ensures.length) in
    let all = ap (λ k. fitted k (Ok p)) c.field_of-kind_field.ensures ∙ fitted_low f (Ok p) ∙ ap (λ q. fitted f (Ok q)) (sym (append-nil p))
    ∙ ap₂ (λ r s. fitted f (before (alone r) s)) (sym is) (sym none) ∙ ap (λ o. attribute_by table o octets e es) c.fields_of-own.ensures.value in
    subst (λ s. Encodes s room last (Ok n)) all frame

pub returns-clause-encodes : goal.returns-clause-encodes
returns-clause-encodes g c =
    let e = c.args.entry.now in
    let octets = c.args.octets.now in
    let es = c.args.others.now in
    let table = g.F.Meaning.table in
    let own = c.fields_of-own.result in
    let room = c.args.room.now in
    let one = c.put_payload.new.room in
    let last = c.encode_list_attribute.new.room in
    let f = field_of own e.kind e in
    let kf = c.field_of-kind_field.result in
    let result = c.encode_list_attribute.result in
    let below_by : Fields → Encoding = λ o. elements_of (elements_at table e.kind) o e.kind octets 0 es in
    let (p, is, size) = sized_ok (payload_of own e octets) c.in-Ok.size c.in-Ok.ensures.size in
    let put = subst (λ r. StoresPayload r room one) is c.in-Ok.ensures.stored in
    let row = c.fields_of-own.ensures.value in
    let others = below (elements_at table e.kind) e.kind e octets p own es (sym c.begins_well.ensures ∙ c.if-begins_well.false) is in
    let first = subst (λ s. Encodes s one last result) (ap (λ o. fitted kf (before (Ok []) (below_by o))) (sym row) ∙ ap (λ k. fitted k (before (Ok []) (below_by own))) c.field_of-kind_field.ensures ∙ fitted_low f (before (Ok []) (below_by own))) c.encode_list_attribute.ensures.encodes in
    let all = ap (λ r. fitted f (before (alone r) (below_by own))) (sym is) ∙ ap (λ o. attribute_by table o octets e es) row in
    subst (λ s. Encodes s room last result) all
    (⊎_elim
    (λ none. subst (λ q. Encodes (fitted f (before (Ok q) (below_by own))) room last result) (sym none) (encodes_behind f (before (Ok []) (below_by own)) room one last result (subst (λ q. StoresAt 4 (padded q) room one) none put) first))
    (λ bad. let same = subst (λ s. Encodes (fitted f (before (Ok []) s)) one last result) bad first in
    subst (λ s. Encodes (fitted f (before (Ok p) s)) room last result) (sym bad) (same.0, same.1 ∙ put.same))
    others)
