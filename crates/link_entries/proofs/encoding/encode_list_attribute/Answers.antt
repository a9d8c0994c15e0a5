use borrow.Rule.Slice.PartMut.{put_mid}
use Rattle.std.proofs.Common.{◌≡◌, ◌+◌, ◌-◌, ◌≤◌, [], length, take, drop, replicate, refl, sym, subst, arith, Ok}
use Rattle.link_base.specs.Borrowed.{elements_at}
use Rattle.link_base.specs.Frame.{max_payload, pad}
use Rattle.link_entries.specs.Fields.{fields_at}
use Rattle.link_entries.specs.Encoded.{before, fitted, elements_of}
use Rattle.link_entries.specs.Stored.{StoresAt, Encodes, header}
use Rattle.link_entries.proofs.StoredBytes.{encodes_ok, stored_part, stored_padded, stored_frame, encodes_frame}
use Rattle.link_entries.proofs.encoding.encode_list_attribute.Goals as goal

pub returns-clause-encodes : goal.returns-clause-encodes
returns-clause-encodes g c =
    let k = c.args.kind in
    let f = c.args.kind_field in
    let others = elements_of (elements_at g.F.Meaning.table k) (fields_at g.F.Meaning.table k) k c.args.octets.now 0 c.args.others.now in
    let room = c.args.room.now in
    let from = c.min-from.result in
    let sub = c.encode_elements.new.room in
    let size = c.in-Ok.size in
    let one = put_mid from (length room - from) room sub in
    let two = c.store_padding.new.room in
    let last = c.store_header.new.room in
    let (t, is, count, placed) = encodes_ok others (take (length room - from) (drop from room)) sub size c.in-Ok.ensures.encodes in
    let same : size ≡ length t = omega (arith, count, c.if-size-gt-MAX_PAYLOAD.false) in
    let short : length t ≤ max_payload = omega (arith, same, c.if-size-gt-MAX_PAYLOAD.false) in
    let part = stored_part 4 from t room sub one (omega (arith, c.min-from.ensures)) placed refl in
    let padding = subst (λ n. StoresAt (4 + n) (replicate (pad (4 + n) - (4 + n)) 0) one two) same c.store_padding.ensures in
    let head = subst (λ n. StoresAt 0 (header f n) two last) same c.store_header.ensures.stored in
    let frame = stored_frame f t room two last (stored_padded t room one two part padding) head in
    let result = subst (λ n. c.store_header.result ≡ pad (4 + n)) same c.store_header.ensures.length in
    subst (λ s. Encodes (fitted f (before (Ok []) s)) room last (Ok c.store_header.result)) (sym is) (encodes_frame f t c.store_header.result room last short frame result)
