use Rattle.std.proofs.Common.{◌-◌, length, take, drop, refl, subst, arith}
use Rattle.link_entries.specs.Stored.{StoresAt}
use Rattle.link_requests.specs.Request.{request_of}
use Rattle.link_requests.proofs.Requests.{is_written, in_front, stored_request, no_room, not_written, no_error}
use Rattle.link_requests.proofs.writing.write_request.Goals as goal

pub overflow_cast-length : goal.overflow_cast-length
overflow_cast-length c =
    let w = is_written c.args.head.now c.args.octets.now c.args.values.now c.in-Ok.length c.in-Ok.ensures.size in
    omega (arith, w.size, w.short)

pub place_attributes-requires : goal.place_attributes-requires
place_attributes-requires c =
    let head = c.args.head.now in
    let octets = c.args.octets.now in
    let es = c.args.values.now in
    let w = is_written head octets es c.in-Ok.length c.in-Ok.ensures.size in
    in_front head octets es c.in-Ok.length _ c.measure_into.new.room w c.in-Ok.ensures.stored

pub returns-in-Ok-place_attributes : goal.returns-in-Ok-place_attributes
returns-in-Ok-place_attributes c =
    let head = c.args.head.now in
    let octets = c.args.octets.now in
    let es = c.args.values.now in
    let out = c.args.out.now in
    let one = c.store.new.room in
    let two = c.store-in-Ok-2.new.room in
    let n = c.in-Ok.length in
    stored_request head octets es n out one two c.place_attributes.new.room _ (is_written head octets es n c.in-Ok.ensures.size) c.if-length-out.false
    (subst (λ s. StoresAt 0 s out one) c.message_head.ensures c.store.ensures) (subst (λ s. StoresAt 16 s one two) c.link_head.ensures c.store-in-Ok-2.ensures)
    c.in-Ok-place_attributes.field-0 c.in-Ok-place_attributes.ensures refl

pub returns-in-Err-place_attributes : goal.returns-in-Err-place_attributes
returns-in-Err-place_attributes c =
    let head = c.args.head.now in
    let octets = c.args.octets.now in
    let es = c.args.values.now in
    let two = c.store-in-Ok-2.new.room in
    no_error head octets es c.in-Ok.length (take (length two - 32) (drop 32 two)) c.place_attributes.new.room c.in-Err-place_attributes.first (is_written head octets es c.in-Ok.length c.in-Ok.ensures.size) c.in-Err-place_attributes.ensures

pub returns-in-Ok : goal.returns-in-Ok
returns-in-Ok c =
    let head = c.args.head.now in
    let octets = c.args.octets.now in
    let es = c.args.values.now in
    no_room head octets es c.in-Ok.length c.args.out.now (is_written head octets es c.in-Ok.length c.in-Ok.ensures.size) c.if-length-out.true

pub returns-in-Err : goal.returns-in-Err
returns-in-Err c = not_written (request_of c.args.head.now c.args.octets.now c.args.values.now) c.in-Err.error c.args.out.now c.in-Err.ensures.size
