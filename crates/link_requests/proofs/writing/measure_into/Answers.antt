use Rattle.std.proofs.Common.{◌∙◌, sym}
use Rattle.link_requests.specs.Request.{attributes_of}
use Rattle.link_entries.proofs.StoredBytes.{encodes_ok, encodes_err}
use Rattle.link_requests.proofs.Requests.{measured_fits, measured_large, measured_bad}
use Rattle.link_requests.proofs.writing.measure_into.Goals as goal

pub returns-in-Ok-clause-size : goal.returns-in-Ok-clause-size
returns-in-Ok-clause-size c =
    let head = c.args.head.now in
    let octets = c.args.octets.now in
    let es = c.args.values.now in
    let (s, is, count, stored) = encodes_ok (attributes_of head octets es) c.args.room.now c.put_attributes.new.out c.in-Ok.size c.in-Ok.ensures in
    measured_large head octets es s c.in-Ok.size (sym c.head_error.ensures ∙ c.in-None.is) is count c.if-size-gt-MOST_ATTRIBUTES.true

pub returns-in-Ok-2-clause-size : goal.returns-in-Ok-2-clause-size
returns-in-Ok-2-clause-size c =
    let head = c.args.head.now in
    let octets = c.args.octets.now in
    let es = c.args.values.now in
    let (s, is, count, stored) = encodes_ok (attributes_of head octets es) c.args.room.now c.put_attributes.new.out c.in-Ok.size c.in-Ok.ensures in
    measured_fits head octets es s c.in-Ok.size (sym c.head_error.ensures ∙ c.in-None.is) is count c.if-size-gt-MOST_ATTRIBUTES.false

pub returns-in-Ok-2-clause-stored : goal.returns-in-Ok-2-clause-stored
returns-in-Ok-2-clause-stored c = c.in-Ok.ensures.1

pub returns-in-Err-clause-size : goal.returns-in-Err-clause-size
returns-in-Err-clause-size c =
    let head = c.args.head.now in
    let octets = c.args.octets.now in
    let es = c.args.values.now in
    measured_bad head octets es c.in-Err.first (sym c.head_error.ensures ∙ c.in-None.is) (encodes_err (attributes_of head octets es) c.args.room.now c.put_attributes.new.out c.in-Err.first c.in-Err.ensures).0
