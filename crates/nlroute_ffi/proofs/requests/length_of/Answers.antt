use Rattle.link_requests.specs.Request.{request_of}
use Rattle.nlroute_ffi.proofs.Requested.{sized_ok, sized_err}
use Rattle.nlroute_ffi.proofs.requests.length_of.Goals as goal

pub returns-in-Ok : goal.returns-in-Ok
returns-in-Ok c = sized_ok (request_of c.args.head.now c.args.octets.now c.args.values.now) c.in-Ok.len c.in-Ok.ensures

pub returns-in-Err : goal.returns-in-Err
returns-in-Err c = sized_err (request_of c.args.head.now c.args.octets.now c.args.values.now) c.in-Err.field-0 0 c.in-Err.ensures
