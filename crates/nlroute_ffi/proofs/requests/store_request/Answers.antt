use Rattle.std.proofs.Common.{rules, length}
use Rattle.link_requests.specs.Request.{request_of}
use Rattle.nlroute_ffi.proofs.Requested.{written, short, too_small, small_unchanged, refused, refused_unchanged}
use Rattle.nlroute_ffi.proofs.requests.store_request.Goals as goal

pub returns-in-Ok-Some-clause-answer : goal.returns-in-Ok-Some-clause-answer
returns-in-Ok-Some-clause-answer c = written (request_of c.args.head.now c.args.octets.now c.args.values.now) (length c.args.values.now) c.in-Ok-Some.count c.args.at.now c.args.out.now c.write_request.new.out c.in-Ok-Some.field-0 (search rules) c.in-Ok-Some.ensures

pub returns-in-Ok-Some-clause-bounded : goal.returns-in-Ok-Some-clause-bounded
returns-in-Ok-Some-clause-bounded c = short (request_of c.args.head.now c.args.octets.now c.args.values.now) c.in-Ok-Some.count c.args.out.now c.write_request.new.out c.in-Ok-Some.field-0 (search rules) c.in-Ok-Some.ensures (search rules)

pub returns-in-Ok-None-clause-answer : goal.returns-in-Ok-None-clause-answer
returns-in-Ok-None-clause-answer c = too_small (request_of c.args.head.now c.args.octets.now c.args.values.now) (length c.args.values.now) c.length_of.result c.args.at.now c.args.out.now c.write_request.new.out c.in-Ok-None.field-0 (search rules) c.in-Ok-None.ensures c.length_of.ensures

pub returns-in-Ok-None-clause-unchanged : goal.returns-in-Ok-None-clause-unchanged
returns-in-Ok-None-clause-unchanged c = small_unchanged (request_of c.args.head.now c.args.octets.now c.args.values.now) c.args.out.now c.write_request.new.out c.in-Ok-None.field-0 (search rules) c.in-Ok-None.ensures

pub returns-in-Err-clause-answer : goal.returns-in-Err-clause-answer
returns-in-Err-clause-answer c = refused (request_of c.args.head.now c.args.octets.now c.args.values.now) c.in-Err.error (length c.args.values.now) c.index_of.result c.args.at.now c.args.out.now c.write_request.new.out c.refused_request.result c.in-Err.ensures c.index_of.ensures c.refused_request.ensures

pub returns-in-Err-clause-unchanged : goal.returns-in-Err-clause-unchanged
returns-in-Err-clause-unchanged c = refused_unchanged (request_of c.args.head.now c.args.octets.now c.args.values.now) c.in-Err.error c.args.out.now c.write_request.new.out c.in-Err.ensures
