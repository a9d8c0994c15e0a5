use Rattle.link_entries.specs.Payload.{payload_of}
use Rattle.link_entries.proofs.StoredBytes.{framed_err, framed_unstored, framed_stored}
use Rattle.link_entries.proofs.encoding.encode_framed.Goals as goal

pub returns-in-Ok-clause-stored : goal.returns-in-Ok-clause-stored
returns-in-Ok-clause-stored c =
    framed_stored (payload_of c.args.own (record c.args.entry.now { kind = c.args.of_kind }) c.args.octets.now) c.args.kind_field c.in-Ok.size c.args.room.now c.put_payload.new.room c.store_header.new.room
    c.in-Ok.ensures.size c.in-Ok.ensures.stored c.store_header.ensures.stored

pub returns-in-Err-clause-size : goal.returns-in-Err-clause-size
returns-in-Err-clause-size c =
    framed_err (payload_of c.args.own (record c.args.entry.now { kind = c.args.of_kind }) c.args.octets.now) c.args.kind_field c.in-Err.misfit c.in-Err.ensures.size

pub returns-in-Err-clause-stored : goal.returns-in-Err-clause-stored
returns-in-Err-clause-stored c =
    framed_unstored (payload_of c.args.own (record c.args.entry.now { kind = c.args.of_kind }) c.args.octets.now) c.args.kind_field c.in-Err.misfit c.args.room.now c.put_payload.new.room c.in-Err.ensures.size c.in-Err.ensures.stored
