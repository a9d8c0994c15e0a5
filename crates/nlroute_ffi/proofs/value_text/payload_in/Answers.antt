use Rattle.std.proofs.Common.{◌≡◌, ◌+◌, ◌-◌, ◌∙◌, length, sym, arith}
use Rattle.link_entries.specs.declared.entry.Entry.{Entry}
use Rattle.link_entries.specs.Payload.{payload_of}
use Rattle.link_entries.proofs.StoredBytes.{sized_err}
use Rattle.nlroute_ffi.proofs.ShownBytes.{passed_shown, stored_shown}
use Rattle.nlroute_ffi.proofs.value_text.payload_in.Goals as goal

pub returns-in-Err : goal.returns-in-Err
returns-in-Err c = sized_err (payload_of c.args.fields (record c.args.entry { kind = c.args.of_kind }) c.args.octets.now) c.in-Err.misfit c.in-Err.ensures.size

pub returns-then-not-is_passed : goal.returns-then-not-is_passed
returns-then-not-is_passed c =
    let e : Entry = record c.args.entry { kind = c.args.of_kind } in
    let held : length c.args.entry.octets ≡ 16 = omega arith in
    stored_shown c.args.fields e c.args.octets.now c.args.room.now c.put_payload.new.room c.in-Ok.n (4 + c.in-Ok.n - 4) held (sym c.is_passed.ensures ∙ c.if-not-is_passed.true) c.in-Ok.ensures.size c.in-Ok.ensures.stored (omega arith) (omega arith)

pub returns : goal.returns
returns c =
    let e : Entry = record c.args.entry { kind = c.args.of_kind } in
    passed_shown c.args.fields e c.args.octets.now c.in-Ok.n (c.args.entry.offset + c.args.entry.length - c.args.entry.offset) (sym c.is_passed.ensures ∙ c.if-not-is_passed.false) c.in-Ok.ensures.size (omega arith)
