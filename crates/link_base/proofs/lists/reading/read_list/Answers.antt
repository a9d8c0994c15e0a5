use Rattle.std.proofs.Common.{◌≡◌, ◌<◌, ◌+◌, ◌++◌, ℕ, Err, Ok, ◌∷◌, [], drop, get_or, map, length, refl, sym, ap, subst, ◌∙◌, arith}
use Rattle.std.proofs.Common.{Vec}
use Rattle.std.specs.Global.{Global}
use Rattle.std.proofs.lemmas.List.{map-append}
use Rattle.link_base.specs.Table.{Gives}
use Rattle.link_base.specs.Frame.{BeginsWith}
use Rattle.link_base.specs.Buffer.{kind_field_of, payload_of, frame_of}
use Rattle.link_base.specs.FrameOffsets.{Finds}
use Rattle.link_base.specs.FrameTableParts.{offsets_of, fault_of}
use Rattle.link_base.proofs.TableReads.{on_list_memory, fault_unless, first_frame, first_frame-room, reads_none, reads_more, ends_at_value, ends_at_frame, reads_all}
use Rattle.link_base.proofs.lists.reading.read_list.Goals as goal

pub returns-in-Err-with_capacity-clause-memory : goal.returns-in-Err-with_capacity-clause-memory
returns-in-Err-with_capacity-clause-memory g c =
    let table = c.find_frames.new.self in
    first_frame-room c.args.bytes.now (offsets_of table) (fault_of table) c.len.result (subst (λ s. Finds s (offsets_of c.find_frames.new.self) (fault_of c.find_frames.new.self)) c.before_walk-table.ensures.bytes c.in_default.ensures.finds) c.len.ensures c.in-Err-with_capacity.ensures.succeeds

pub loop-i-init : goal.loop-i-init
loop-i-init g c = record {
  reads = reads_none (Gives g.F.Meaning.table) c.args.bytes.now (offsets_of c.find_frames.new.self) (fault_of c.find_frames.new.self) 0 _ (subst (λ s. Finds s (offsets_of c.find_frames.new.self) (fault_of c.find_frames.new.self)) c.before_walk-table.ensures.bytes c.in_default.ensures.finds) refl (ap (map g.F.Meaning.means) c.in-Ok.ensures.items);
  len = c.in-Ok.ensures.len;
  room = c.in-Ok.ensures.exact ∙ c.len.ensures;
}

pub returns-in-Err-parse_into-clause-answer : goal.returns-in-Err-parse_into-clause-answer
returns-in-Err-parse_into-clause-answer g c =
    let offsets = offsets_of c.find_frames.new.self in
    let b = c.frame.result in
    let i = c.loop-i.i in
    let lt : i < length offsets = omega (arith, c.loop-i-test.true, c.loop-i.auto.i-end, c.len-i-end.ensures) in
    let begins : BeginsWith (drop (get_or offsets i 0) c.args.bytes.now) (frame_of b) = subst (λ s. BeginsWith (drop (get_or offsets i 0) s) (frame_of b)) (c.in_default.ensures.bytes ∙ c.before_walk-table.ensures.bytes) c.frame.ensures in
    rw c.at.ensures (rw c.offset.ensures (ends_at_value (Gives g.F.Meaning.table) c.args.bytes.now offsets (fault_of c.find_frames.new.self) i _ (kind_field_of b) (payload_of b) c.in-Err-parse_into.error
    c.loop-i.invariant.reads lt begins c.in-Err-parse_into.ensures.answer.0))

pub returns-in-Err-parse_into-clause-memory : goal.returns-in-Err-parse_into-clause-memory
returns-in-Err-parse_into-clause-memory g c =
    let offsets = offsets_of c.find_frames.new.self in
    let some : 0 < length offsets = omega (arith, c.loop-i-test.true, c.loop-i.auto.i-end, c.len-i-end.ensures) in
    on_list_memory {X = ℕ} (Err c.at.result) _ (first_frame c.args.bytes.now offsets (fault_of c.find_frames.new.self) (subst (λ s. Finds s (offsets_of c.find_frames.new.self) (fault_of c.find_frames.new.self)) c.before_walk-table.ensures.bytes c.in_default.ensures.finds) some)

pub loop-i-preserved : goal.loop-i-preserved
loop-i-preserved g c =
    let means = g.F.Meaning.means in
    let offsets = offsets_of c.find_frames.new.self in
    let b = c.frame.result in
    let i = c.loop-i.i in
    let lt : i < length offsets = omega (arith, c.loop-i-test.true, c.loop-i.auto.i-end, c.len-i-end.ensures) in
    let begins : BeginsWith (drop (get_or offsets i 0) c.args.bytes.now) (frame_of b) = subst (λ s. BeginsWith (drop (get_or offsets i 0) s) (frame_of b)) (c.in_default.ensures.bytes ∙ c.before_walk-table.ensures.bytes) c.frame.ensures in
    let (value, longer, given) = c.in_default-parse_into.ensures.answer in
    let meant : map means c.parse_into.new.place.items ≡ map means c.loop-i.values.items ++ means value ∷ [] = ap (map means) longer.0 ∙ map-append means c.loop-i.values.items (value ∷ []) in
    record {
      reads = rw meant (reads_more (Gives g.F.Meaning.table) c.args.bytes.now offsets (fault_of c.find_frames.new.self) i _ (kind_field_of b) (payload_of b) (means value) c.loop-i.invariant.reads lt begins given);
      len = longer.1 ∙ ap (λ n. n + 1) c.loop-i.invariant.len;
      room = longer.2 ∙ c.loop-i.invariant.room;
    }

pub returns-in-Some-clause-answer : goal.returns-in-Some-clause-answer
returns-in-Some-clause-answer g c =
    let table = c.find_frames.new.self in
    rw c.at-in-Some.ensures (ends_at_frame (Gives g.F.Meaning.table) c.args.bytes.now (offsets_of table) (fault_of table) c.loop-i.i _ c.in-Some.at c.in-Some.cause (sym c.fault.ensures ∙ c.in-Some.is)
    c.loop-i.invariant.reads (omega (arith, c.loop-i-test.false, c.len-i-end.ensures)))

pub returns-clause-answer : goal.returns-clause-answer
returns-clause-answer g c =
    let table = c.find_frames.new.self in
    reads_all (Gives g.F.Meaning.table) c.args.bytes.now (offsets_of table) (fault_of table) c.loop-i.i _ (sym c.fault.ensures ∙ c.in-None.is) c.loop-i.invariant.reads
    (omega (arith, c.loop-i-test.false, c.len-i-end.ensures))

pub returns-in-Err-parse_into-clause-fault : goal.returns-in-Err-parse_into-clause-fault
returns-in-Err-parse_into-clause-fault g c = fault_unless g.F.Meaning.table g.met.F.Attribute.lawful.reading (λ (vs : Vec g.row.F.Denot Global). map g.F.Meaning.means vs.items) c.args.bytes.now (Err c.at.result) (returns-in-Err-parse_into-clause-answer g c)

pub returns-in-Some-clause-fault : goal.returns-in-Some-clause-fault
returns-in-Some-clause-fault g c = fault_unless g.F.Meaning.table g.met.F.Attribute.lawful.reading (λ (vs : Vec g.row.F.Denot Global). map g.F.Meaning.means vs.items) c.args.bytes.now (Err c.at-in-Some.result) (returns-in-Some-clause-answer g c)

pub returns-clause-fault : goal.returns-clause-fault
returns-clause-fault g c = fault_unless g.F.Meaning.table g.met.F.Attribute.lawful.reading (λ (vs : Vec g.row.F.Denot Global). map g.F.Meaning.means vs.items) c.args.bytes.now (Ok c.loop-i.values) (returns-clause-answer g c)
