use Rattle.std.proofs.Common.{◌≡◌, ◌≢◌, ◌≤◌, ℕ, length, take, drop, ◌+◌, ◌-◌, Option, Ok, [], ◌∷◌, ◌++◌, refl, sym, ap, subst, ◌∙◌, arith}
use Rattle.std.specs.List.{AllByRecursion}
use Rattle.std.proofs.lemmas.Grind.{common_steps}
use Rattle.std.proofs.lemmas.List.{length-append, length-take, length-drop}
use borrow.Rule.Slice.PartMut.{put_mid}
use Rattle.link_base.specs.Frame.{pad, frame_bytes}
use Rattle.link_base.specs.Buffer.{kind_field_of, payload_of, frame_of}
use Rattle.link_base.specs.Table.{AttrValue, Gives, Fits, written_frame, written_list}
use Rattle.link_base.specs.Rewritten.{PutsFrame, RewrittenInto}
use Rattle.link_base.proofs.Numbers.{IsBytes-index}
use Rattle.link_base.proofs.FrameAtFront.{Splits, splits, step_of}
use Rattle.link_base.proofs.Streaming.{underway_none, underway_more, ends_at_rest, ends_at_next, fails_by, needs_memory, put_back, none_of, room_next, step_written, step_left, into_all, into_unfit, SoFar, Stepped}
use Rattle.link_base.proofs.lists.rewriting.rewrite_list.Goals.{in-None, in-Some}
use Rattle.link_base.proofs.lists.rewriting.rewrite_list.Goals as goal

pub loop-rest-init : goal.loop-rest-init
loop-rest-init g c = record {
  vs = [];
  underway = underway_none (Gives g.F.Meaning.table) c.args.bytes.now;
  wrote = record { so_far = (tt, refl, refl); behind = refl; low = omega arith };
  few = omega arith;
  count = refl;
}

pub overflow_sub-bytes : goal.overflow_sub-bytes
overflow_sub-bytes g c = omega (arith, c.loop-rest.invariant.few)

pub returns-in-Err-clause-answer : goal.returns-in-Err-clause-answer
returns-in-Err-clause-answer g c =
    let i = c.loop-rest.invariant in
    let some : c.loop-rest.rest.now ≢ [] = λ e. grind (arith, common_steps) in
    ends_at_rest (Gives g.F.Meaning.table) c.args.bytes.now c.loop-rest.place c.loop-rest.rest.now i.vs _ c.in-Err.cause i.underway some refl c.in-Err.ensures

pub returns-in-Err-clause-behind : goal.returns-in-Err-clause-behind
returns-in-Err-clause-behind g c = c.loop-rest.invariant.wrote.behind

pub returns-in-Err-rewrite_frame-clause-answer : goal.returns-in-Err-rewrite_frame-clause-answer
returns-in-Err-rewrite_frame-clause-answer g c =
    let i = c.loop-rest.invariant in
    let b = c.in-Ok.first.0 in
    let e = c.in-Err-rewrite_frame in
    let some : c.loop-rest.rest.now ≢ [] = λ e. grind (arith, common_steps) in
    let fails = ends_at_next (Gives g.F.Meaning.table) c.args.bytes.now c.loop-rest.place c.loop-rest.rest.now i.vs _ (kind_field_of b) (payload_of b) e.error i.underway some refl c.in-Ok.ensures.0 e.ensures.answer.0 in
    let buffer = put_mid c.loop-rest.len (length c.loop-rest.buffer - c.loop-rest.len) c.loop-rest.buffer c.rewrite_frame.new.buffer in
    rw (c.into.ensures, c.at.ensures) (fails_by g.F.Meaning.table c.args.bytes.now (RewrittenInto g.F.Meaning.table c.args.bytes.now c.args.buffer.now buffer) _ fails)

pub returns-in-Err-rewrite_frame-clause-behind : goal.returns-in-Err-rewrite_frame-clause-behind
returns-in-Err-rewrite_frame-clause-behind g c = rw (put_back c.loop-rest.len c.loop-rest.buffer c.rewrite_frame.new.buffer c.in-Err-rewrite_frame.ensures.answer.1) c.loop-rest.invariant.wrote.behind

pub returns-in-Err-rewrite_frame-clause-memory : goal.returns-in-Err-rewrite_frame-clause-memory
returns-in-Err-rewrite_frame-clause-memory g c =
    let i = c.loop-rest.invariant in
    let b = c.in-Ok.first.0 in
    let e = c.in-Err-rewrite_frame in
    let some : c.loop-rest.rest.now ≢ [] = λ e. grind (arith, common_steps) in
    rw (c.into.ensures, c.at.ensures) (needs_memory g.F.Meaning.table c.args.bytes.now c.loop-rest.rest.now c.loop-rest.place (kind_field_of b) _ (payload_of b) i.vs e.error i.underway some
    c.in-Ok.ensures.0 e.ensures.memory)

pub slice_bounds-rewrite_frame-count : goal.slice_bounds-rewrite_frame-count
slice_bounds-rewrite_frame-count g c = omega (arith, c.loop-rest.invariant.wrote.low, c.requires, c.loop-rest.auto.buffer)

pub rewrite_frame-requires : goal.rewrite_frame-requires
rewrite_frame-requires g c v given wanted fits =
    let i = c.loop-rest.invariant in
    let s = c.args.bytes.now in
    let rest = c.loop-rest.rest.now in
    let b = c.in-Ok.first.0 in
    let buffer = c.loop-rest.buffer in
    let len = c.loop-rest.len in
    let some : rest ≢ [] = λ e. grind (arith, common_steps) in
    let none = none_of c.loop-rest.unfit c.is_none.result c.is_none.ensures wanted in
    let all = subst (SoFar i.vs c.args.buffer.now buffer len) none i.wrote.so_far in
    let room = room_next g.met.F.Attribute.lawful s (IsBytes-index s (λ j. omega (arith, c.type_inv.bytes j))) c.loop-rest.place rest (drop (step_of rest (payload_of b)) rest) i.vs (kind_field_of b) (payload_of b) v
    i.underway some (splits rest (kind_field_of b) (payload_of b) c.in-Ok.ensures.0) given all.0 fits in
    omega (arith, room, all.2, c.requires, c.loop-rest.auto.buffer, length-take (length buffer - len) (drop len buffer), length-drop len buffer)

pub overflow_add-place : goal.overflow_add-place
overflow_add-place g c =
    let begins = c.in-Ok.ensures.0 in
    let whole = ap length begins.string ∙ length-append (frame_bytes (frame_of c.in-Ok.first.0)) begins.rest in
    omega (arith, c.loop-rest.invariant.few, whole)

pub loop-rest-smaller : goal.loop-rest-smaller
loop-rest-smaller g c =
    let rest = c.loop-rest.rest.now in
    let begins = c.in-Ok.ensures.0 in
    let x = frame_of c.in-Ok.first.0 in
    let whole = ap length begins.string ∙ length-append (frame_bytes x) begins.rest in
    omega (arith, ap length c.in-Ok.ensures.1, length-drop (step_of rest (payload_of c.in-Ok.first.0)) rest, whole, length-append x.payload x.padding)

pub loop-rest-preserved : goal.loop-rest-preserved
loop-rest-preserved g c =
    let i = c.loop-rest.invariant in
    let s = c.args.bytes.now in
    let rest = c.loop-rest.rest.now in
    let b = c.in-Ok.first.0 in
    let begins = c.in-Ok.ensures.0 in
    let f = kind_field_of b in
    let p = payload_of b in
    let x = frame_of b in
    let table = g.F.Meaning.table in
    let old = c.args.buffer.now in
    let buffer = c.loop-rest.buffer in
    let len = c.loop-rest.len in
    let unfit = c.loop-rest.unfit in
    let out = c.rewrite_frame.new.buffer in
    let n = pad (length s) in
    let some : rest ≢ [] = λ e. grind (arith, common_steps) in
    let split = splits rest f p begins in
    let next = c.in-Ok.ensures.1 in
    let whole = ap length begins.string ∙ length-append (frame_bytes x) begins.rest in
    let room : (v : AttrValue) → Gives table f p (Ok v) → AllByRecursion Fits i.vs → Fits v → length (written_list i.vs) + length (written_frame v) ≤ n = λ v given all fits. room_next g.met.F.Attribute.lawful s (IsBytes-index s (λ j. omega (arith, c.type_inv.bytes j))) c.loop-rest.place rest (drop (step_of rest p) rest) i.vs f p v i.underway some split given all fits in
    let wanted = c.is_none.result in
    let free = c.is_none.ensures in
    let puts : Option ℕ → Type 0 = λ r. PutsFrame table f p wanted (take (length buffer - len) (drop len buffer)) out (Ok r) in
    let answer = c.in-Ok-rewrite_frame.ensures.answer in
    let step : Stepped table f p i.vs old (put_mid len (length buffer - len) buffer out) c.match-written.len c.match-written.unfit n = elim c.match-written.branch [
      | in-Some w ↦ rw (w.len-is, w.unfit-is) (step_written table f p wanted i.vs old buffer out len n w.in-Some.size unfit i.wrote free c.requires room (subst puts w.in-Some.is answer))
      | in-None w ↦ rw (w.len-is, w.unfit-is, w.or-unfit.ensures) (step_left table f p wanted i.vs old buffer out len n c.loop-rest.place unfit i.wrote free i.count (subst puts w.in-None.is answer))
    ] in
    record {
      vs = i.vs ++ step.value ∷ [];
      underway = underway_more (Gives table) s c.loop-rest.place rest c.in-Ok.first.1.now i.vs f p step.value i.underway some (subst (Splits rest f p) (sym next) split) step.given;
      wrote = step.wrote;
      few = omega (arith, i.few, ap length next, length-drop (step_of rest p) rest, whole, length-append x.payload x.padding);
      count = omega (arith, i.count, length-append i.vs (step.value ∷ []));
    }

pub returns-in-Some-unfit-clause-answer : goal.returns-in-Some-unfit-clause-answer
returns-in-Some-unfit-clause-answer g c =
    let i = c.loop-rest.invariant in
    let none : c.loop-rest.rest.now ≡ [] = grind (arith, common_steps) in
    let unfit = subst (SoFar i.vs c.args.buffer.now c.loop-rest.buffer c.loop-rest.len) c.in-Some-unfit.is i.wrote.so_far in
    into_unfit g.F.Meaning.table c.args.bytes.now c.loop-rest.rest.now c.loop-rest.place c.in-Some-unfit.index i.vs i.underway none unfit

pub returns-in-Some-unfit-clause-behind : goal.returns-in-Some-unfit-clause-behind
returns-in-Some-unfit-clause-behind g c = c.loop-rest.invariant.wrote.behind

pub returns-in-None-unfit-clause-answer : goal.returns-in-None-unfit-clause-answer
returns-in-None-unfit-clause-answer g c =
    let i = c.loop-rest.invariant in
    let none : c.loop-rest.rest.now ≡ [] = grind (arith, common_steps) in
    let all = subst (SoFar i.vs c.args.buffer.now c.loop-rest.buffer c.loop-rest.len) c.in-None-unfit.is i.wrote.so_far in
    into_all g.F.Meaning.table c.args.bytes.now c.args.buffer.now c.loop-rest.buffer c.loop-rest.rest.now c.loop-rest.place c.loop-rest.len i.vs i.underway none all

pub returns-in-None-unfit-clause-behind : goal.returns-in-None-unfit-clause-behind
returns-in-None-unfit-clause-behind g c = c.loop-rest.invariant.wrote.behind
