-- A list that is re-encoded one attribute at a time.
use Rattle.std.proofs.Common.{◌≡◌, ◌≢◌, ℕ, Bool, IsTrue, not, false, true, ◌+◌, ◌-◌, ◌<◌, ◌≤◌, List, [], ◌∷◌, ◌++◌, length, take, drop, Option, Some, None, Ok, Err, refl, sym, ap, subst, ◌∙◌, arith, inl, inr, append_assoc}
use Rattle.std.specs.List.{AllByRecursion, AllZip}
use Rattle.std.specs.Option.{is_some, option_or}
use Rattle.std.proofs.lemmas.List.{append-nil, length-append, drop-drop, take-append-drop}
use Rattle.std.proofs.lemmas.Grind.{flat_map-append}
use Rattle.std.proofs.Math.Seq.{drop-append-add}
use borrow.Rule.Slice.PartMut.{put_mid}
use Rattle.link_base.specs.Number.{IsBytes}
use Rattle.link_base.specs.declared.wire.fault.Cause.{Cause}
use Rattle.link_base.specs.declared.wire.fault.DecodeFault.TheVariants as faults
use Rattle.link_base.specs.declared.wire.fault.DecodeError.{DecodeError}
use Rattle.link_base.specs.declared.wire.fault.DecodeError.TheVariants as errors
use Rattle.link_base.specs.declared.wire.fault.ListError.{ListError}
use Rattle.link_base.specs.declared.wire.fault.ListError.TheVariants as list_errors
use Rattle.link_base.specs.Frame.{Frame, BeginsWith, bare, bytes_of_frames, pad, frame_fault, max_payload}
use Rattle.link_base.specs.Wire.{Reading, Wire, FirstFault, FrameGives}
use Rattle.link_base.specs.Table.{Table, AttrValue, Gives, TakesMemory, Fits, written_payload, written_frame, written_list}
use Rattle.link_base.specs.Lawful.{IsLawful}
use Rattle.link_base.specs.Answers.{Fails, ListFails, OnMemory, OnRewriteMemory, OverwritesFront, IsFirstUnfit, list_error, of_reading}
use Rattle.link_base.specs.Rewritten.{AnswersBy, RewrittenInto, IsUnfitAt, NeedsMemory, FrameWritten, FrameLeft}
use Rattle.link_base.proofs.FrameBytes.{bytes-front}
use Rattle.link_base.proofs.FrameAtFront.{Splits}
use Rattle.link_base.proofs.Walking.{Counted, counted_none, front_none, counted_more, front_more, all_complete, are_frames, some_bytes}
use Rattle.link_base.proofs.TableReads.{all_zip-push, all_zip-all}
use Rattle.link_base.proofs.Rewritings.{never_longer}
use Rattle.link_base.proofs.Emit.{frame_after}

-- ---- the values decoded so far

module _ {V : Type 0} (gives : Reading V) (s : List ℕ) where
  -- the frames before the rest decode to these values
  pub record Underway (count : ℕ) (rest : List ℕ) (vs : List V) : Type 0 where
    pub counted : Counted s count rest
    pub values : AllZip (λ x v. FrameGives gives x (Ok v)) counted.front vs

  pub underway_none : Underway 0 s []
  underway_none = record { counted = counted_none s; values = subst (λ xs. AllZip (λ x v. FrameGives gives x (Ok v)) xs []) (sym (front_none s)) tt }

  -- one more frame
  pub underway_more : (count : ℕ) (rest next : List ℕ) (vs : List V) (f : ℕ) (p : List ℕ) (v : V) → Underway count rest vs → rest ≢ [] → Splits rest f p next → gives f p (Ok v)
      → Underway (count + 1) next (vs ++ v ∷ [])
  underway_more count rest next vs f p v w some split given =
      let reads : Frame → V → Type 0 = λ x u. FrameGives gives x (Ok u) in
      let x : Frame = record { kind_field = f; payload = p; padding = split.padding } in
      record {
        counted = counted_more s count rest next f p w.counted some split;
        values = subst (λ xs. AllZip reads xs (vs ++ v ∷ [])) (sym (front_more s count rest next f p w.counted some split)) (all_zip-push reads w.counted.front vs x v w.values given);
      }

  -- the first error, if the next frame has one
  pub ends_at_rest : (count : ℕ) (rest : List ℕ) (vs : List V) (at : ℕ) (c : Cause) → Underway count rest vs → rest ≢ [] → at ≡ length s - length rest → frame_fault rest ≡ Some c
      → FirstFault gives s at (faults.Frame c)
  ends_at_rest count rest vs at c w some place bad =
      let h = w.counted in
      record {
        front = h.front;
        rest = rest;
        string = h.string;
        complete = all_complete rest h.front h.frames some;
        values = all_zip-all (λ x v. FrameGives gives x (Ok v)) h.front vs w.values;
        some = some_bytes rest some;
        offset = omega (arith, place, ap length h.string, length-append (bytes_of_frames h.front) rest);
        here = inl (c, bad, refl);
      }

  -- the result of the call if the next value is malformed
  pub ends_at_next : (count : ℕ) (rest : List ℕ) (vs : List V) (at f : ℕ) (p : List ℕ) (e : DecodeError) → Underway count rest vs → rest ≢ [] → at ≡ length s - length rest
      → BeginsWith rest (bare f p) → Fails e (gives f p) → ListFails (list_error at e) gives s
  ends_at_next count rest vs at f p (errors.Memory e) w some place b given = tt
  ends_at_next count rest vs at f p (errors.Fault c) w some place b given =
      let h = w.counted in
      record {
        front = h.front;
        rest = rest;
        string = h.string;
        complete = all_complete rest h.front h.frames some;
        values = all_zip-all (λ x v. FrameGives gives x (Ok v)) h.front vs w.values;
        some = some_bytes rest some;
        offset = omega (arith, place, ap length h.string, length-append (bytes_of_frames h.front) rest);
        here = inr (bare f p, b, given);
      }

  -- all values, if nothing is left
  pub underway_all : (count : ℕ) (rest : List ℕ) (vs : List V) → Underway count rest vs → rest ≡ [] → Wire gives s vs
  underway_all count rest vs w none =
      let h = w.counted in
      record {
        frames = h.front;
        string = record { frames = are_frames rest h.front h.frames; string = h.string ∙ ap (λ t. bytes_of_frames h.front ++ t) none ∙ append-nil (bytes_of_frames h.front) };
        values = w.values;
      }

-- ---- the values written so far

-- all values fit, and are written; or the first that does not fit is known
abbrev pub SoFar : List AttrValue → List ℕ → List ℕ → ℕ → Option ℕ → Type 0
SoFar vs old new len None = AllByRecursion Fits vs × OverwritesFront old new (written_list vs) × (len ≡ length (written_list vs))
SoFar vs old new len (Some i) = IsFirstUnfit vs i

all_push : {A : Type 0} (P : A → Type 0) (vs : List A) (v : A) → AllByRecursion P vs → P v → AllByRecursion P (vs ++ v ∷ [])
all_push P [] v h p = (p, tt)
all_push P (u ∷ vs) v h p = (h.0, all_push P vs v h.1 p)

written_push : (vs : List AttrValue) (v : AttrValue) → written_list (vs ++ v ∷ []) ≡ written_list vs ++ written_frame v
written_push vs v = flat_map-append written_frame vs (v ∷ []) ∙ ap (λ t. written_list vs ++ t) (append-nil (written_frame v))

-- the next value is the first that does not fit
pub unfit_next : (vs : List AttrValue) (v : AttrValue) (i : ℕ) → i ≡ length vs → AllByRecursion Fits vs → max_payload < length (written_payload v) → IsFirstUnfit (vs ++ v ∷ []) i
unfit_next vs v i place fit long = record { before = vs; value = v; after = []; values = refl; place = place; fit = fit; unfit = long }

-- a value that was the first not to fit still is
pub unfit_still : (vs : List AttrValue) (v : AttrValue) (i : ℕ) → IsFirstUnfit vs i → IsFirstUnfit (vs ++ v ∷ []) i
unfit_still vs v i u = record {
  before = u.before;
  value = u.value;
  after = u.after ++ v ∷ [];
  values = ap (λ us. us ++ v ∷ []) u.values ∙ append_assoc u.before (u.value ∷ u.after) (v ∷ []);
  place = u.place;
  fit = u.fit;
  unfit = u.unfit;
}

-- what follows the first n bytes is unchanged
pub behind_front : (old new text : List ℕ) (n : ℕ) → OverwritesFront old new text → length text ≤ n → drop n new ≡ drop n old
behind_front old new text n e few =
    let k = n - length text in
    let place : length text + k ≡ n = omega (arith, few) in
    ap (λ i. drop i new) (sym place) ∙ ap (drop (length text + k)) e ∙ drop-append-add text (drop (length text) old) k ∙ drop-drop k (length text) old ∙ ap (λ i. drop i old) (omega (arith, few))

-- a value is wanted if and only if all values before it fit
pub none_of : (u : Option ℕ) (wanted : Bool) → is_some u ≡ not wanted → IsTrue wanted → u ≡ None
none_of None wanted e want = refl
none_of (Some i) wanted e want = absurd cc

is_wanted : (wanted : Bool) → false ≡ not wanted → IsTrue wanted
is_wanted true e = refl
is_wanted false e = absurd cc

-- putting an unchanged part of a buffer back leaves the buffer unchanged
pub put_back : (len : ℕ) (b sub : List ℕ) → sub ≡ take (length b - len) (drop len b) → put_mid len (length b - len) b sub ≡ b
put_back len b sub same =
    let n = length b - len in
    ap (λ t. take len b ++ (t ++ drop n (drop len b))) same ∙ ap (λ t. take len b ++ t) (take-append-drop n (drop len b)) ∙ take-append-drop len b

-- what is written so far is in the first bytes of a buffer
pub record Wrote (vs : List AttrValue) (old new : List ℕ) (len : ℕ) (unfit : Option ℕ) (n : ℕ) : Type 0 where
  pub so_far : SoFar vs old new len unfit
  pub behind : drop n new ≡ drop n old
  pub low : len ≤ n

-- the next value does not fit
pub wrote_last : (vs : List AttrValue) (v : AttrValue) (old new : List ℕ) (len n i : ℕ) → Wrote vs old new len None n → i ≡ length vs → max_payload < length (written_payload v)
    → Wrote (vs ++ v ∷ []) old new len (Some i) n
wrote_last vs v old new len n i w place long = record { so_far = unfit_next vs v i place w.so_far.0 long; behind = w.behind; low = w.low }

-- the next value is written
pub wrote_more : (vs : List AttrValue) (v : AttrValue) (old b new sub : List ℕ) (len n more : ℕ) → Wrote vs old b len None n → Fits v → length (written_list vs) + length (written_frame v) ≤ n → n ≤ length old
    → sub ≡ written_frame v ++ drop (length (written_frame v)) (take (length b - len) (drop len b)) → new ≡ put_mid len (length b - len) b sub → more ≡ len + length (written_frame v)
    → Wrote (vs ++ v ∷ []) old new more None n
wrote_more vs v old b new sub len n more w fits room whole part put size =
    let text = written_list vs in
    let frame = written_frame v in
    let front : OverwritesFront old new (written_list (vs ++ v ∷ [])) = subst (OverwritesFront old new) (sym (written_push vs v)) (frame_after old b new text frame sub len w.so_far.1 w.so_far.2 (omega (arith, room, whole)) part put) in
    let long : length (written_list (vs ++ v ∷ [])) ≡ length text + length frame = ap length (written_push vs v) ∙ length-append text frame in
    record {
      so_far = (all_push Fits vs v w.so_far.0 fits, front, omega (arith, size, w.so_far.2, long));
      behind = behind_front old new (written_list (vs ++ v ∷ [])) n front (omega (arith, long, room));
      low = omega (arith, size, w.so_far.2, room);
    }

-- ---- one more value

-- one more value is decoded, and is written or left out
pub record Stepped (table : Table) (f : ℕ) (p : List ℕ) (vs : List AttrValue) (old new : List ℕ) (len : ℕ) (unfit : Option ℕ) (n : ℕ) : Type 0 where
  pub value : AttrValue
  pub given : Gives table f p (Ok value)
  pub wrote : Wrote (vs ++ value ∷ []) old new len unfit n

-- the value is written after those before it
pub step_written : (table : Table) (f : ℕ) (p : List ℕ) (wanted : Bool) (vs : List AttrValue) (old b out : List ℕ) (len n size : ℕ) (unfit : Option ℕ) → Wrote vs old b len unfit n → is_some unfit ≡ not wanted → n ≤ length old
    → ((v : AttrValue) → Gives table f p (Ok v) → AllByRecursion Fits vs → Fits v → length (written_list vs) + length (written_frame v) ≤ n)
    → FrameWritten table f p wanted (take (length b - len) (drop len b)) out size → Stepped table f p vs old (put_mid len (length b - len) b out) (len + size) unfit n
step_written table f p wanted vs old b out len n size unfit w free whole room x =
    let none : unfit ≡ None = none_of unfit wanted free x.is_wanted in
    let before = subst (λ u. Wrote vs old b len u n) none w in
    let wrote = wrote_more vs x.value old b (put_mid len (length b - len) b out) out len n (len + size) before x.fits (room x.value x.given before.so_far.0 x.fits) whole x.written refl (ap (λ m. len + m) x.len) in
    record { value = x.value; given = x.given; wrote = subst (λ u. Wrote (vs ++ x.value ∷ []) old (put_mid len (length b - len) b out) (len + size) u n) (sym none) wrote }

-- the value is left out: it is the first that does not fit, or an earlier one is
pub step_left : (table : Table) (f : ℕ) (p : List ℕ) (wanted : Bool) (vs : List AttrValue) (old b out : List ℕ) (len n i : ℕ) (unfit : Option ℕ) → Wrote vs old b len unfit n → is_some unfit ≡ not wanted → i ≡ length vs
    → FrameLeft table f p wanted (take (length b - len) (drop len b)) out → Stepped table f p vs old (put_mid len (length b - len) b out) len (option_or unfit (Some i)) n
step_left table f p wanted vs old b out len n i None w free place x = record {
  value = x.value;
  given = x.given;
  wrote = rw (put_back len b out x.same) (wrote_last vs x.value old b len n i w place (x.unfit (is_wanted wanted free)));
}
step_left table f p wanted vs old b out len n i (Some j) w free place x = record {
  value = x.value;
  given = x.given;
  wrote = rw (put_back len b out x.same) record { so_far = unfit_still vs x.value j w.so_far; behind = w.behind; low = w.low };
}

-- ---- space in the buffer

module _ {table : Table} (law : IsLawful table) (s : List ℕ) (hs : IsBytes s) where
  -- what is written for decoded values that fit is no longer than the input, rounded up to a multiple of four
  pub room_so_far : (count : ℕ) (rest : List ℕ) (vs : List AttrValue) → Underway (Gives table) s count rest vs → AllByRecursion Fits vs → length (written_list vs) ≤ pad (length s)
  room_so_far count rest vs w fit =
      let h = w.counted in
      let t = bytes_of_frames h.front in
      let wire : Wire (Gives table) t vs = record { frames = h.front; string = record { frames = are_frames rest h.front h.frames; string = refl }; values = w.values } in
      let known : IsBytes t = bytes-front t rest (subst IsBytes h.string hs) in
      let bound = never_longer law.reading law.holding law.writing t (written_list vs) known (record { values = vs; wire = wire; fit = fit; string = refl }) in
      omega (arith, bound, ap length h.string, length-append t rest)

  -- the buffer has space for the next value
  pub room_next : (count : ℕ) (rest next : List ℕ) (vs : List AttrValue) (f : ℕ) (p : List ℕ) (v : AttrValue) → Underway (Gives table) s count rest vs → rest ≢ [] → Splits rest f p next
      → Gives table f p (Ok v) → AllByRecursion Fits vs → Fits v → length (written_list vs) + length (written_frame v) ≤ pad (length s)
  room_next count rest next vs f p v w some split given fit fits =
      let more = room_so_far (count + 1) next (vs ++ v ∷ []) (underway_more (Gives table) s count rest next vs f p v w some split given) (all_push Fits vs v fit fits) in
      omega (arith, more, ap length (written_push vs v), length-append (written_list vs) (written_frame v))

-- ---- the result

-- nothing is left, and all values fit
pub into_all : (table : Table) (s old new rest : List ℕ) (count len : ℕ) (vs : List AttrValue) → Underway (Gives table) s count rest vs → rest ≡ [] → SoFar vs old new len None → RewrittenInto table s old new len
into_all table s old new rest count len vs w none (fit, front, size) = record {
  out = written_list vs;
  is = record { values = vs; wire = underway_all (Gives table) s count rest vs w none; fit = fit; string = refl };
  len = size;
  written = front;
}

-- nothing is left, and one value does not fit
pub into_unfit : (table : Table) (s rest : List ℕ) (count i : ℕ) (vs : List AttrValue) → Underway (Gives table) s count rest vs → rest ≡ [] → IsFirstUnfit vs i → IsUnfitAt table s i
into_unfit table s rest count i vs w none u = (vs, underway_all (Gives table) s count rest vs w none, u)

-- the error of reading the list, as an error of re-encoding it
pub fails_by : {X : Type 0} (table : Table) (s : List ℕ) (P : X → Type 0) (e : ListError) → ListFails e (Gives table) s → AnswersBy table s P (Err (of_reading e))
fails_by table s P (list_errors.Memory e) h = tt
fails_by table s P (list_errors.Fault at f) h = h

-- the next value may be heap-allocated
pub needs_memory : (table : Table) (s rest : List ℕ) (count f at : ℕ) (p : List ℕ) (vs : List AttrValue) (e : DecodeError) → Underway (Gives table) s count rest vs → rest ≢ []
    → BeginsWith rest (bare f p) → OnMemory {X = AttrValue} (Err e) (TakesMemory table f) → OnRewriteMemory {X = AttrValue} (Err (of_reading (list_error at e))) (NeedsMemory table s)
needs_memory table s rest count f at p vs (errors.Fault c) w some b takes = tt
needs_memory table s rest count f at p vs (errors.Memory e) w some b takes = record {
  front = w.counted.front;
  rest = rest;
  string = w.counted.string;
  complete = all_complete rest w.counted.front w.counted.frames some;
  values = all_zip-all (λ x v. FrameGives (Gives table) x (Ok v)) w.counted.front vs w.values;
  frame = bare f p;
  here = b;
  takes = takes;
}
