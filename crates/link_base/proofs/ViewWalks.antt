-- Views that are walked to their end.
use Rattle.std.proofs.Common.{◌≡◌, ◌≢◌, ◌⊎◌, ℕ, suc, ◌+◌, ◌-◌, ◌<◌, ◌≤◌, List, [], ◌∷◌, ◌++◌, length, map, Option, None, Some, Result, Ok, Err, refl, sym, ap, ap₂, subst, ◌∙◌, arith, inl, inr, append_assoc}
use Rattle.std.proofs.lemmas.List.{length-append}
use Rattle.std.specs.Iterator.{Yields, Drains}
use Rattle.std.specs.List.{AllZip, AllByRecursion}
use Rattle.link_base.specs.declared.views.attribute_set.AttributeSet as sets
use Rattle.link_base.specs.declared.views.view.View.{View}
use Rattle.link_base.specs.declared.views.view.Value.{Value}
use Rattle.link_base.specs.declared.views.view_all.ViewAll.{ViewAll}
use Rattle.link_base.specs.declared.wire.fault.ListFault.{ListFault}
use Rattle.link_base.specs.declared.wire.fault.DecodeFault.{DecodeFault}
use Rattle.link_base.specs.declared.wire.fault.Cause.{Cause}
use Rattle.link_base.specs.Frame.{Frame, Frames, IsFrame, IsComplete, frame_bytes, bytes_of_frames, frame_fault}
use Rattle.link_base.specs.Wire.{Wire, FaultsHere, FrameGives, Reads, IsCanonicalFrame}
use Rattle.link_base.specs.Number.{IsBytes}
use Rattle.link_base.specs.Table.{Table, AttrValue, Gives, Decodes, Allows, FirstNotCanonical}
use Rattle.link_base.specs.Buffer.{kind_field_of, payload_of, frame_of}
use Rattle.link_base.specs.Borrowed.{HasValue, HasValues}
use Rattle.link_base.specs.IteratorItems.{least_items, most_items, IsCount}
use Rattle.link_base.specs.Viewed.{bytes_in, buffer_in, set_in, set_of, NextValue, attribute_of, parts_of, IsWalk, StartsAt, whole_of, left_of, all_set_of, FaultsFirst, NextOfAll, found, first_error, IsAllOf, AreShown, IsWalkOfAll}
use Rattle.link_base.proofs.FrameBytes.{frame_fault-frame}
use Rattle.link_base.proofs.Cuts.{AreFrames-head, SameFront-frames, IsFrame-complete, same_gap, same_parts as same_halves}
use Rattle.link_base.proofs.Readings.{NextFrames-more, reads_some, not_both, no_fault_here, one_here}
use Rattle.link_base.proofs.TableLaws.{lawful}
use Rattle.link_base.proofs.Walking.{some_bytes}
use Rattle.link_base.proofs.ItemLemmas.{one_more, one_last}
use Rattle.link_base.proofs.ViewLemmas.{first_frame, first_value, frames_none, split_of, values_rest}

-- nothing has no values
values_none : (table : Table) (vs : List AttrValue) → Wire (Gives table) [] vs → vs ≡ []
values_none table vs w = by_frames w.frames vs (frames_none w.frames w.string) w.values
  where
    by_frames : (xs : List Frame) (vs : List AttrValue) → xs ≡ [] → AllZip (λ x v. Gives table x.kind_field x.payload (Ok v)) xs vs → vs ≡ []
    by_frames xs [] e h = λ i. []
    by_frames [] (v ∷ vs) e h = absurd h
    by_frames (x ∷ xs) (v ∷ vs) e h = absurd cc

-- the parts of a frame are those of the attribute at the front
same_parts : (x : Frame) (f : ℕ) (p : List ℕ) → x.kind_field ≡ f → x.payload ≡ p → (f, p) ≡ parts_of x
same_parts x f p ef ep = ap₂ (λ (f : ℕ) (p : List ℕ). (f, p)) (sym ef) (sym ep)

module _ {S : Type 0} {g : sets.Ghosts S} (table : Table) where
  run_attributes : (a b c : View S g) (items : List (Value S g)) → Yields NextValue a items b → NextValue b None c → (xs : List Frame) → Frames (bytes_in a) xs
      → map attribute_of items ≡ map parts_of xs
  run_attributes a b c [] h end xs w =
      let none = ap bytes_in h ∙ end.0 in
      sym (ap (map parts_of) (frames_none xs (subst (λ t. Frames t xs) none w)))
  run_attributes a b c (x ∷ items) h end xs w =
      let j = h.0 in
      let at = buffer_in x in
      let first = first_frame (bytes_in a) (kind_field_of at) (payload_of at) (bytes_in j) xs (split_of (bytes_in a) at (bytes_in j) h.1.0) w in
      ap₂ (λ y ys. y ∷ ys) (same_parts first.frame (kind_field_of at) (payload_of at) first.kind_field first.payload) (run_attributes j b c items h.2 end first.others first.frames)
      ∙ sym (ap (map parts_of) first.is)

  run_values : (a b c : View S g) (items : List (Value S g)) → Yields NextValue a items b → NextValue b None c → (vs : List AttrValue) → Wire (Gives table) (bytes_in a) vs
      → AllZip (λ x v. Gives table (kind_field_of (buffer_in x)) (payload_of (buffer_in x)) (Ok v)) items vs
  run_values a b c [] h end vs w =
      let none = ap bytes_in h ∙ end.0 in
      let nothing = values_none table vs (subst (λ t. Wire (Gives table) t vs) none w) in
      subst (λ vs. AllZip (λ (x : Value S g) v. Gives table (kind_field_of (buffer_in x)) (payload_of (buffer_in x)) (Ok v)) [] vs) (sym nothing) tt
  run_values a b c (x ∷ items) h end vs w =
      let j = h.0 in
      let at = buffer_in x in
      let first = first_value (Gives table) (bytes_in a) (kind_field_of at) (payload_of at) (bytes_in j) vs (split_of (bytes_in a) at (bytes_in j) h.1.0) w in
      subst (λ vs. AllZip (λ (x : Value S g) v. Gives table (kind_field_of (buffer_in x)) (payload_of (buffer_in x)) (Ok v)) (x ∷ items) vs) (sym first.is)
      (first.given, run_values j b c items h.2 end first.others first.wire)

  run_sets : (a b : View S g) (items : List (Value S g)) → Yields NextValue a items b → (set : S) → set_of a ≡ set → AllByRecursion (λ x. set_in x ≡ set) items
  run_sets a b [] h set e = tt
  run_sets a b (x ∷ items) h set e = (h.1.1 ∙ e, run_sets h.0 b items h.2 set (h.1.2 ∙ e))

  run_short : (a b : View S g) (items : List (Value S g)) → Yields NextValue a items b → length items ≤ most_items (bytes_in a)
  run_short a b [] h = omega arith
  run_short a b (x ∷ items) h = one_more (bytes_in a) (buffer_in x) (bytes_in h.0) (length items) h.1.0 (run_short h.0 b items h.2)

  run_some : (a b c : View S g) (items : List (Value S g)) → Yields NextValue a items b → NextValue b None c → least_items (bytes_in a) ≤ length items
  run_some a b c [] h end = omega (arith, ap length (ap bytes_in h ∙ end.0))
  run_some a b c (x ∷ items) h end = omega arith

  -- the items of a whole walk are the attributes of the list
  pub whole_walk : (v : View S g) (items : List (Value S g)) → Drains NextValue v items → IsWalk table (set_of v) (bytes_in v) items
  whole_walk v items (u, (t, run, end)) = record {
    sets = run_sets v t items run (set_of v) refl;
    count = (run_some v t u items run end, run_short v t items run);
    attributes = run_attributes v t u items run end;
    values = run_values v t u items run end;
  }

-- ---- where the first attribute is that is not canonical

-- complete frames, then more bytes: in a list of frames, another frame starts after them
starts_after : (xs front : List Frame) (s rest : List ℕ) → Frames s xs → AllByRecursion IsComplete front → 0 < length rest → s ≡ bytes_of_frames front ++ rest → StartsAt xs (length (bytes_of_frames front))
starts_after [] front s rest w complete some e = absurd (omega (arith, ap length (sym w.string ∙ e), length-append (bytes_of_frames front) rest))
starts_after (x ∷ xs) [] s rest w complete some e = ([], x, xs, refl, refl)
starts_after (x ∷ xs) (y ∷ front) s rest w complete some e =
    let t = bytes_of_frames front ++ rest in
    let same : frame_bytes x ++ bytes_of_frames xs ≡ frame_bytes y ++ t = sym w.string ∙ e ∙ append_assoc (frame_bytes y) (bytes_of_frames front) rest in
    let next = NextFrames-more x xs y t w.frames complete.0 (omega (arith, some, length-append (bytes_of_frames front) rest)) same in
    let later = starts_after xs front t rest (record { frames = next.frames; string = sym next.rest }) complete.1 some refl in
    let long : length (frame_bytes x) ≡ length (frame_bytes y) =
    omega (arith, ap length same, ap length next.rest, length-append (frame_bytes x) (bytes_of_frames xs), length-append (frame_bytes y) t) in (
      x ∷ later.0,
      later.1,
      later.2,
      ap (λ zs. x ∷ zs) later.3,
      omega (arith, long, later.4, length-append (frame_bytes y) (bytes_of_frames front), length-append (frame_bytes x) (bytes_of_frames later.0)),
    )

each_complete : (table : Table) (front : List Frame) → AllByRecursion (IsCanonicalFrame (Allows table)) front → AllByRecursion IsComplete front
each_complete table [] h = tt
each_complete table (x ∷ xs) h = (h.0.complete, each_complete table xs h.1)

-- the offset of the first attribute that is not canonical is that of an attribute
pub first_other_starts : (table : Table) (s : List ℕ) (xs : List Frame) (at : ℕ) → Frames s xs → FirstNotCanonical table s at → StartsAt xs at
first_other_starts table s xs at w h = subst (StartsAt xs) (sym h.offset) (starts_after xs h.front s h.rest w (each_complete table h.front h.each) h.some h.string)

-- ---- every attribute, with its value or its error

-- the bytes after a complete frame are those after the frame that a parser finds
after_front : (y z : Frame) (tail next : List ℕ) → IsComplete y → IsFrame z → (next ≡ []) ⊎ IsComplete z → 0 < length tail
    → frame_bytes y ++ tail ≡ frame_bytes z ++ next → next ≡ tail
after_front y z tail next hy hz (inl none) some e =
    let same = SameFront-frames y z tail next (IsFrame-complete y hy) hz e in
    let g = same_gap y z same.payload in
    absurd (omega (arith, ap length same.rest, length-append y.padding tail, length-append z.padding next, ap length none, hy.padding, hz.padding))
after_front y z tail next hy hz (inr c) some e =
    let same = SameFront-frames y z tail next (IsFrame-complete y hy) hz e in
    let g = same_gap y z same.payload in
    let halves = same_halves y.padding tail z.padding next (omega (arith, hy.padding, c.padding)) same.rest in
    sym halves.1

module _ (table : Table) where
  -- an error at the front of what is left
  faults_here : (s : List ℕ) (fault : DecodeFault) (t : List ℕ) → FaultsFirst table s fault t → FaultsHere (Gives table) s fault
  faults_here s fault t (inl h) = inr (frame_of h.0, h.1.0, h.2)
  faults_here s fault t (inr h) = inl (h.0, h.1, h.2)

  -- a list that decodes does not start with an error
  no_error : (s : List ℕ) (fault : DecodeFault) → HasValues table s → s ≢ [] → FaultsHere (Gives table) s fault → ⊥
  no_error s fault has some here =
      has (λ d.
      not_both (lawful table).reading s d.values 0 fault d.wire (record {
        front = [];
        rest = s;
        string = refl;
        complete = tt;
        values = tt;
        some = some_bytes s some;
        offset = refl;
        here = here;
      }))

-- a list of well-formed headers does not start with a malformed one
no_header : (s : List ℕ) (c : Cause) → frame_fault s ≡ Some c → s ≢ [] → (xs : List Frame) → Frames s xs → ⊥
no_header s c e some [] w = some w.string
no_header s c e some (x ∷ xs) w =
    let none : frame_fault s ≡ None = ap frame_fault w.string ∙ frame_fault-frame x (bytes_of_frames xs) (AreFrames-head x xs w.frames) in
    absurd cc

-- the offset after the first frame
next_offset : {S : Type 0} (a b : ViewAll S) (x : Frame) (others xs : List Frame) → xs ≡ x ∷ others → Frames (left_of a) xs → Frames (left_of b) others → whole_of b ≡ whole_of a
    → length (left_of a) ≤ length (whole_of a)
    → (length (left_of b) ≤ length (whole_of b)) × (length (whole_of b) - length (left_of b) ≡ length (whole_of a) - length (left_of a) + length (frame_bytes x))
next_offset a b x others xs is w v same within =
    let long = ap length (w.string ∙ ap bytes_of_frames is) in
    let rest = ap length v.string in (
      omega (arith, within, ap length same, long, rest, length-append (frame_bytes x) (bytes_of_frames others)),
      omega (arith, within, ap length same, long, rest, length-append (frame_bytes x) (bytes_of_frames others)),
    )

-- an error at the front takes four bytes, or all that is left
after_error : (s t : List ℕ) (fault : DecodeFault) (rows : Table) (n : ℕ) → s ≢ [] → FaultsFirst rows s fault t → n ≤ most_items t → suc n ≤ most_items s
after_error s t fault rows n some (inl bad) less = one_more s bad.0 t n bad.1 less
after_error s t fault rows n some (inr bad) less = one_last s t n some bad.3 less

module _ {S : Type 0} {g : sets.Ghosts S} (table : Table) where
  -- one call of the iterator
  abbrev Step : ViewAll S → Option (Result (Value S g) ListFault) → ViewAll S → Type 0
  Step a r b = NextOfAll (g.rows (all_set_of a)) a r b

  short_all : (a b : ViewAll S) (items : List (Result (Value S g) ListFault)) → Yields Step a items b → length items ≤ most_items (left_of a)
  short_all a b [] h = omega arith
  short_all a b (Ok x ∷ items) h = one_more (left_of a) (buffer_in x) (left_of h.0) (length items) h.1.0 (short_all h.0 b items h.2)
  short_all a b (Err e ∷ items) h = after_error (left_of a) (left_of h.0) e.fault (g.rows (all_set_of a)) (length items) h.1.0 h.1.2 (short_all h.0 b items h.2)

  some_of_all : (a b : ViewAll S) (items : List (Result (Value S g) ListFault)) → Yields Step a items b → left_of b ≡ [] → least_items (left_of a) ≤ length items
  some_of_all a b [] h end = omega (arith, ap length (ap left_of h ∙ end))
  some_of_all a b (r ∷ items) h end = omega arith

  -- a list that decodes: its attributes, in order
  run_decoded : (a b : ViewAll S) (items : List (Result (Value S g) ListFault)) → Yields Step a items b → left_of b ≡ [] → g.rows (all_set_of a) ≡ table → HasValues table (left_of a)
      → (xs : List Frame) → Frames (left_of a) xs → map found items ≡ map (λ x. Ok (parts_of x)) xs
  run_decoded a b [] h end e has xs w =
      let none = ap left_of h ∙ end in
      sym (ap (map (λ (x : Frame). Ok (parts_of x))) (frames_none xs (subst (λ t. Frames t xs) none w)))
  run_decoded a b (Ok x ∷ items) h end e has xs w =
      let j = h.0 in
      let at = buffer_in x in
      let s = left_of a in
      let split = split_of s at (left_of j) h.1.0 in
      let first = first_frame s (kind_field_of at) (payload_of at) (left_of j) xs split w in
      let rest = values_rest table s (kind_field_of at) (payload_of at) (left_of j) has split in
      ap₂ (λ y ys. y ∷ ys) (ap (λ p. Ok p) (same_parts first.frame (kind_field_of at) (payload_of at) first.kind_field first.payload))
      (run_decoded j b items h.2 end (ap g.rows h.1.3 ∙ e) rest first.others first.frames)
      ∙ sym (ap (map (λ (x : Frame). Ok (parts_of x))) first.is)
  run_decoded a b (Err f ∷ items) h end e has xs w =
      let step = subst (λ t. NextOfAll {g = g} t a (Some (Err f)) h.0) e h.1 in
      absurd (no_error table (left_of a) f.fault has step.0 (faults_here table (left_of a) f.fault (left_of h.0) step.2))

  -- an attribute that has an error, at its offset, and then the items of the rest
  shown_error : (a j : ViewAll S) (f : ListFault) (items : List (Result (Value S g) ListFault)) (set : S) → FaultsFirst table (left_of a) f.fault (left_of j)
      → f.at ≡ length (whole_of a) - length (left_of a) → left_of a ≢ [] → whole_of j ≡ whole_of a → length (left_of a) ≤ length (whole_of a) → (xs : List Frame) → Frames (left_of a) xs
      → ((others : List Frame) → Frames (left_of j) others → length (left_of j) ≤ length (whole_of j) → AreShown {g = g} table set (length (whole_of j) - length (left_of j)) others items)
      → AreShown {g = g} table set (length (whole_of a) - length (left_of a)) xs (Err f ∷ items)
  shown_error a j f items set (inr bad) at some same within xs w later = absurd (no_header (left_of a) bad.0 bad.1 some xs w)
  shown_error a j f items set (inl bad) at some same within xs w later =
      let s = left_of a in
      let b = bad.0 in
      let first = first_frame s (kind_field_of b) (payload_of b) (left_of j) xs (split_of s b (left_of j) bad.1) w in
      let next = next_offset a j first.frame first.others xs first.is w first.frames same within in
      let given = subst (λ k. Gives table k first.frame.payload (Err f.fault)) (sym first.kind_field) (subst (λ p. Gives table (kind_field_of b) p (Err f.fault)) (sym first.payload) bad.2) in
      subst (λ xs. AreShown {g = g} table set (length (whole_of a) - length s) xs (Err f ∷ items)) (sym first.is) (
        at,
        given,
        subst (λ n. AreShown {g = g} table set n first.others items) next.1 (later first.others first.frames next.0),
      )

  -- a list of well-formed headers: each attribute, or its error
  run_each : (a b : ViewAll S) (items : List (Result (Value S g) ListFault)) → Yields Step a items b → left_of b ≡ [] → (set : S) → all_set_of a ≡ set → g.rows set ≡ table
      → length (left_of a) ≤ length (whole_of a) → (xs : List Frame) → Frames (left_of a) xs → AreShown table set (length (whole_of a) - length (left_of a)) xs items
  run_each a b [] h end set e rows within xs w =
      let none = ap left_of h ∙ end in
      subst (λ (xs : List Frame). AreShown {g = g} table set (length (whole_of a) - length (left_of a)) xs []) (sym (frames_none xs (subst (λ t. Frames t xs) none w))) tt
  run_each a b (Ok x ∷ items) h end set e rows within xs w =
      let j = h.0 in
      let at = buffer_in x in
      let s = left_of a in
      let split = split_of s at (left_of j) h.1.0 in
      let first = first_frame s (kind_field_of at) (payload_of at) (left_of j) xs split w in
      let next = next_offset a j first.frame first.others xs first.is w first.frames h.1.2 within in
      subst (λ xs. AreShown {g = g} table set (length (whole_of a) - length s) xs (Ok x ∷ items)) (sym first.is) (
        same_parts first.frame (kind_field_of at) (payload_of at) first.kind_field first.payload,
        h.1.1 ∙ e,
        subst (λ n. AreShown {g = g} table set n first.others items) next.1 (run_each j b items h.2 end set (h.1.3 ∙ e) rows next.0 first.others first.frames),
      )
  run_each a b (Err f ∷ items) h end set e rows within xs w =
      let step = subst (λ t. NextOfAll {g = g} t a (Some (Err f)) h.0) (ap g.rows e ∙ rows) h.1 in
      shown_error a h.0 f items set step.2 step.1 step.0 step.3 within xs w (λ others v less. run_each h.0 b items h.2 end set (step.4 ∙ e) rows less others v)

  -- the first error among the items is that of the list, at its offset in the whole
  run_first : (a b : ViewAll S) (items : List (Result (Value S g) ListFault)) → Yields Step a items b → left_of b ≡ [] → g.rows (all_set_of a) ≡ table → length (left_of a) ≤ length (whole_of a)
      → (front : List Frame) (rest : List ℕ) (fault : DecodeFault) → left_of a ≡ bytes_of_frames front ++ rest → AllByRecursion IsComplete front
      → AllByRecursion (λ x. (v : AttrValue) × FrameGives (Gives table) x (Ok v)) front → 0 < length rest → FaultsHere (Gives table) rest fault
      → first_error items ≡ Some (length (whole_of a) - length (left_of a) + length (bytes_of_frames front), fault)
  run_first a b [] h end e within front rest fault string complete values some here =
      absurd (omega (arith, ap length (sym (ap left_of h ∙ end) ∙ string), length-append (bytes_of_frames front) rest))
  run_first a b (Ok x ∷ items) h end e within [] rest fault string complete values some here =
      let at = buffer_in x in
      let s = left_of a in
      let split = split_of s at (left_of h.0) h.1.0 in
      let z : Frame = record { kind_field = kind_field_of at; payload = payload_of at; padding = split.padding } in
      let has = subst (λ t. HasValue t (kind_field_of at) (payload_of at)) (ap g.rows h.1.1 ∙ e) x.decodes in
      absurd (has (λ v. no_fault_here (lawful table).reading z (left_of h.0) v.0 rest fault split.is v.1 (sym split.string ∙ string) here))
  run_first a b (Ok x ∷ items) h end e within (y ∷ ys) rest fault string complete values some here =
      let j = h.0 in
      let at = buffer_in x in
      let s = left_of a in
      let split = split_of s at (left_of j) h.1.0 in
      let z : Frame = record { kind_field = kind_field_of at; payload = payload_of at; padding = split.padding } in
      let tail = bytes_of_frames ys ++ rest in
      let whole : s ≡ frame_bytes y ++ tail = string ∙ append_assoc (frame_bytes y) (bytes_of_frames ys) rest in
      let next = after_front y z tail (left_of j) complete.0 split.is split.last (omega (arith, some, length-append (bytes_of_frames ys) rest)) (sym whole ∙ split.string) in
      let less : length (left_of j) ≤ length (whole_of j) = omega (arith, within, ap length h.1.2, ap length whole, ap length next, length-append (frame_bytes y) tail) in
      let later = run_first j b items h.2 end (ap g.rows h.1.3 ∙ e) less ys rest fault next complete.1 values.1 some here in
      let offset : length (whole_of j) - length (left_of j) + length (bytes_of_frames ys) ≡ length (whole_of a) - length s + length (bytes_of_frames (y ∷ ys)) =
      omega (arith, within, ap length h.1.2, ap length whole, ap length next, length-append (frame_bytes y) tail, length-append (frame_bytes y) (bytes_of_frames ys)) in
      later ∙ ap (λ n. Some (n, fault)) offset
  run_first a b (Err f ∷ items) h end e within [] rest fault string complete values some here =
      let step = subst (λ t. NextOfAll {g = g} t a (Some (Err f)) h.0) e h.1 in
      let same = one_here (lawful table).reading rest f.fault fault (subst (λ t. FaultsHere (Gives table) t f.fault) string (faults_here table (left_of a) f.fault (left_of h.0) step.2)) here in
      let offset : f.at ≡ length (whole_of a) - length (left_of a) + 0 = omega (arith, step.1) in
      ap₂ (λ n c. Some (n, c)) offset same
  run_first a b (Err f ∷ items) h end e within (y ∷ ys) rest fault string complete values some here =
      let step = subst (λ t. NextOfAll {g = g} t a (Some (Err f)) h.0) e h.1 in
      let tail = bytes_of_frames ys ++ rest in
      let whole : left_of a ≡ frame_bytes y ++ tail = string ∙ append_assoc (frame_bytes y) (bytes_of_frames ys) rest in
      absurd (no_fault_here (lawful table).reading y tail values.0.0 (left_of a) f.fault (IsFrame-complete y complete.0) values.0.1 (sym whole) (faults_here table (left_of a) f.fault (left_of h.0) step.2))

-- the items of a whole walk, for the list that was viewed
pub whole_walk_of_all : {S : Type 0} {g : sets.Ghosts S} (v : ViewAll S) (s : List ℕ) (items : List (Result (Value S g) ListFault)) → IsAllOf s v
    → Drains (λ a r b. NextOfAll {g = g} (g.rows (all_set_of a)) a r b) v items → IsWalkOfAll (g.rows (all_set_of v)) (all_set_of v) s items
whole_walk_of_all {g = g} v s items all (u, (t, run, end)) =
    let table = g.rows (all_set_of v) in
    let within : length (left_of v) ≤ length (whole_of v) = omega (arith, ap length all.0, ap length all.1) in
    record {
      count = subst (λ p. IsCount p (length items)) all.1 (some_of_all table v t items run end.0, short_all table v t items run);
      each = λ xs w.
          let start : length (whole_of v) - length (left_of v) ≡ 0 = omega (arith, ap length all.0, ap length all.1) in
          subst (λ n. AreShown {g = g} table (all_set_of v) n xs items) start
          (run_each table v t items run end.0 (all_set_of v) refl refl within xs (subst (λ p. Frames p xs) (sym all.1) w));
      decoded = λ has xs w. run_decoded table v t items run end.0 refl (subst (HasValues table) (sym all.1) has) xs (subst (λ p. Frames p xs) (sym all.1) w);
      first = λ at fault h.
          run_first table v t items run end.0 refl within h.front h.rest fault (all.1 ∙ h.string) h.complete h.values h.some h.here
          ∙ ap (λ n. Some (n, fault)) (omega (arith, h.offset, ap length all.0, ap length all.1));
    }

-- what is left of a view decodes: bytes that have no values have a first error
pub left_decodes : (table : Table) (s : List ℕ) → IsBytes s → HasValues table s → Decodes table s
left_decodes table s bytes has = by_result (reads_some (lawful table).reading s bytes)
  where
    by_result : (q : Result (List AttrValue) (ℕ × DecodeFault)) × Reads (Gives table) s q → Decodes table s
    by_result (Ok vs, w) = record { values = vs; wire = w }
    by_result (Err e, h) = absurd (has (λ d. not_both (lawful table).reading s d.values e.0 e.1 d.wire h))
