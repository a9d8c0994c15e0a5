-- The items of an iterator over frames that is run to its end.
use Rattle.std.proofs.Common.{◌≡◌, ◌≢◌, ◌⊎◌, ℕ, suc, ◌+◌, ◌<◌, ◌≤◌, List, [], ◌∷◌, ◌++◌, length, map, Option, Some, None, Result, Ok, Err, refl, sym, ap, subst, ◌∙◌, arith, inl, inr, append_assoc}
use Rattle.std.specs.Iterator.{Yields, Drains}
use Rattle.std.proofs.lemmas.List.{length-append, length-drop}
use Rattle.link_base.specs.declared.wire.buffer.NlaBuffer.{NlaBuffer}
use Rattle.link_base.specs.declared.wire.iterator.NlasIterator.{NlasIterator}
use Rattle.link_base.specs.declared.wire.fault.DecodeError.{DecodeError}
use Rattle.link_base.specs.Frame.{Frame, BeginsWith, IsFrame, IsComplete, AreFrames, frame_bytes, bytes_of_frames}
use Rattle.link_base.specs.Buffer.{kind_field_of, payload_of, frame_of, SplitsFirst}
use Rattle.link_base.specs.IteratorItems.{NextFrame, AreItems, least_items, most_items, IsCount, seen, bytes_left}
use Rattle.link_base.proofs.FrameAtFront.{Splits, splits, step_of}

-- an item of the iterator
abbrev Item : Type 0
Item = Result NlaBuffer DecodeError

-- one call of the iterator
abbrev Step : NlasIterator → Option Item → NlasIterator → Type 0
Step a r b = NextFrame (bytes_left a) r (bytes_left b)

long_enough : (s : List ℕ) (x : Frame) → BeginsWith s x → 4 + length x.payload ≤ length s
long_enough s x b = omega (arith, ap length b.string, length-append (frame_bytes x) b.rest, length-append x.payload x.padding)

-- there are no items if nothing is left
none_left : (a b : NlasIterator) (r : Item) → bytes_left a ≡ [] → Step a (Some r) b → ⊥
none_left a b (Ok buffer) e h = omega (arith, long_enough (bytes_left a) (frame_of buffer) h.0, ap length e)
none_left a b (Err error) e h = h.0 e

no_more : (a b : NlasIterator) (items : List Item) → bytes_left a ≡ [] → Yields Step a items b → items ≡ []
no_more a b [] e h = refl
no_more a b (r ∷ items) e h = absurd (none_left a h.0 r e h.1)

some_bytes : (s : List ℕ) → s ≢ [] → 0 < length s
some_bytes [] e = absurd (e refl)
some_bytes (b ∷ s) e = omega arith

-- ---- one frame more

are_more : (x : Frame) (xs : List Frame) → IsFrame x → (bytes_of_frames xs ≡ []) ⊎ IsComplete x → AreFrames xs → AreFrames (x ∷ xs)
are_more x [] hx h k = hx
are_more x (y ∷ xs) hx (inl e) k = absurd cc
are_more x (y ∷ xs) hx (inr c) k = (c, k)

end_or : (next : List ℕ) (xs : List Frame) (x : Frame) → next ≡ bytes_of_frames xs → (next ≡ []) ⊎ IsComplete x → (bytes_of_frames xs ≡ []) ⊎ IsComplete x
end_or next xs x e (inl n) = inl (sym e ∙ n)
end_or next xs x e (inr c) = inr c

complete_of : (next : List ℕ) (front : List Frame) (rest : List ℕ) (x : Frame) → next ≡ bytes_of_frames front ++ rest → 0 < length rest → (next ≡ []) ⊎ IsComplete x → IsComplete x
complete_of next front rest x e some (inl n) = absurd (omega (arith, ap length e, ap length n, length-append (bytes_of_frames front) rest))
complete_of next front rest x e some (inr c) = c

-- a frame, and then the items of the rest
after_frame : (s next : List ℕ) (b : NlaBuffer) (items : List Item) → Splits s (kind_field_of b) (payload_of b) next → AreItems next items → AreItems s (Ok b ∷ items)
after_frame s next b items split (inl (xs, frames, same)) =
    let x : Frame = record { kind_field = kind_field_of b; payload = payload_of b; padding = split.padding } in
    inl (
      x ∷ xs,
      record { frames = are_more x xs split.is (end_or next xs x frames.string split.last) frames.frames; string = split.string ∙ ap (λ t. frame_bytes x ++ t) frames.string },
      ap (λ t. Ok (kind_field_of b, payload_of b) ∷ t) same,
    )
after_frame s next b items split (inr (xs, rest, c, complete, string, some, fault, same)) =
    let x : Frame = record { kind_field = kind_field_of b; payload = payload_of b; padding = split.padding } in
    inr (
      x ∷ xs,
      rest,
      c,
      (complete_of next xs rest x string some split.last, complete),
      split.string ∙ ap (λ t. frame_bytes x ++ t) string ∙ sym (append_assoc (frame_bytes x) (bytes_of_frames xs) rest),
      some,
      fault,
      ap (λ t. Ok (kind_field_of b, payload_of b) ∷ t) same,
    )

run_items : (a b c : NlasIterator) (items : List Item) → Yields Step a items b → Step b None c → AreItems (bytes_left a) items
run_items a b c [] h end = inl ([], record { frames = tt; string = ap bytes_left h ∙ end.0 }, refl)
run_items a b c (Ok buffer ∷ items) h end =
    let j = h.0 in
    let s = bytes_left a in
    let split = splits s (kind_field_of buffer) (payload_of buffer) h.1.0 in
    after_frame s (bytes_left j) buffer items (subst (Splits s (kind_field_of buffer) (payload_of buffer)) (sym h.1.1) split) (run_items j b c items h.2 end)
run_items a b c (Err e ∷ items) h end =
    let s = bytes_left a in
    let here = h.1 in
    let none : items ≡ [] = no_more h.0 b items here.2 h.2 in
    inr (
      [],
      s,
      here.1.0,
      tt,
      refl,
      some_bytes s here.0,
      here.1.1,
      ap (λ t. map seen (Err e ∷ t)) none ∙ ap (λ t. Err t ∷ []) here.1.2,
    )

-- an attribute at the front takes four bytes, or all that is left
pub one_more : (s : List ℕ) (b : NlaBuffer) (t : List ℕ) (n : ℕ) → SplitsFirst s b t → n ≤ most_items t → suc n ≤ most_items s
one_more s b t n h less = omega (arith, less, long_enough s (frame_of b) h.0, ap length h.1, length-drop (step_of s (payload_of b)) s)

-- after an error at the front, nothing is left
pub one_last : (s t : List ℕ) (n : ℕ) → s ≢ [] → t ≡ [] → n ≤ most_items t → suc n ≤ most_items s
one_last s t n some none less = omega (arith, less, some_bytes s some, ap length none)

run_short : (a b : NlasIterator) (items : List Item) → Yields Step a items b → length items ≤ most_items (bytes_left a)
run_short a b [] h = omega arith
run_short a b (Ok buffer ∷ items) h = one_more (bytes_left a) buffer (bytes_left h.0) (length items) h.1 (run_short h.0 b items h.2)
run_short a b (Err e ∷ items) h = one_last (bytes_left a) (bytes_left h.0) (length items) h.1.0 h.1.2 (run_short h.0 b items h.2)

run_some : (a b c : NlasIterator) (items : List Item) → Yields Step a items b → Step b None c → least_items (bytes_left a) ≤ length items
run_some a b c [] h end = omega (arith, ap (λ it. length (bytes_left it)) h, ap length end.0)
run_some a b c (r ∷ items) h end = omega arith

-- an iterator that is run to its end returns the frames before the first malformed header, then its error; there are no
-- more items than there can be frames, and at least one if bytes are left
pub whole_run : (it : NlasIterator) (items : List Item) → Drains Step it items
    → AreItems (bytes_left it) items × IsCount (bytes_left it) (length items)
whole_run it items (u, (t, run, end)) = (run_items it t u items run end, (run_some it t u items run end, run_short it t items run))
