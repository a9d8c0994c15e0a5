-- Bytes that are stored in a buffer one after the other.
use borrow.Rule.Slice.PartMut.{put_mid}
use Rattle.std.proofs.Common.{◌≡◌, ℕ, ◌+◌, ◌-◌, ◌%◌, ◌^◌, ◌<◌, ◌≤◌, min, replicate, List, [], ◌++◌, length, take, drop, Result, Ok, Err, ◌&&◌, Bool, true, false, cond, nat_le, refl, sym, ap, ap₂, subst, ◌∙◌, arith, append_assoc, length-append, take-append-drop, drop_at, drop-drop}
use Rattle.std.proofs.lemmas.Bool.{eq-eqb, le-leb}
use Rattle.std.proofs.lemmas.List.{append-nil, nil_from_length, length-take, length-drop}
use Rattle.std.proofs.lemmas.Slice.{take-put_mid, take-put_mid_below, drop-put_mid}
use Rattle.std.proofs.Math.Seq.{take-length}
use Rattle.link_base.specs.Number.{bytes_of}
use Rattle.link_base.specs.Frame.{frame_bytes, gap, pad, max_payload}
use Rattle.link_base.specs.Wire.{whole}
use Rattle.link_base.specs.Answers.{capped}
use Rattle.link_base.proofs.Emit.{length-whole_bytes}
use Rattle.link_entries.specs.declared.entry.Entry.{Entry}
use Rattle.link_entries.specs.declared.fields.Fields.{Fields}
use Rattle.link_entries.specs.declared.fields.Fields.TheVariants as fields
use Rattle.link_entries.specs.declared.misfit.Misfit.{Misfit}
use Rattle.link_entries.specs.declared.misfit.MisfitAt.{MisfitAt}
use Rattle.link_entries.specs.declared.misfit.Misfit.TheVariants.{BadElement, TooLong}
use Rattle.link_base.specs.Table.{Table}
use Rattle.link_entries.specs.Encoded.{Encoding, before, fitted, framed, element_content, element_of}
use Rattle.link_entries.specs.Payload.{payload_of, field_of}
use Rattle.link_entries.specs.Fields.{fields_at}
use Rattle.link_entries.specs.Stored.{with_at, StoresAt, header, padded, sized, StoresPayload, StoresBytes, Encodes}
use Rattle.link_entries.proofs.Encodings.{frame_low, Reached, reached_all, reached_error}

-- a buffer with s in place of a part of it
with_mid : (a : ℕ) (s x : List ℕ) → with_at a s x ≡ put_mid a (length s) x s
with_mid a s x = ap (λ l. take a x ++ (s ++ l)) (sym (drop-drop (length s) a x))

module _ (a : ℕ) (s t x y z : List ℕ) where
  -- s, then t after it
  pub stored_then : StoresAt a s x y → StoresAt (a + length s) t y z → StoresAt a (s ++ t) x z
  stored_then h k = record {
    same = k.same ∙ h.same;
    stored = λ room.
        let n = length s in
        let low : a + n ≤ length x = omega (arith, room, length-append s t) in
        let is = h.stored low ∙ with_mid a s x in
        let first : take (a + n) y ≡ take a x ++ s = ap (take (a + n)) is ∙ take-put_mid a n x s (a + n) refl (omega arith) in
        let far : drop (a + n + length t) y ≡ drop (a + length (s ++ t)) x =
        ap (drop (a + n + length t)) is ∙ drop-put_mid a n x s (a + n + length t) (omega arith) (omega arith) refl ∙ ap (λ m. drop m x) (omega (arith, length-append s t)) in
        k.stored (omega (arith, room, length-append s t, h.same)) ∙ ap₂ (λ l r. l ++ (t ++ r)) first far
        ∙ append_assoc (take a x) s (t ++ drop (a + length (s ++ t)) x) ∙ ap (λ l. take a x ++ l) (sym (append_assoc s t (drop (a + length (s ++ t)) x)));
  }

  -- t, then s before it
  pub stored_before : StoresAt (a + length s) t x y → StoresAt a s y z → StoresAt a (s ++ t) x z
  stored_before h k = record {
    same = k.same ∙ h.same;
    stored = λ room.
        let n = length s in
        let low : a + n ≤ length x = omega (arith, room, length-append s t) in
        let is = h.stored (omega (arith, room, length-append s t)) in
        let first : take a y ≡ take a x = ap (take a) (is ∙ with_mid (a + n) t x) ∙ take-put_mid_below (a + n) (length t) x t a (omega arith) low in
        let far : drop (a + n) y ≡ t ++ drop (a + length (s ++ t)) x =
        ap (drop (a + n)) is ∙ drop_at (take (a + n) x) (t ++ drop (a + n + length t) x) (a + n) (omega (arith, length-take (a + n) x, low))
        ∙ ap (λ m. t ++ drop m x) (omega (arith, length-append s t)) in
        k.stored (omega (arith, low, h.same)) ∙ ap₂ (λ l r. l ++ (s ++ r)) first far
        ∙ ap (λ l. take a x ++ l) (sym (append_assoc s t (drop (a + length (s ++ t)) x)));
  }

-- what was stored in the end of a buffer, from an offset on if the buffer is so long
pub stored_part : (at from : ℕ) (s x sub z : List ℕ) → from ≡ min at (length x) → StoresAt 0 s (take (length x - from) (drop from x)) sub → z ≡ put_mid from (length x - from) x sub → StoresAt at s x z
stored_part at from s x sub z low h is = record {
  same = ap length is ∙ omega (arith, length-append (take from x) (sub ++ drop k rest), length-append sub (drop k rest), length-take from x, length-drop k rest, length-take k rest, length-drop from x, h.same, low);
  stored = λ room.
      let here : from ≡ at = omega (arith, low, room) in
      let all : take k rest ≡ rest = ap (λ n. take n rest) (sym (length-drop from x)) ∙ take-length rest in
      let past : drop k rest ≡ [] = nil_from_length (drop k rest) (omega (arith, length-drop k rest, length-drop from x)) in
      let part : sub ≡ s ++ drop (length s) rest = h.stored (omega (arith, length-take k rest, length-drop from x, here, room)) ∙ ap (λ n. s ++ drop n (take k rest)) (omega arith) ∙ ap (λ l. s ++ drop (length s) l) all in
      let far : drop (length s) rest ≡ drop (at + length s) x = drop-drop (length s) from x ∙ ap (λ n. drop (n + length s) x) here in
      is ∙ ap (λ l. take from x ++ (sub ++ l)) past ∙ ap (λ l. take from x ++ l) (append-nil sub) ∙ ap (λ l. take from x ++ l) part ∙ ap (λ l. take from x ++ (s ++ l)) far
      ∙ ap (λ n. take n x ++ (s ++ drop (at + length s) x)) here;
}
  where
    k : ℕ
    k = length x - from

    rest : List ℕ
    rest = drop from x

-- an attribute: its payload, then its header
pub stored_frame : (f : ℕ) (p x y z : List ℕ) → StoresAt 4 (padded p) x y → StoresAt 0 (header f (length p)) y z → StoresAt 0 (frame_bytes (whole f p)) x z
stored_frame f p x y z h k =
    subst (λ s. StoresAt 0 s x z) (append_assoc (bytes_of 2 (4 + length p)) (bytes_of 2 f) (padded p))
    (stored_before 0 (header f (length p)) (padded p) x y z h k)

-- ---- what a function stored

-- more of a list: what was stored in the end of a buffer, after the text so far
pub stored_more : (text x out0 out sub out' : List ℕ) (from : ℕ) → StoresAt 0 text out0 out → length out < 2 ^ 64 → from ≡ min (capped (length text)) (length out)
    → StoresAt 0 x (take (length out - from) (drop from out)) sub → out' ≡ put_mid from (length out - from) out sub → StoresAt 0 (text ++ x) out0 out'
stored_more text x out0 out sub out' from h small low k is =
    let here : length text ≡ 0 + length text = omega arith in
    stored_then 0 text x out0 out out' h (subst (λ n. StoresAt n x out out') here (stored_part (length text) from x out sub out' (omega (arith, low, small)) k is))

-- a payload, or bytes, of which the length is known
pub sized_ok : (r : Result (List ℕ) Misfit) (n : ℕ) → Ok n ≡ sized r → (p : List ℕ) × (r ≡ Ok p) × (n ≡ length p)
sized_ok (Ok p) n e = (p, refl, cc)
sized_ok (Err m) n e = absurd cc

pub sized_err : (r : Result (List ℕ) Misfit) (m : Misfit) → Err m ≡ sized r → r ≡ Err m
sized_err (Ok p) m e = absurd cc
sized_err (Err n) m e = cc

-- bytes that entries encode to
pub encodes_ok : (s : Encoding) (old new : List ℕ) (n : ℕ) → Encodes s old new (Ok n) → (text : List ℕ) × (s ≡ Ok text) × (n ≡ capped (length text)) × StoresAt 0 text old new
encodes_ok (Ok text) old new n h = (text, refl, cc, h.1)
encodes_ok (Err e) old new n h = absurd cc

-- a payload, then its padding
pub stored_padded : (p x y z : List ℕ) → StoresAt 4 p x y → StoresAt (4 + length p) (replicate (pad (4 + length p) - (4 + length p)) 0) y z → StoresAt 4 (padded p) x z
stored_padded p x y z h k = stored_then 4 p (replicate (gap p) 0) x y z h k

-- ---- attributes

module _ (r : Result (List ℕ) Misfit) (f : ℕ) where
  pub framed_err : (m : Misfit) → Err m ≡ sized r → Err m ≡ sized (framed f r)
  framed_err m e = ap (λ s. sized (framed f s)) (sym (sized_err r m e))

  pub framed_unstored : (m : Misfit) (x y : List ℕ) → Err m ≡ sized r → StoresPayload r x y → StoresBytes (framed f r) x y
  framed_unstored m x y e h =
      let is = sized_err r m e in
      subst (λ s. StoresBytes (framed f s) x y) (sym is) (subst (λ s. StoresPayload s x y) is h)

  pub framed_stored : (n : ℕ) (x y z : List ℕ) → Ok n ≡ sized r → StoresPayload r x y → StoresAt 0 (header f n) y z → StoresBytes (framed f r) x z
  framed_stored n x y z e h k =
      let (p, is, size) = sized_ok r n e in
      subst (λ s. StoresBytes (framed f s) x z) (sym is)
      (stored_frame f p x y z (subst (λ s. StoresPayload s x y) is h) (subst (λ m. StoresAt 0 (header f m) y z) size k))

-- only the two low bytes of an `nla_type` are written
pub framed_low : (f : ℕ) (r : Result (List ℕ) Misfit) → framed (f % 65536) r ≡ framed f r
framed_low f (Ok p) = ap Ok (frame_low f p)
framed_low f (Err m) = refl

-- ---- elements

-- an element of a nested list, whose own type has these fields
pub nested_element : (table : Table) (list own : Fields) (k i flag f : ℕ) (e : Entry) (octets : List ℕ) → e.depth ≡ 1 → e.kind ≡ k → list ≡ fields.List flag → own ≡ fields_at table e.inner → f ≡ field_of own e.inner e % 65536
    → framed f (payload_of own (record e { kind = e.inner }) octets) ≡ element_of table list k i e octets
nested_element table list own k i flag f e octets deep same is row low =
    let r : Fields → Result (List ℕ) Misfit = λ o. payload_of o (record e { kind = e.inner }) octets in
    ap (λ n. framed n (r own)) low ∙ framed_low (field_of own e.inner e) (r own) ∙ ap (λ o. framed (field_of o e.inner e) (r o)) row
    ∙ sym (ap₂ (λ a b. cond (a && b) (element_content table list i e octets) (Err BadElement)) (eq-eqb e.depth 1 deep) (eq-eqb e.kind k same) ∙ ap (λ o. element_content table o i e octets) is)

-- ---- loops

-- the length of a buffer whose end was changed
pub part_length : (from : ℕ) (x sub z : List ℕ) → from ≤ length x → length sub ≡ length (take (length x - from) (drop from x)) → z ≡ put_mid from (length x - from) x sub → length z ≡ length x
part_length from x sub z low same is =
    let k = length x - from in
    let rest = drop from x in
    ap length is ∙ omega (arith, length-append (take from x) (sub ++ drop k rest), length-append sub (drop k rest), length-take from x, length-drop k rest, length-take k rest, length-drop from x, same, low)

module _ (whole others : Encoding) (text : List ℕ) (i : ℕ) (old new : List ℕ) where
  -- all entries were stored
  pub encodes_all : (n : ℕ) → Reached whole text i others → others ≡ Ok [] → n ≡ capped (length text) → StoresAt 0 text old new → Encodes whole old new (Ok n)
  encodes_all n h e size stored = subst (λ s. Encodes s old new (Ok n)) (sym (reached_all whole others text i h e)) (ap Ok size, stored)

  -- an entry cannot be written
  pub encodes_error : (here : Encoding) (j : ℕ) (misfit : Misfit) (at : ℕ) → Reached whole text i (before here others) → here ≡ Err (j, misfit) → at ≡ i + j → length new ≡ length old
      → Encodes whole old new (Err (record { index = at; misfit = misfit }))
  encodes_error here j misfit at h e place same =
      subst (λ s. Encodes s old new (Err (record { index = at; misfit = misfit }))) (sym (reached_error whole others text i j misfit here h e)) (ap (λ n. Err (record { index = n; misfit = misfit })) place, same)

-- the first entry that cannot be written
pub encodes_err : (s : Encoding) (old new : List ℕ) (at : MisfitAt) → Encodes s old new (Err at) → (s ≡ Err (at.index, at.misfit)) × (length new ≡ length old)
encodes_err (Ok text) old new at h = absurd cc
encodes_err (Err e) old new at h = (ap back (sym h.0), h.1)
  where
    back : Result ℕ MisfitAt → Encoding
    back (Ok n) = Ok []
    back (Err m) = Err (m.index, m.misfit)

-- an attribute that fits
pub encodes_frame : (f : ℕ) (p : List ℕ) (n : ℕ) (old new : List ℕ) → length p ≤ max_payload → StoresAt 0 (frame_bytes (whole f p)) old new → n ≡ pad (4 + length p) → Encodes (fitted f (Ok p)) old new (Ok n)
encodes_frame f p n old new short stored size =
    let fits : fitted f (Ok p) ≡ Ok (frame_bytes (whole f p)) = ap (λ b. cond b (Ok (frame_bytes (whole f p))) (Err (0, TooLong))) (le-leb (length p) max_payload short) in
    subst (λ s. Encodes s old new (Ok n)) (sym fits) (ap Ok (omega (arith, size, length-whole_bytes f p, short)), stored)

-- only the two low bytes of an `nla_type` are written
pub fitted_low : (f : ℕ) (s : Encoding) → fitted (f % 65536) s ≡ fitted f s
fitted_low f (Ok p) = ap (λ frame. cond (nat_le (length p) max_payload) (Ok frame) (Err (0, TooLong))) (frame_low f p)
fitted_low f (Err e) = refl

-- ---- lists

-- bytes over an empty payload
behind : (s x y z : List ℕ) → 4 ≤ length s → StoresAt 4 (padded []) x y → StoresAt 0 s y z → StoresAt 0 s x z
behind s x y z long h k = record {
  same = k.same ∙ h.same;
  stored = λ room.
      let is : y ≡ x = h.stored (omega (arith, room, long)) ∙ take-append-drop 4 x in
      subst (λ w. z ≡ with_at 0 s w) is (k.stored (omega (arith, room, h.same)));
}

-- an attribute over an empty payload
pub encodes_behind : (f : ℕ) (s : Encoding) (x y z : List ℕ) (result : Result ℕ MisfitAt) → StoresAt 4 (padded []) x y → Encodes (fitted f s) y z result → Encodes (fitted f s) x z result
encodes_behind f (Err e) x y z result h k = (k.0, k.1 ∙ h.same)
encodes_behind f (Ok p) x y z result h k = (k.0, by (nat_le (length p) max_payload) k.1)
  where
    by : (b : Bool) → StoresBytes {E = ℕ × Misfit} (cond b (Ok (frame_bytes (whole f p))) (Err (0, TooLong))) y z → StoresBytes {E = ℕ × Misfit} (cond b (Ok (frame_bytes (whole f p))) (Err (0, TooLong))) x z
    by true stored = behind (frame_bytes (whole f p)) x y z (omega (arith, length-whole_bytes f p)) h stored
    by false same = same ∙ h.same
