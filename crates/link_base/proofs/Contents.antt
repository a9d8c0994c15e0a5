-- The laws of the shapes of a row: one class, a nested list, or addresses.
use Rattle.std.proofs.Common.{◌≡◌, ℕ, ◌≤◌, List, [], ◌∷◌, length, map, None, Result, Ok, Err, refl, sym, ap, subst, ◌∙◌, arith, length-append}
use Rattle.std.specs.List.{AllByRecursion}
use Rattle.link_base.specs.Number.{IsBytes}
use Rattle.link_base.specs.declared.wire.fault.Cause.{Cause}
use Rattle.link_base.specs.declared.wire.fault.DecodeFault.{DecodeFault}
use Rattle.link_base.specs.Frame.{Frame, Frames, pad, frame_bytes, bytes_of_frames}
use Rattle.link_base.specs.Class
use Rattle.link_base.specs.Class.{Class, Value, class_value, written, extent, length_cause, meant}
use Rattle.link_base.specs.Wire.{Reading, Reads, Wire, FitsBy, RewritingBy, whole}
use Rattle.link_base.specs.Table.{Case, Rows, Leaf, LeafGives, leaf_field, leaf_payload, leaf_canon, leaf_cut, written_leaves, Shape, One, Nested, Addresses, Content, Single, Inner, Listed, AttrValue, single_case, list_case, ListGives, PayloadGives, of_length, ShapeGives, addresses_from, nested_flag, content_flag, content_payload, content_canon, content_cut, IsCanonicalContent, shape_flag}
use Rattle.link_base.specs.Held.{IsOctets, ContentInRange, ContentHidesNone, ContentIsUncut}
use Rattle.link_base.specs.Lawful.{IsReading}
use Rattle.link_base.proofs.Cuts.{one_cut_lem}
use Rattle.link_base.proofs.FrameBytes.{length-frame_bytes}
use Rattle.link_base.proofs.ClassLemmas.{accepted_meaning, value_of_accepted, tidy_iff, written_short}
use Rattle.link_base.proofs.Values.{meant_in_range, meant_canon, back, written_bytes, uncut_stays, cut_canonical, cut_again, length-cut}
use Rattle.link_base.proofs.Readings.{ok, same_ok, ReadEach, reads_some, reads_one}
use Rattle.link_base.proofs.Written.{AreFrames-complete, IsKnown, known_of, all_each, bytes-written, wire_written, uncut_each, are_read}
use Rattle.link_base.proofs.Rewritings.{fixed_iff_canonical, canonical_reads, never_longer, are_cut, second_canonical}
use Rattle.link_base.proofs.Leaves.{leaf_reading, leaf_holding, leaf_writing, leaf_short, length-leaf_cut}
use Rattle.link_base.proofs.Addresses.{payload_reading, payloads, read_payloads, payloads_are, octets-frames, of_length-addresses, length-whole, complete_addresses, bytes-addresses, short-addresses}

-- ---- decoding

-- a list of attribute type k has one result only
list_reading : {V : Type 0} (gives : Reading V) (content : List V → Content) (k : ℕ) (p : List ℕ) (r q : Result AttrValue DecodeFault) → IsReading gives
    → ListGives gives content k p r → ListGives gives content k p q → r ≡ q
list_reading gives content k p r q laws a b = a.2 ∙ ap (list_case content k) (reads_one laws p a.0 b.0 a.1 b.1) ∙ sym b.2

-- a list of attribute type k has a result
list_decided : {V : Type 0} (gives : Reading V) (content : List V → Content) (k : ℕ) (p : List ℕ) → IsReading gives → IsBytes p
    → (r : Result AttrValue DecodeFault) × ListGives gives content k p r
list_decided gives content k p laws hp = let read = reads_some laws p hp in (list_case content k read.0, (read.0, read.1, refl))

-- a payload has a result
pub shape_decided : (s : Shape) (k : ℕ) (p : List ℕ) → IsBytes p → (r : Result AttrValue DecodeFault) × ShapeGives s k p r
shape_decided (One c) k p hp = (single_case k (class_value c p), refl)
shape_decided (Nested flagged rows) k p hp = list_decided (LeafGives rows) (Inner flagged) k p (leaf_reading rows) hp
shape_decided (Addresses n) k p hp = list_decided PayloadGives (λ ps. Listed (of_length n ps)) k p payload_reading hp

-- a payload has one result only
pub shape_one : (s : Shape) (k : ℕ) (p : List ℕ) (r q : Result AttrValue DecodeFault) → ShapeGives s k p r → ShapeGives s k p q → r ≡ q
shape_one (One c) k p r q a b = a ∙ sym b
shape_one (Nested flagged rows) k p r q a b = list_reading (LeafGives rows) (Inner flagged) k p r q (leaf_reading rows) a b
shape_one (Addresses n) k p r q a b = list_reading PayloadGives (λ ps. Listed (of_length n ps)) k p r q payload_reading a b

-- ---- what a payload means

-- the content of a payload that decodes to a value
abbrev pub Means : Shape → List ℕ → Content → Type 0
Means (One c) p content = (length_cause (extent c) (length p) ≡ None) × (content ≡ Single (meant c p))
Means (Nested flagged rows) p content = (vs : List Leaf) × Wire (LeafGives rows) p vs × (content ≡ Inner flagged vs)
Means (Addresses n) p content = (xs : List Frame) × Frames p xs × (content ≡ Listed (of_length n (payloads xs)))

-- the value of a variant with one class
single_ok : (k : ℕ) (r : Result Value Cause) (v : AttrValue) → ok v ≡ single_case k r → (w : Value) × (r ≡ Ok w) × (v ≡ Case k (Single w))
single_ok k (Ok w) v e = (w, refl, same_ok v (Case k (Single w)) e)
single_ok k (Err c) v e = absurd cc

-- the values of a variant that is a list
list_ok : {V : Type 0} (gives : Reading V) (content : List V → Content) (k : ℕ) (p : List ℕ) (v : AttrValue) (q : Result (List V) (ℕ × DecodeFault))
    → Reads gives p q → ok v ≡ list_case content k q → (vs : List V) × Wire gives p vs × (v ≡ Case k (content vs))
list_ok gives content k p v (Ok vs) w e = (vs, w, same_ok v (Case k (content vs)) e)
list_ok gives content k p v (Err h) w e = absurd cc

-- the value of a payload is a variant with its content
pub content_of : (s : Shape) (k : ℕ) (p : List ℕ) (v : AttrValue) → ShapeGives s k p (Ok v) → (c : Content) × Means s p c × (v ≡ Case k c)
content_of (One c) k p v h =
    let read = single_ok k (class_value c p) v h in
    let is = accepted_meaning c p read.0 read.1 in
    (Single read.0, (is.0, ap Single is.1), read.2)
content_of (Nested flagged rows) k p v h =
    let all = list_ok (LeafGives rows) (Inner flagged) k p v h.0 h.1 h.2 in
    (Inner flagged all.0, (all.0, all.1, refl), all.2)
content_of (Addresses n) k p v h =
    let all = list_ok PayloadGives (λ ps. Listed (of_length n ps)) k p v h.0 h.1 h.2 in
    let w = all.1 in
    (Listed (of_length n all.0), (w.frames, w.string, ap (λ ps. Listed (of_length n ps)) (payloads_are w.frames all.0 w.values)), all.2)

-- a payload decodes to the variant with its content
pub content_given : (s : Shape) (k : ℕ) (p : List ℕ) (c : Content) → Means s p c → ShapeGives s k p (Ok (Case k c))
content_given (One d) k p c m = sym (ap (single_case k) (value_of_accepted d p m.0) ∙ ap (λ e. ok (Case k e)) (sym m.1))
content_given (Nested flagged rows) k p c m = (Ok m.0, m.1, ap (λ e. ok (Case k e)) m.2)
content_given (Addresses n) k p c m =
    (Ok (payloads m.0), record { frames = m.0; string = m.1; values = read_payloads m.0 }, ap (λ e. ok (Case k e)) m.2)

-- ---- contents in range

-- what is written for a content in range consists of bytes
pub content_bytes : (s : Shape) (c : Content) → ContentInRange s c → IsBytes (content_payload c)
content_bytes (One k) (Single v) h = written_bytes k v h
content_bytes (Nested flagged rows) (Inner flag vs) h = bytes-written (leaf_holding rows) vs h.1
content_bytes (Addresses n) (Listed octets) h = bytes-addresses n 0 octets h
content_bytes s c h = absurd h

-- the flag of a content in range is that of the row
pub content_flagged : (s : Shape) (c : Content) → ContentInRange s c → content_flag c ≡ shape_flag s
content_flagged (One k) (Single v) h = refl
content_flagged (Nested flagged rows) (Inner flag vs) h = ap nested_flag h.0
content_flagged (Addresses n) (Listed octets) h = refl
content_flagged s c h = absurd h

-- if a nested list fits, each of its values does
leaves_fit : (vs : List Leaf) → length (written_leaves vs) ≤ 65531 → AllByRecursion (FitsBy leaf_payload) vs
leaves_fit [] fit = tt
leaves_fit (v ∷ vs) fit =
    let x = whole (leaf_field v) (leaf_payload v) in
    let len = length-append (frame_bytes x) (written_leaves vs) in
    let own = length-frame_bytes x in
    (omega arith, leaves_fit vs (omega arith))

-- the lengths of addresses
sizes : (n : ℕ) (octets : List (List ℕ)) → AllByRecursion (IsOctets n) octets → AllByRecursion (λ a. length a ≡ n) octets
sizes n octets h = all_each (IsOctets n) (λ a. length a ≡ n) (λ a k. k.0) octets h

-- what is written for addresses decodes to these addresses
addresses_mean : (n : ℕ) (octets : List (List ℕ)) → AllByRecursion (IsOctets n) octets → length (bytes_of_frames (addresses_from 0 octets)) ≤ 65531
    → Means (Addresses n) (bytes_of_frames (addresses_from 0 octets)) (Listed octets)
addresses_mean n octets h fit =
    let xs = addresses_from 0 octets in (
      xs,
      record { frames = AreFrames-complete xs (complete_addresses 0 octets (omega arith)); string = refl },
      ap Listed (sym (of_length-addresses n 0 octets (sizes n octets h))),
    )

-- what is written for a content in range decodes to its normal form, after `cut`
pub content_back : (s : Shape) (c : Content) → ContentInRange s c → ContentHidesNone s c → length (content_payload c) ≤ 65531 → Means s (content_payload c) (content_cut (content_canon c))
content_back (One k) (Single v) h none fit =
    let is = accepted_meaning k (written v) (Class.cut (Class.canon v)) (back k v h) in
    (is.0, ap Single is.1)
content_back (Nested flagged rows) (Inner flag vs) h none fit =
    (map leaf_cut (map leaf_canon vs), wire_written (leaf_holding rows) vs h.1 none (leaves_fit vs fit), ap (λ b. Inner b (map leaf_cut (map leaf_canon vs))) h.0)
content_back (Addresses n) (Listed octets) h none fit = addresses_mean n octets h fit
content_back s c h none fit = absurd h

-- `cut` leaves an uncut content and its normal form unchanged
pub content_uncut_stays : (s : Shape) (c : Content) → ContentInRange s c → ContentIsUncut c → (content_cut c ≡ c) × (content_cut (content_canon c) ≡ content_canon c)
content_uncut_stays (One k) (Single v) h u = let stays = uncut_stays k v h u in (ap Single stays.0, ap Single stays.1)
content_uncut_stays (Nested flagged rows) (Inner flag vs) h u =
    let stays = uncut_each (leaf_holding rows) vs h.1 u in
    (ap (Inner flag) stays.0, ap (Inner flag) stays.1)
content_uncut_stays (Addresses n) (Listed octets) h u = (refl, refl)
content_uncut_stays s c h u = absurd h

-- ---- decoded contents

-- a decoded content is in range, hides none, and is its own normal form
pub record IsReadContent (s : Shape) (c : Content) : Type 0 where
  pub in_range : ContentInRange s c
  pub hides_none : ContentHidesNone s c
  pub own : content_canon c ≡ c

-- the content of a payload of bytes is such a content
pub read_content : (s : Shape) (p : List ℕ) (c : Content) → IsBytes p → Means s p c → IsReadContent s c
read_content (One k) p c hp m =
    subst (IsReadContent (One k)) (sym m.1) (record { in_range = meant_in_range k p hp m.0; hides_none = tt; own = ap Single (meant_canon k p) })
read_content (Nested flagged rows) p c hp m =
    let all = are_read (leaf_holding rows) p m.0 hp m.1 in
    subst (IsReadContent (Nested flagged rows)) (sym m.2) (record { in_range = (refl, all.all_in); hides_none = all.hide_none; own = ap (Inner flagged) all.own })
read_content (Addresses n) p c hp m =
    subst (IsReadContent (Addresses n)) (sym m.2) (record { in_range = octets-frames n m.0 (known_of p m.0 hp m.1); hides_none = tt; own = refl })

-- ---- a nested list, re-encoded

-- each attribute of a nested list fits
leaves_short : (rows : Rows) (xs : List Frame) (vs : List Leaf) → AllByRecursion IsKnown xs → ReadEach (LeafGives rows) xs vs → AllByRecursion (FitsBy leaf_payload) vs
leaves_short rows [] [] k r = tt
leaves_short rows [] (v ∷ vs) k r = absurd r
leaves_short rows (x ∷ xs) [] k r = absurd r
leaves_short rows (x ∷ xs) (v ∷ vs) k r =
    let short = leaf_short rows x.kind_field x.payload v k.0.kind_field k.0.bytes r.0 in
    (omega (arith, k.0.payload), leaves_short rows xs vs k.1 r.1)

-- each decoded nested list has a rewriting
abbrev rewritten : (rows : Rows) (p : List ℕ) (vs : List Leaf) → IsBytes p → Wire (LeafGives rows) p vs → RewritingBy (LeafGives rows) leaf_field leaf_payload p (written_leaves vs)
rewritten rows p vs hp w =
    record { values = vs; wire = w; string = refl; fit = leaves_short rows w.frames vs (known_of p w.frames hp w.string) w.values }

-- `cut` changes no length
length-leaves_cut : (vs : List Leaf) → length (written_leaves (map leaf_cut vs)) ≡ length (written_leaves vs)
length-leaves_cut [] = refl
length-leaves_cut (v ∷ vs) =
    let later = length-leaves_cut vs in
    let same = length-leaf_cut v in
    let a = whole (leaf_field (leaf_cut v)) (leaf_payload (leaf_cut v)) in
    let b = whole (leaf_field v) (leaf_payload v) in
    omega (
      arith,
      length-append (frame_bytes a) (written_leaves (map leaf_cut vs)),
      length-append (frame_bytes b) (written_leaves vs),
      length-whole (leaf_field (leaf_cut v)) (leaf_payload (leaf_cut v)),
      length-whole (leaf_field v) (leaf_payload v),
    )

-- ---- what is written for a decoded content

-- what is written for a decoded content is the payload if the payload is canonical
pub content_stays : (s : Shape) (p : List ℕ) (c : Content) → IsBytes p → Means s p c → IsCanonicalContent s p → content_payload c ≡ p
content_stays (One k) p c hp m a = ap content_payload m.1 ∙ (tidy_iff k p hp m.0).1 a.is_tidy
content_stays (Nested flagged rows) p c hp m a =
    ap content_payload m.2 ∙ (fixed_iff_canonical (leaf_reading rows) (leaf_holding rows) (leaf_writing rows) p (written_leaves m.0) hp (rewritten rows p m.0 hp m.1)).1 a
content_stays (Addresses n) p c hp m a =
    let own = addresses_from 0 a.addresses in
    let same : m.0 ≡ own = one_cut_lem p m.0 own m.1 (record { frames = AreFrames-complete own a.complete; string = a.string }) in
    let are : of_length n (payloads m.0) ≡ a.addresses = ap (λ xs. of_length n (payloads xs)) same ∙ of_length-addresses n 0 a.addresses a.each in
    ap content_payload m.2 ∙ ap (λ t. bytes_of_frames (addresses_from 0 t)) are ∙ sym a.string

-- the payload is canonical if it is what is written for its content
pub content_allowed : (s : Shape) (p : List ℕ) (c : Content) → IsBytes p → length p ≤ 65531 → Means s p c → content_payload c ≡ p → IsCanonicalContent s p
content_allowed (One k) p c hp hl m e = record { is_accepted = m.0; is_tidy = (tidy_iff k p hp m.0).0 (sym (ap content_payload m.1) ∙ e) }
content_allowed (Nested flagged rows) p c hp hl m e =
    (fixed_iff_canonical (leaf_reading rows) (leaf_holding rows) (leaf_writing rows) p (written_leaves m.0) hp (rewritten rows p m.0 hp m.1)).0 (sym (ap content_payload m.2) ∙ e)
content_allowed (Addresses n) p c hp hl m e =
    let octets = of_length n (payloads m.0) in
    let is : bytes_of_frames (addresses_from 0 octets) ≡ p = sym (ap content_payload m.2) ∙ e in
    record { addresses = octets; each = sizes n octets (octets-frames n m.0 (known_of p m.0 hp m.1)); complete = complete_addresses 0 octets (omega (arith, ap length is)); string = sym is }

-- a canonical payload has a content
pub content_reads : (s : Shape) (p : List ℕ) → IsBytes p → IsCanonicalContent s p → (c : Content) × Means s p c
content_reads (One k) p hp a = (Single (meant k p), (a.is_accepted, refl))
content_reads (Nested flagged rows) p hp a =
    let all = canonical_reads (leaf_reading rows) (leaf_holding rows) (leaf_writing rows) p hp a in
    (Inner flagged all.0, (all.0, all.1, refl))
content_reads (Addresses n) p hp a =
    let own = addresses_from 0 a.addresses in
    (Listed (of_length n (payloads own)), (own, record { frames = AreFrames-complete own a.complete; string = a.string }, refl))

-- what is written for a decoded content is no longer than the payload, padded
pub content_length : (s : Shape) (p : List ℕ) (c : Content) → IsBytes p → Means s p c → length (content_payload c) ≤ pad (length p)
content_length (One k) p c hp m = let short = written_short k p m.0 in omega (arith, ap (λ d. length (content_payload d)) m.1)
content_length (Nested flagged rows) p c hp m =
    let len = never_longer (leaf_reading rows) (leaf_holding rows) (leaf_writing rows) p (written_leaves m.0) hp (rewritten rows p m.0 hp m.1) in
    omega (arith, ap (λ d. length (content_payload d)) m.2)
content_length (Addresses n) p c hp m =
    omega (arith, ap (λ d. length (content_payload d)) m.2, short-addresses n 0 m.0 m.1.frames, ap length m.1.string)

-- what is written for a decoded content after `cut` is canonical
pub content_cut_allowed : (s : Shape) (p : List ℕ) (c : Content) → IsBytes p → Means s p c → length (content_payload c) ≤ 65531
    → IsCanonicalContent s (content_payload (content_cut c))
content_cut_allowed (One k) p c hp m fit =
    subst (λ d. IsCanonicalContent (One k) (content_payload (content_cut d))) (sym m.1) (cut_canonical k p hp m.0)
content_cut_allowed (Nested flagged rows) p c hp m fit =
    subst (λ d. IsCanonicalContent (Nested flagged rows) (content_payload (content_cut d))) (sym m.2)
    (second_canonical (leaf_reading rows) (leaf_holding rows) (leaf_writing rows) p (written_leaves m.0) hp (rewritten rows p m.0 hp m.1))
content_cut_allowed (Addresses n) p c hp m fit =
    let octets = of_length n (payloads m.0) in
    let each = octets-frames n m.0 (known_of p m.0 hp m.1) in
    let within : length (bytes_of_frames (addresses_from 0 octets)) ≤ 65531 = subst (λ d. length (content_payload d) ≤ 65531) m.2 fit in
    subst (λ d. IsCanonicalContent (Addresses n) (content_payload (content_cut d))) (sym m.2)
    (record { addresses = octets; each = sizes n octets each; complete = complete_addresses 0 octets (omega arith); string = refl })

-- `cut` changes no flag
pub content_cut_flag : (c : Content) → content_flag (content_cut c) ≡ content_flag c
content_cut_flag (Single v) = refl
content_cut_flag c = refl

-- `cut` changes no length
pub length-content_cut : (c : Content) → length (content_payload (content_cut c)) ≡ length (content_payload c)
length-content_cut (Single v) = length-cut v
length-content_cut (Inner flagged vs) = length-leaves_cut vs
length-content_cut (Listed octets) = refl

-- a second `cut` changes nothing
pub content_cut_once : (s : Shape) (p : List ℕ) (c : Content) → IsBytes p → Means s p c → content_cut (content_cut c) ≡ content_cut c
content_cut_once (One k) p c hp m = subst (λ d. content_cut (content_cut d) ≡ content_cut d) (sym m.1) (ap Single (cut_again k p))
content_cut_once (Nested flagged rows) p c hp m =
    let known = are_cut (leaf_reading rows) (leaf_holding rows) (leaf_writing rows) p (written_leaves m.0) hp (rewritten rows p m.0 hp m.1) in
    subst (λ d. content_cut (content_cut d) ≡ content_cut d) (sym m.2) (ap (Inner flagged) known.once)
content_cut_once (Addresses n) p c hp m = subst (λ d. content_cut (content_cut d) ≡ content_cut d) (sym m.2) refl
