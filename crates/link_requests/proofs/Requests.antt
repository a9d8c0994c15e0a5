-- A request, from what its values encode to.
use borrow.Rule.Slice.PartMut.{put_mid}
use Rattle.std.proofs.Common.{◌≡◌, ◌≢◌, ℕ, ◌+◌, ◌-◌, ◌<◌, ◌≤◌, ◌^◌, Bool, true, false, List, ◌++◌, length, take, drop, Option, Some, None, Result, Ok, Err, cond, bit_or, refl, sym, ap, ap₂, subst, ◌∙◌, arith, length-append}
use Rattle.std.specs.Prelude.{nat_lt}
use Rattle.std.proofs.lemmas.Bool.{lt-ltb, le-ltb, ltb-true, eq-eqb, ne_eqb}
use Rattle.std.proofs.lemmas.List.{append-nil, take_at}
use Rattle.link_base.specs.Number.{bytes_of}
use Rattle.link_base.specs.Answers.{capped}
use Rattle.link_messages.specs.Message.{packet_bytes}
use Rattle.link_entries.specs.declared.entry.Entry.{Entry}
use Rattle.link_entries.specs.declared.misfit.Misfit.{Misfit}
use Rattle.link_entries.specs.declared.misfit.Misfit.TheVariants.{Repeated}
use Rattle.link_entries.specs.declared.misfit.MisfitAt.{MisfitAt}
use Rattle.link_entries.specs.Encoded.{Encoding}
use Rattle.link_entries.specs.Stored.{StoresAt, StoresBytes, Encodes}
use Rattle.link_entries.proofs.StoredBytes.{stored_then, stored_part, encodes_ok, encodes_err}
use Rattle.link_requests.specs.declared.head.Head.{Head}
use Rattle.link_requests.specs.declared.misfit.RequestError.{RequestError}
use Rattle.link_requests.specs.declared.misfit.RequestError.TheVariants.{Value, TooLarge}
use Rattle.link_requests.specs.Request.{head_error, link_head, packet_with, attributes_of, up_to, fitting, checked, request_of, sized, Stores}

-- ---- the attributes

-- the next value repeats a list
pub encodes_repeated : (n m k : ℕ) (t : Encoding) (old new : List ℕ) → n < m → Encodes t old new (Ok k) → Encodes (up_to n m t) old new (Err (record { index = n; misfit = Repeated }))
encodes_repeated n m k (Ok s) old new more h =
    let differ : n ≢ m = λ same. absurd (omega (arith, same, more)) in
    let is : up_to n m (Ok s) ≡ Err (n, Repeated) = ap (λ b. cond {A = Encoding} b (Ok s) (Err (n, Repeated))) (ne_eqb n m differ) in
    subst (λ u. Encodes u old new (Err (record { index = n; misfit = Repeated }))) (sym is) (refl, h.1.same)
encodes_repeated n m k (Err e) old new more h = absurd cc

-- there is no further value
pub encodes_up_to : (n m k : ℕ) (t : Encoding) (old new : List ℕ) → n ≡ m → Encodes t old new (Ok k) → Encodes (up_to n m t) old new (Ok k)
encodes_up_to n m k (Ok s) old new all h = subst (λ u. Encodes u old new (Ok k)) (sym (ap (λ b. cond {A = Encoding} b (Ok s) (Err (n, Repeated))) (eq-eqb n m all))) h
encodes_up_to n m k (Err e) old new all h = absurd cc

-- a value before it cannot be written
pub encodes_before : (n m : ℕ) (first : MisfitAt) (t : Encoding) (old new : List ℕ) → Encodes t old new (Err first) → Encodes (up_to n m t) old new (Err first)
encodes_before n m first (Ok s) old new h = absurd cc
encodes_before n m first (Err e) old new h = h

-- ---- the message

-- the bytes of `struct nlmsghdr` in a message of n bytes
abbrev pub message_head : Head → ℕ → List ℕ
message_head head n = bytes_of 4 n ++ (bytes_of 2 head.kind ++ (bytes_of 2 (bit_or head.flags 1) ++ (bytes_of 4 head.sequence ++ bytes_of 4 head.port)))

module _ (head : Head) (s : List ℕ) where
  pub message_length : 16 + length (link_head head ++ s) ≡ 32 + length s
  message_length = let sixteen : length (link_head head) ≡ 16 = refl in omega (arith, length-append (link_head head) s, sixteen)

  pub message_same : (n : ℕ) → n ≡ 32 + length s → (message_head head n ++ link_head head) ++ s ≡ packet_bytes (packet_with head s)
  message_same n is = ap₂ (λ k t. (message_head head k ++ link_head head) ++ t) (is ∙ sym message_length) (sym (append-nil s))

  pub packet_length : length (packet_bytes (packet_with head s)) ≡ 32 + length s
  packet_length =
      let sixteen : length (message_head head 0) ≡ 16 = refl in
      let other : length (link_head head) ≡ 16 = refl in
      let same : length (packet_bytes (packet_with head s)) ≡ length ((message_head head (32 + length s) ++ link_head head) ++ s) = ap length (sym (message_same (32 + length s) refl)) in
      let whole : length (message_head head (32 + length s)) ≡ 16 = refl in
      omega (arith, same, whole, other, length-append (message_head head (32 + length s) ++ link_head head) s, length-append (message_head head (32 + length s)) (link_head head))

-- ---- the request

module _ (head : Head) (octets : List ℕ) (es : List Entry) where
  abbrev encoding : Encoding
  encoding = attributes_of head octets es

  pub request_by : (s : Encoding) → head_error head ≡ None → encoding ≡ s → request_of head octets es ≡ fitting head s
  request_by s none is = ap₂ (λ o t. checked o (fitting head t)) none is

  -- its length
  pub measured_fits : (s : List ℕ) (n : ℕ) → head_error head ≡ None → encoding ≡ Ok s → n ≡ capped (length s) → n ≤ 4294967263 → Ok (32 + n) ≡ sized (request_of head octets es)
  measured_fits s n none is count low =
      let small : 32 + length s < 2 ^ 32 = omega (arith, count, low) in
      let fits = ap (λ b. cond b (Ok (packet_bytes (packet_with head s))) (Err TooLarge)) (lt-ltb (32 + length s) (2 ^ 32) small) in
      let same : 32 + n ≡ length (packet_bytes (packet_with head s)) = omega (arith, count, low, packet_length head s) in
      ap Ok same ∙ ap sized (sym (request_by (Ok s) none is ∙ fits))

  pub measured_large : (s : List ℕ) (n : ℕ) → head_error head ≡ None → encoding ≡ Ok s → n ≡ capped (length s) → 4294967263 < n → Err TooLarge ≡ sized (request_of head octets es)
  measured_large s n none is count high =
      let large : 2 ^ 32 ≤ 32 + length s = omega (arith, count, high) in
      let fits = ap (λ b. cond b (Ok (packet_bytes (packet_with head s))) (Err TooLarge)) (le-ltb (32 + length s) (2 ^ 32) large) in
      ap sized (sym (request_by (Ok s) none is ∙ fits))

  pub measured_bad : (first : MisfitAt) → head_error head ≡ None → encoding ≡ Err (first.index, first.misfit) → Err (Value first) ≡ sized (request_of head octets es)
  measured_bad first none is = ap sized (sym (request_by (Err (first.index, first.misfit)) none is))

  -- what a length says of it
  pub record IsWritten (n : ℕ) : Type 0 where
    pub head_taken : head_error head ≡ None
    pub attributes : List ℕ
    pub encoded : encoding ≡ Ok attributes
    pub short : 32 + length attributes < 2 ^ 32
    pub size : n ≡ 32 + length attributes
    pub is : request_of head octets es ≡ Ok (packet_bytes (packet_with head attributes))

  by_fit : (n : ℕ) (s : List ℕ) → head_error head ≡ None → encoding ≡ Ok s → (b : Bool) → nat_lt (32 + length s) (2 ^ 32) ≡ b → request_of head octets es ≡ cond b (Ok (packet_bytes (packet_with head s))) (Err TooLarge) → Ok n ≡ sized (request_of head octets es) → IsWritten n
  by_fit n s taken is true small request h =
      let one : Ok n ≡ Ok (length (packet_bytes (packet_with head s))) = h ∙ ap sized request in
      let same : n ≡ length (packet_bytes (packet_with head s)) = cc in
      record { head_taken = taken; attributes = s; encoded = is; short = ltb-true (32 + length s) (2 ^ 32) small; size = same ∙ packet_length head s; is = request }
  by_fit n s taken is false small request h = let one : Ok n ≡ Err TooLarge = h ∙ ap sized request in absurd cc

  by_encoding : (n : ℕ) (s : Encoding) → encoding ≡ s → head_error head ≡ None → Ok n ≡ sized (request_of head octets es) → IsWritten n
  by_encoding n (Ok s) is none h = by_fit n s none is (nat_lt (32 + length s) (2 ^ 32)) refl (request_by (Ok s) none is) h
  by_encoding n (Err e) is none h = let one : Ok n ≡ sized (fitting head (Err e)) = h ∙ ap sized (request_by (Err e) none is) in absurd cc

  by_head : (n : ℕ) (o : Option RequestError) → head_error head ≡ o → Ok n ≡ sized (request_of head octets es) → IsWritten n
  by_head n None is h = by_encoding n encoding refl is h
  by_head n (Some error) is h = let one : Ok n ≡ Err error = h ∙ ap (λ o. sized (checked o (fitting head encoding))) is in absurd cc

  pub is_written : (n : ℕ) → Ok n ≡ sized (request_of head octets es) → IsWritten n
  is_written n h = by_head n (head_error head) refl h

  -- its attributes are at the start of a buffer in which they were stored, if there was room
  pub in_front : (n : ℕ) (old new : List ℕ) → IsWritten n → StoresBytes encoding old new → n - 32 ≤ length new → encoding ≡ Ok (take (n - 32) new)
  in_front n old new w put within =
      let s = w.attributes in
      let size : length s ≡ n - 32 = omega (arith, w.size) in
      let stored : StoresAt 0 s old new = subst (λ r. StoresBytes {E = ℕ × Misfit} r old new) w.encoded put in
      let is = stored.stored (omega (arith, size, within, stored.same)) in
      w.encoded ∙ ap Ok (sym (ap (take (n - 32)) is ∙ take_at s (drop (0 + length s) old) (n - 32) size))

  -- it was stored
  pub stored_request : (n : ℕ) (out one two sub new : List ℕ) → IsWritten n → n ≤ length out → StoresAt 0 (message_head head n) out one → StoresAt 16 (link_head head) one two
      → (m : ℕ) → Encodes encoding (take (length two - 32) (drop 32 two)) sub (Ok m) → new ≡ put_mid 32 (length two - 32) two sub → Stores (request_of head octets es) out new (Ok (Some n))
  stored_request n out one two sub new w room a b m put is =
      let s = w.attributes in
      let heads = stored_then 0 (message_head head n) (link_head head) out one two a b in
      let (t, same, count, placed) = encodes_ok encoding (take (length two - 32) (drop 32 two)) sub m put in
      let equal : t ≡ s = let both : Ok t ≡ Ok s = sym same ∙ w.encoded in cc in
      let sixteen : length (message_head head n) ≡ 16 = refl in
      let other : length (link_head head) ≡ 16 = refl in
      let long : 32 ≤ length two = omega (arith, w.size, room, heads.same) in
      let part = stored_part 32 32 s two sub new (omega (arith, long)) (subst (λ u. StoresAt 0 u (take (length two - 32) (drop 32 two)) sub) equal placed) is in
      let all = stored_then 0 (message_head head n ++ link_head head) s out two new heads part in
      let text = packet_bytes (packet_with head s) in
      let size = packet_length head s in
      let front : 0 + length text ≡ length text = omega arith in
      let whole = subst (λ u. StoresAt 0 u out new) (message_same head s n w.size) all in
      subst (λ r. Stores r out new (Ok (Some n))) (sym w.is) (w.size ∙ sym size, omega (arith, w.size, size, room), whole.stored (omega (arith, w.size, size, room)) ∙ ap (λ k. text ++ drop k out) front)

  -- it was not stored: the buffer is too small
  pub no_room : (n : ℕ) (out : List ℕ) → IsWritten n → length out < n → Stores (request_of head octets es) out out (Ok None)
  no_room n out w small = subst (λ r. Stores r out out (Ok None)) (sym w.is) (omega (arith, small, w.size, packet_length head w.attributes), refl)

  different : (s : List ℕ) (e : ℕ × Misfit) → Ok s ≡ Err e → ⊥
  different s e wrong = absurd cc

  -- an error that there is not
  pub no_error : (n : ℕ) (x y : List ℕ) (first : MisfitAt) → {P : Type 0} → IsWritten n → Encodes encoding x y (Err first) → P
  no_error n x y first w h = absurd (different w.attributes (first.index, first.misfit) (sym w.encoded ∙ (encodes_err encoding x y first h).0))

-- a request that cannot be written
pub not_written : (r : Result (List ℕ) RequestError) (error : RequestError) (out : List ℕ) → Err error ≡ sized r → Stores r out out (Err error)
not_written (Ok s) error out h = absurd cc
not_written (Err e) error out h = (cc, refl)
