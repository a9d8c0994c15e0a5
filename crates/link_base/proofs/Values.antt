-- Values of the classes: decoded values are in range, and values in range can be written and decoded again.
use Rattle.std.proofs.Common.{◌≡◌, ◌⊎◌, ℕ, ℤ, zero, suc, ◌-◌, ◌<◌, ◌≤◌, Bool, true, false, List, [], ◌∷◌, ◌++◌, length, take, drop, reverse, replicate, slice_index, Option, Some, None, Ok, refl, sym, ap, ap₂, subst, ◌∙◌, arith, inl, inr, ⊎_elim, length-append, length-take, length-drop, take_all, IsUtf8}
use Rattle.std.specs.Prelude.{◌==◌, nat_lt, FitsSigned}
use Rattle.std.specs.Int.{w32, cast_signed, cast_unsigned}
use Rattle.std.specs.Str.Lossy.{utf8_lossy}
use Rattle.std.proofs.lemmas.Int.{to_z-of_z}
use Rattle.std.proofs.lemmas.Str.{utf8_lossy-IsUtf8}
use Rattle.std.proofs.lemmas.Bool.{cond-true, cond-false, cond_both, le-ltb}
use Rattle.std.proofs.lemmas.List.{take_at, drop_at}
use borrow.Author.Gap.{read_sfits}
use mir.ValLaws.{of_z_fits}
use mir.Facts.{Fits-lt-pow}
use Rattle.link_base.specs.Number.{IsBytes, number, bytes_of, bound}
use Rattle.link_base.specs.Name.{name_of, name_field, cut_name, HasNoNul, IsNameField, before_nul}
use Rattle.link_base.specs.Class.{Exactly, AtLeast, size_of, length_cause, Class, Unsigned, Signed, Truth, Optional, Octets, Bytes, Headed, Many, Named, Protocol, Low, Empty, Limits, Value, Number, Integer, Boolean, Raw, Name, Unlisted, EtherType, LowByte, Nothing, Limited, extent, is_listed, named, flag_in, flag_value, meant, class_value, written, canon, cut, IsUncut, IsInRange, IsCanonicalPayload}
use Rattle.link_base.proofs.NameLemmas.{name_of-field, cut_is_canonical_lem, cut_once_lem, bytes-text, before_nul-clean}
use Rattle.link_base.proofs.LossyLemmas.{IsUtf8-lossy}
use Rattle.link_base.proofs.Numbers.{number-bytes_of, length-bytes_of, IsBytes-bytes_of}
use Rattle.link_base.proofs.FrameBytes.{bytes-append}
use Rattle.link_base.proofs.ClassLemmas.{exactly, size_reached, at_size, multiple, at_multiple, value_of_accepted, number_in, length-name_field, written-named, canon-named, cut-named}

-- ---- bytes

-- the first n elements of bytes are bytes
pub bytes-take : (n : ℕ) (xs : List ℕ) → IsBytes xs → IsBytes (take n xs)
bytes-take zero xs h = tt
bytes-take (suc n) [] h = tt
bytes-take (suc n) (x ∷ xs) h = (h.0, bytes-take n xs h.1)

-- what follows the first n elements of bytes are bytes
pub bytes-drop : (n : ℕ) (xs : List ℕ) → IsBytes xs → IsBytes (drop n xs)
bytes-drop zero xs h = h
bytes-drop (suc n) [] h = tt
bytes-drop (suc n) (x ∷ xs) h = bytes-drop n xs h.1

-- zeros are bytes
pub bytes-zeros : (n : ℕ) → IsBytes (replicate n 0)
bytes-zeros zero = tt
bytes-zeros (suc n) = (omega arith, bytes-zeros n)

-- the name field of a string consists of bytes
pub bytes-name_field : (text : List ℕ) → IsUtf8 text → IsBytes (name_field text)
bytes-name_field text u = bytes-append (take 15 text) _ (bytes-take 15 text (bytes-text text u)) (bytes-zeros (16 - length (take 15 text)))

-- an item of bytes is a byte
byte_at : (i : ℕ) (xs : List ℕ) → IsBytes xs → slice_index xs i < 256
byte_at i [] h = omega arith
byte_at zero (x ∷ xs) h = h.0
byte_at (suc i) (x ∷ xs) h = byte_at i xs h.1

-- ---- decoded values

-- a flag is in range
pub flag_in_range : (flag : Option Bool) → IsInRange Optional (flag_value flag)
flag_in_range None = tt
flag_in_range (Some b) = tt

-- what an accepted payload means is in range
pub meant_in_range : (c : Class) (p : List ℕ) → IsBytes p → length_cause (extent c) (length p) ≡ None → IsInRange c (meant c p)
meant_in_range (Unsigned n) p h e = (refl, number_in n p h (exactly n (length p) e))
meant_in_range Signed p h e = read_sfits w32 (number p)
meant_in_range Truth p h e = tt
meant_in_range Optional p h e = flag_in_range (flag_in p)
meant_in_range (Octets x) p h e =
    let le = size_reached x (length p) e in
    (omega (arith, length-take (size_of x) p), bytes-take (size_of x) p h)
meant_in_range Bytes p h e = h
meant_in_range (Headed n) p h e = (size_reached (AtLeast n) (length p) e, h)
meant_in_range (Many n) p h e = (multiple n (length p) e, h)
meant_in_range (Named n listed) p h e =
    let d = number p in
    let below = number_in n p h (exactly n (length p) e) in
    cond_both (is_listed listed d) (Name n d) (Unlisted n listed d) (IsInRange (Named n listed)) (λ holds. (refl, below, holds)) (λ fails. (refl, below, refl))
meant_in_range Protocol p h e =
    cond_both (number (reverse p) == 0x88A8) 0x88A8 0x8100 (λ d. (d ≡ 0x8100) ⊎ (d ≡ 0x88A8)) (λ t. inr refl) (λ t. inl refl)
meant_in_range Low p h e = byte_at 0 p h
meant_in_range Empty p h e = tt
meant_in_range Limits p h e =
    let le = size_reached (AtLeast 48) (length p) e in (
      IsUtf8-lossy (before_nul (take 16 p)),
      omega (arith, length-take 32 (drop 16 p), length-drop 16 p),
      bytes-take 32 (drop 16 p) (bytes-drop 16 p h),
    )

-- a flag is its own normal form, and `cut` leaves it unchanged
flag_canon : (flag : Option Bool) → canon (flag_value flag) ≡ flag_value flag
flag_canon None = refl
flag_canon (Some b) = refl

pub flag_cut : (flag : Option Bool) → cut (flag_value flag) ≡ flag_value flag
flag_cut None = refl
flag_cut (Some b) = refl

-- what a payload means is its own normal form
pub meant_canon : (c : Class) (p : List ℕ) → canon (meant c p) ≡ meant c p
meant_canon (Named n listed) p = canon-named n listed (number p)
meant_canon Optional p = flag_canon (flag_in p)
meant_canon c p = refl

-- ---- what is written for a value in range decodes to its normal form, after `cut`

-- n or more bytes are accepted by the extent `AtLeast n`
reached : (n got : ℕ) → n ≤ got → length_cause (AtLeast n) got ≡ None
reached n got le = cond-false (nat_lt got n) _ None (le-ltb got n le)

-- a signed number of four bytes, as an unsigned one, is less than 256 to the power of 4
of_z_below : (z : ℤ) → FitsSigned w32 z → cast_unsigned w32 z < bound 4
of_z_below z h = Fits-lt-pow (of_z_fits w32 z h)

-- an accepted payload with this meaning
reads_as : (c : Class) (p : List ℕ) (v : Value) → length_cause (extent c) (length p) ≡ None → meant c p ≡ v → class_value c p ≡ Ok v
reads_as c p v e is = value_of_accepted c p e ∙ ap Ok is

-- the bytes of a number that may have a name decode to the named value
named_reads : (m n : ℕ) (listed : List ℕ) (d : ℕ) (w : Value) → m ≡ n → d < bound n → named m listed d ≡ w → class_value (Named n listed) (bytes_of m d) ≡ Ok w
named_reads m n listed d w same below is =
    subst (λ k. class_value (Named k listed) (bytes_of m d) ≡ Ok w) same
    (reads_as (Named m listed) (bytes_of m d) w (at_size (Exactly m) _ (length-bytes_of m d))
    (ap (named m listed) (number-bytes_of m d (subst (λ k. d < bound k) (sym same) below)) ∙ is))

-- what is written for a value in range decodes to its normal form, after `cut`
pub back : (c : Class) (v : Value) → IsInRange c v → class_value c (written v) ≡ Ok (cut (canon v))
back (Unsigned n) (Number m x) h =
    subst (λ k. class_value (Unsigned k) (bytes_of m x) ≡ Ok (Number m x)) h.0
    (reads_as (Unsigned m) (bytes_of m x) (Number m x) (at_size (Exactly m) _ (length-bytes_of m x)) (ap (Number m) (number-bytes_of m x (subst (λ k. x < bound k) (sym h.0) h.1))))
back Signed (Integer z) h =
    reads_as Signed (bytes_of 4 (cast_unsigned w32 z)) (Integer z) (at_size (Exactly 4) _ refl)
    (ap (λ x. Integer (cast_signed w32 x)) (number-bytes_of 4 (cast_unsigned w32 z) (of_z_below z h)) ∙ ap Integer (to_z-of_z w32 z h))
back Truth (Boolean true) h = refl
back Truth (Boolean false) h = refl
back Optional Nothing h = refl
back Optional (Boolean true) h = refl
back Optional (Boolean false) h = refl
back (Octets x) (Raw p) h = reads_as (Octets x) p (Raw p) (at_size x (length p) h.0) (ap Raw (take_all (size_of x) p (omega (arith, h.0))))
back Bytes (Raw p) h = reads_as Bytes p (Raw p) (reached 0 (length p) (omega arith)) refl
back (Headed n) (Raw p) h = reads_as (Headed n) p (Raw p) (reached n (length p) h.0) refl
back (Many n) (Raw p) h = reads_as (Many n) p (Raw p) (at_multiple n (length p) h.0) refl
back (Named n listed) (Name m d) h =
    named_reads m n listed d (Name m d) h.0 h.1 (cond-true (is_listed listed d) (Name m d) (Unlisted m listed d) h.2)
back (Named n listed) (Unlisted m names d) h =
    subst (λ l. class_value (Named n l) (bytes_of m d) ≡ Ok (cut (named m names d))) h.2
    (named_reads m n names d (cut (named m names d)) h.0 h.1 (sym (cut-named m names d)))
back Protocol (EtherType d) h = ⊎_elim
    (λ (q : d ≡ 0x8100). subst Same (sym q) refl)
    (λ (ad : d ≡ 0x88A8). subst Same (sym ad) refl)
    h
  where
    -- a written EtherType decodes to itself
    Same : ℕ → Type 0
    Same x = class_value Protocol (written (EtherType x)) ≡ Ok (EtherType x)
back Low (LowByte b) h = refl
back Empty Nothing h = refl
back Limits (Limited name rest) h =
    let f = name_field name in
    let len = length-name_field name in
    reads_as Limits (f ++ rest) (Limited (cut_name name) rest) (at_size (AtLeast 48) _ (omega (arith, h.1, length-append f rest)))
    (ap₂ Limited (ap name_of (take_at f rest 16 len) ∙ name_of-field name)
    (ap (take 32) (drop_at f rest 16 len) ∙ take_all 32 rest (omega (arith, h.1))))
back c v h = absurd h

-- ---- what is written

-- what is written for a value in range consists of bytes
pub written_bytes : (c : Class) (v : Value) → IsInRange c v → IsBytes (written v)
written_bytes (Unsigned n) (Number m x) h = IsBytes-bytes_of m x
written_bytes Signed (Integer z) h = IsBytes-bytes_of 4 (cast_unsigned w32 z)
written_bytes Truth (Boolean true) h = (omega arith, tt)
written_bytes Truth (Boolean false) h = (omega arith, tt)
written_bytes Optional Nothing h = tt
written_bytes Optional (Boolean true) h = (omega arith, tt)
written_bytes Optional (Boolean false) h = (omega arith, tt)
written_bytes (Octets x) (Raw p) h = h.1
written_bytes Bytes (Raw p) h = h
written_bytes (Headed n) (Raw p) h = h.1
written_bytes (Many n) (Raw p) h = h.1
written_bytes (Named n listed) (Name m d) h = IsBytes-bytes_of m d
written_bytes (Named n listed) (Unlisted m names d) h = IsBytes-bytes_of m d
written_bytes Protocol (EtherType d) h = (omega arith, (omega arith, tt))
written_bytes Low (LowByte b) h = (h, (omega arith, tt))
written_bytes Empty Nothing h = tt
written_bytes Limits (Limited name rest) h = bytes-append (name_field name) rest (bytes-name_field name h.0) h.2
written_bytes c v h = absurd h

-- a name that is written without truncation decodes to itself
cut_uncut : (name : List ℕ) → IsUtf8 name → HasNoNul name → length name ≤ 15 → cut_name name ≡ name
cut_uncut name u clean short = ap cut_of (take_all 15 name short) ∙ ap utf8_lossy (before_nul-clean name clean) ∙ utf8_lossy-IsUtf8 name u
  where
    -- the string that bytes decode to
    cut_of : List ℕ → List ℕ
    cut_of t = utf8_lossy (before_nul t)

-- `cut` leaves an uncut value and its normal form unchanged
pub uncut_stays : (c : Class) (v : Value) → IsInRange c v → IsUncut v → (cut v ≡ v) × (cut (canon v) ≡ canon v)
uncut_stays Limits (Limited name rest) h k =
    let same : cut_name name ≡ name = cut_uncut name h.0 k.0 k.1 in
    (ap (λ t. Limited t rest) same, ap (λ t. Limited t rest) same)
uncut_stays c (Limited name rest) h k = absurd h
uncut_stays c (Unlisted n listed d) h k = (refl, cut-named n listed d)
uncut_stays c v h k = (refl, refl)

-- ---- what is written for a decoded value, after `cut`

-- what is written for a flag is canonical
flag_canonical : (flag : Option Bool) → IsCanonicalPayload Optional (written (cut (flag_value flag)))
flag_canonical None = record { is_accepted = refl; is_tidy = inl refl }
flag_canonical (Some true) = record { is_accepted = refl; is_tidy = inr (inr refl) }
flag_canonical (Some false) = record { is_accepted = refl; is_tidy = inr (inl refl) }

-- what is written for a decoded value after `cut` is canonical
pub cut_canonical : (c : Class) (p : List ℕ) → IsBytes p → length_cause (extent c) (length p) ≡ None → IsCanonicalPayload c (written (cut (meant c p)))
cut_canonical (Unsigned n) p h e = record { is_accepted = at_size (Exactly n) _ (length-bytes_of n (number p)); is_tidy = tt }
cut_canonical Signed p h e = record { is_accepted = refl; is_tidy = tt }
cut_canonical Truth p h e =
    cond_both (nat_lt 0 (number p)) 1 0 (λ b. IsCanonicalPayload Truth (b ∷ [])) (λ t. record { is_accepted = refl; is_tidy = inr refl })
    (λ t. record { is_accepted = refl; is_tidy = inl refl })
cut_canonical Optional p h e = flag_canonical (flag_in p)
cut_canonical (Octets x) p h e =
    let le = size_reached x (length p) e in
    let len : length (take (size_of x) p) ≡ size_of x = omega (arith, length-take (size_of x) p) in
    record { is_accepted = at_size x _ len; is_tidy = len }
cut_canonical Bytes p h e = record { is_accepted = reached 0 (length p) (omega arith); is_tidy = tt }
cut_canonical (Headed n) p h e = record { is_accepted = e; is_tidy = tt }
cut_canonical (Many n) p h e = record { is_accepted = e; is_tidy = tt }
cut_canonical (Named n listed) p h e =
    let is : written (cut (named n listed (number p))) ≡ bytes_of n (number p) = ap written (cut-named n listed (number p)) ∙ written-named n listed (number p) in
    record { is_accepted = at_size (Exactly n) _ (ap length is ∙ length-bytes_of n (number p)); is_tidy = tt }
cut_canonical Protocol p h e =
    cond_both (number (reverse p) == 0x88A8) 0x88A8 0x8100 (λ d. IsCanonicalPayload Protocol (reverse (bytes_of 2 d)))
    (λ t. record { is_accepted = refl; is_tidy = inr refl }) (λ t. record { is_accepted = refl; is_tidy = inl refl })
cut_canonical Low p h e = record { is_accepted = refl; is_tidy = refl }
cut_canonical Empty p h e = record { is_accepted = refl; is_tidy = refl }
cut_canonical Limits p h e =
    let le = size_reached (AtLeast 48) (length p) e in
    let name = name_of (take 16 p) in
    let f = name_field (cut_name name) in
    let rest = take 32 (drop 16 p) in
    let len = length-name_field (cut_name name) in
    let total : length (f ++ rest) ≡ 48 = omega (arith, length-append f rest, length-take 32 (drop 16 p), length-drop 16 p) in
    record {
      is_accepted = at_size (AtLeast 48) _ total;
      is_tidy = (total, subst IsNameField (sym (take_at f rest 16 len)) (cut_is_canonical_lem name (IsUtf8-lossy (before_nul (take 16 p)))));
    }

-- a second `cut` leaves a decoded value unchanged
pub cut_again : (c : Class) (p : List ℕ) → cut (cut (meant c p)) ≡ cut (meant c p)
cut_again Optional p = ap cut (flag_cut (flag_in p))
cut_again (Named n listed) p = ap cut (cut-named n listed (number p))
cut_again Limits p = ap (λ t. Limited t (take 32 (drop 16 p))) (cut_once_lem (name_of (take 16 p)) (IsUtf8-lossy (before_nul (take 16 p))))
cut_again c p = refl

-- `cut` changes no length
pub length-cut : (v : Value) → length (written (cut v)) ≡ length (written v)
length-cut (Limited name rest) =
    omega (arith, length-append (name_field (cut_name name)) rest, length-append (name_field name) rest, length-name_field name, length-name_field (cut_name name))
length-cut v = refl
