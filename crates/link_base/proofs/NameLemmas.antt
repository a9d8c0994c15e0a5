-- The name field: decoded, written and decoded again.
use Rattle.std.specs.Char.{encode_utf8}
use Rattle.std.proofs.Common.{◌≡◌, ◌⊎◌, ◌↔◌, ℕ, zero, suc, ◌+◌, ◌-◌, ◌<◌, ◌≤◌, true, false, cond, List, [], ◌∷◌, ◌++◌, length, take, drop, get_or, replicate, IsUtf8, encode_utf8_all, refl, sym, ap, subst, ◌∙◌, arith, inl, inr, ⊎_elim, append_assoc, length-append, length-take, take_all, take-append-drop}
use Rattle.std.specs.Prelude.{◌==◌}
use Rattle.std.proofs.lemmas.Bool.{cases_Bool, cases_lt, cond-true, cond-false, cond_both, ne_eqb, eqb-true, eqb-false, ltb-true, and_parts}
use Rattle.std.proofs.lemmas.List.{get_or_at, take_at, take-append-le}
use Rattle.std.proofs.lemmas.Str.{utf8_lossy-IsUtf8, utf8_lossy_step, IsUtf8-append, IsUtf8-nil, IsUtf8-encode, IsUtf8-take, IsCharBoundary-before_ascii}
use Rattle.std.specs.Str.{IsValidUpTo, is_utf8, chars}
use Rattle.std.specs.Str.Lossy.{utf8_valid_len, utf8_error_len, after_first_chunk, utf8_lossy, utf8_lossy_within, replacement_bytes}
use Rattle.link_base.specs.Number.{IsBytes}
use lib.Utf8.{scalar, scalars, scalar_cases}
use Rattle.std.specs.Prelude.{nat_lt}
use Rattle.std.proofs.lemmas.Str.{len_utf8_bounds, length-encode}
use Rattle.link_base.proofs.LossyLemmas.{take-past, utf8_valid_len-cases, utf8_lossy-front, lossy-partial, IsUtf8-replacement}
use Rattle.link_base.proofs.FrameBytes.{bytes-append}
use Rattle.link_base.specs.Name.{before_nul, name_of, zero_filled, name_field, cut_name, HasNoNul, IsCutText, IsNameField}

-- ---- bytes without NUL

-- the concatenation of two lists without NUL has no NUL
clean-append : (xs ys : List ℕ) → HasNoNul xs → HasNoNul ys → HasNoNul (xs ++ ys)
clean-append [] ys h k = k
clean-append (x ∷ xs) ys h k = (h.0, clean-append xs ys h.1 k)

-- the first n bytes of a list without NUL have no NUL
clean-take : (n : ℕ) (xs : List ℕ) → HasNoNul xs → HasNoNul (take n xs)
clean-take zero xs h = tt
clean-take (suc n) [] h = tt
clean-take (suc n) (x ∷ xs) h = (h.0, clean-take n xs h.1)

-- what follows the first n bytes of a list without NUL has no NUL
clean-drop : (n : ℕ) (xs : List ℕ) → HasNoNul xs → HasNoNul (drop n xs)
clean-drop zero xs h = h
clean-drop (suc n) [] h = tt
clean-drop (suc n) (x ∷ xs) h = clean-drop n xs h.1

-- U+FFFD has no NUL
clean-replacement : HasNoNul replacement_bytes
clean-replacement = (omega arith, (omega arith, (omega arith, tt)))

-- the result of `utf8_lossy` has no NUL if the bytes have none, by their length
clean-within : (k : ℕ) (xs : List ℕ) → HasNoNul xs → HasNoNul (utf8_lossy_within k xs)
clean-within zero xs h = h
clean-within (suc k) xs h =
    cond_both (utf8_valid_len xs == length xs) xs _ HasNoNul (λ e. h)
    (λ e. clean-append (take (utf8_valid_len xs) xs) _ (clean-take (utf8_valid_len xs) xs h)
    (clean-append replacement_bytes _ clean-replacement (clean-within k (after_first_chunk xs) (clean-drop _ xs h))))

-- the result of `utf8_lossy` has a NUL only if the bytes have one
pub clean-lossy : (xs : List ℕ) → HasNoNul xs → HasNoNul (utf8_lossy xs)
unfolding utf8_lossy
clean-lossy xs h = clean-within (length xs) xs h

-- a byte that is not 0 is greater
pos_from_test : (x : ℕ) → (x == 0) ≡ false → 0 < x
pos_from_test x fails = let nonzero = eqb-false x 0 fails in omega arith

-- there is no NUL before the first NUL
pub clean-before_nul : (xs : List ℕ) → HasNoNul (before_nul xs)
clean-before_nul [] = tt
clean-before_nul (x ∷ xs) =
    let rest = clean-before_nul xs in
    ⊎_elim
    (λ holds. subst HasNoNul (sym (cond-true (x == 0) [] (x ∷ before_nul xs) holds)) tt)
    (λ fails. subst HasNoNul (sym (cond-false (x == 0) [] (x ∷ before_nul xs) fails)) (pos_from_test x fails, rest))
    (cases_Bool (x == 0))

-- without NUL, all bytes are before it
pub before_nul-clean : (xs : List ℕ) → HasNoNul xs → before_nul xs ≡ xs
before_nul-clean [] h = refl
before_nul-clean (x ∷ xs) h =
    cond-false (x == 0) [] (x ∷ before_nul xs) (ne_eqb x 0 (λ e. omega (arith, h.0))) ∙ ap (λ t. x ∷ t) (before_nul-clean xs h.1)

-- the bytes before the first NUL are no longer than all bytes
length-before_nul : (xs : List ℕ) → length (before_nul xs) ≤ length xs
length-before_nul [] = omega arith
length-before_nul (x ∷ xs) =
    let rest = length-before_nul xs in
    cond_both (x == 0) [] (x ∷ before_nul xs) (λ t. length t ≤ suc (length xs)) (λ e. omega arith) (λ e. omega arith)

-- zeros at the end change nothing before the first NUL
pub before_nul-zeros : (xs : List ℕ) (n : ℕ) → before_nul (xs ++ replicate n 0) ≡ before_nul xs
before_nul-zeros [] zero = refl
before_nul-zeros [] (suc n) = refl
before_nul-zeros (x ∷ xs) n = ap (λ t. cond (x == 0) [] (x ∷ t)) (before_nul-zeros xs n)

-- the field that is written for a string decodes to its cut name
pub name_of-field : (text : List ℕ) → name_of (name_field text) ≡ cut_name text
name_of-field text = ap utf8_lossy (before_nul-zeros (take 15 text) (16 - length (take 15 text)))

-- ---- a field that is unchanged is canonical

module _ (y Z : List ℕ) (n : ℕ) (valid : IsValidUpTo y n) where
  -- UTF-8 followed by the start of U+FFFD is a truncated string (`IsCutText`)
  fixed_end : (m : ℕ) → n + m ≡ 15 → y ≡ take n y ++ take m (replacement_bytes ++ Z) → IsCutText y
  fixed_end zero sum is =
      let short = valid.short in
      absurd (omega (arith, ap length is, length-append (take n y) [], length-take n y))
  fixed_end (suc zero) sum is =
      let short = valid.short in
      inr (omega (arith, ap length is, length-append (take n y) (0xEF ∷ []), length-take n y), take n y, valid.front, inl is)
  fixed_end (suc (suc zero)) sum is =
      let short = valid.short in
      inr (omega (arith, ap length is, length-append (take n y) (0xEF ∷ 0xBF ∷ []), length-take n y), take n y, valid.front, inr is)
  fixed_end (suc (suc (suc m))) sum is =
      let short = valid.short in
      let longer : take (n + 3) y ≡ take n y ++ replacement_bytes =
      ap (take (n + 3)) is ∙ take-past (take n y) (replacement_bytes ++ take m Z) (n + 3) 3 (omega (arith, length-take n y)) in
      absurd (valid.longest (n + 3) (omega arith) (subst IsUtf8 (sym longer) (IsUtf8-append _ _ valid.front IsUtf8-replacement)))

-- bytes that are unchanged when they are decoded and truncated are a truncated string
pub IsCutText-fixed : (y : List ℕ) → length y ≤ 15 → y ≡ take 15 (utf8_lossy y) → IsCutText y
IsCutText-fixed y le is = ⊎_elim (λ u. inl u)
    (λ valid.
    let n = utf8_valid_len y in
    let Z = utf8_lossy (after_first_chunk y) in
    let short = valid.short in
    let step = utf8_lossy_step y (λ e. omega arith) in
    fixed_end y Z n valid (15 - n) (omega arith)
    (is ∙ ap (take 15) step ∙ take-past (take n y) (replacement_bytes ++ Z) 15 (15 - n) (omega (arith, length-take n y))))
    (utf8_valid_len-cases y)

-- a field that is unchanged when it is decoded and written is canonical
pub IsNameField-fixed : (field : List ℕ) → name_field (name_of field) ≡ field → IsNameField field
IsNameField-fixed field is =
    let x = before_nul field in
    let text = utf8_lossy x in
    let y = take 15 text in
    let clean : HasNoNul y = clean-take 15 text (clean-lossy x (clean-before_nul field)) in
    let same : x ≡ y = ap before_nul (sym is) ∙ before_nul-zeros y (16 - length y) ∙ before_nul-clean y clean in
    let short : length y ≤ 15 = omega (arith, length-take 15 text) in
    (y, sym is, short, clean, IsCutText-fixed y short (ap (λ t. take 15 (utf8_lossy t)) same))

-- ---- a canonical field is unchanged

-- the first byte of U+FFFD decodes to U+FFFD
lossy-one : utf8_lossy (0xEF ∷ []) ≡ replacement_bytes
unfolding utf8_lossy utf8_valid_len utf8_error_len is_utf8 chars encode_utf8
lossy-one = refl

-- the first two bytes of U+FFFD decode to U+FFFD
lossy-two : utf8_lossy (0xEF ∷ 0xBF ∷ []) ≡ replacement_bytes
unfolding utf8_lossy utf8_valid_len utf8_error_len is_utf8 chars encode_utf8
lossy-two = refl

-- a truncated string is unchanged when it is decoded and truncated to 15 bytes
pub cut_text-stays : (y : List ℕ) → length y ≤ 15 → IsCutText y → take 15 (utf8_lossy y) ≡ y
cut_text-stays y le (inl u) = ap (take 15) (utf8_lossy-IsUtf8 y u) ∙ take_all 15 y le
cut_text-stays y le (inr h) = ⊎_elim
    (λ one.
    ap (λ t. take 15 (utf8_lossy t)) one ∙ ap (take 15) (utf8_lossy-front h.1 (0xEF ∷ []) h.2 ∙ ap (λ t. h.1 ++ t) lossy-one)
    ∙ take-past h.1 replacement_bytes 15 1 (omega (arith, h.0, ap length one, length-append h.1 (0xEF ∷ []))) ∙ sym one)
    (λ two.
    ap (λ t. take 15 (utf8_lossy t)) two ∙ ap (take 15) (utf8_lossy-front h.1 (0xEF ∷ 0xBF ∷ []) h.2 ∙ ap (λ t. h.1 ++ t) lossy-two)
    ∙ take-past h.1 replacement_bytes 15 2 (omega (arith, h.0, ap length two, length-append h.1 (0xEF ∷ 0xBF ∷ []))) ∙ sym two)
    h.3

-- a canonical field is unchanged when it is decoded and written
pub fixed-IsNameField : (field : List ℕ) → IsNameField field → name_field (name_of field) ≡ field
fixed-IsNameField field h =
    let bytes = h.0 in
    let read : before_nul field ≡ bytes = ap before_nul h.1 ∙ before_nul-zeros bytes (16 - length bytes) ∙ before_nul-clean bytes h.3 in
    ap (λ t. zero_filled (take 15 (utf8_lossy t))) read ∙ ap zero_filled (cut_text-stays bytes h.2 h.4) ∙ sym h.1

-- a field is unchanged when it is decoded and written if and only if it is canonical
pub fixed_iff : (field : List ℕ) → (name_field (name_of field) ≡ field) ↔ IsNameField field
fixed_iff field = (IsNameField-fixed field, fixed-IsNameField field)

-- ---- a string that is truncated inside a character

-- the first 0 elements of a list are none
take_none : (k : ℕ) (xs : List ℕ) → k ≡ 0 → take k xs ≡ []
take_none k xs e = ap (λ n. take n xs) e

-- UTF-8, then one to three bytes that decode to one U+FFFD
pub record IsBroken (bytes : List ℕ) : Type 0 where
  pub text : List ℕ
  pub rest : List ℕ
  pub parts : bytes ≡ text ++ rest
  pub utf8 : IsUtf8 text
  pub some : 0 < length rest
  pub few : length rest ≤ 3
  pub lossy : utf8_lossy rest ≡ replacement_bytes

-- the first k bytes of characters are UTF-8, or UTF-8 and part of a character
front_of_chars : (cs : List ℕ) → scalars cs ≡ true → (k : ℕ) → k ≤ length (encode_utf8_all cs) → IsUtf8 (take k (encode_utf8_all cs)) ⊎ IsBroken (take k (encode_utf8_all cs))
front_of_chars [] all k le = inl (subst IsUtf8 (sym (take_all k [] (omega arith))) IsUtf8-nil)
front_of_chars (c ∷ cs) all k le =
    let both = and_parts _ _ all in
    let first = encode_utf8 c in
    let others = encode_utf8_all cs in
    let four = (len_utf8_bounds c).1 in
    let width = length-encode c in
    ⊎_elim
    (λ (inside : k < length first).
    let is : take k (first ++ others) ≡ take k first = take-append-le k first others (omega arith) in
    ⊎_elim
    (λ (none : k < 1).
    inl (subst IsUtf8 (sym (is ∙ take_none k first (omega arith))) IsUtf8-nil))
    (λ (some : 1 ≤ k).
    inr (record {
      text = [];
      rest = take k first;
      parts = is;
      utf8 = IsUtf8-nil;
      some = omega (arith, length-take k first);
      few = omega (arith, length-take k first);
      lossy = lossy-partial c k both.0 some inside;
    }))
    (cases_lt k 1))
    (λ (past : length first ≤ k).
    let m = k - length first in
    let is : take k (first ++ others) ≡ first ++ take m others = take-past first others k m (omega arith) in
    let one = IsUtf8-encode c both.0 in
    ⊎_elim
    (λ u. inl (subst IsUtf8 (sym is) (IsUtf8-append first (take m others) one u)))
    (λ (broken : IsBroken (take m others)). inr (record {
      text = first ++ broken.text;
      rest = broken.rest;
      parts = is ∙ ap (λ t. first ++ t) broken.parts ∙ sym (append_assoc first broken.text broken.rest);
      utf8 = IsUtf8-append first broken.text one broken.utf8;
      some = broken.some;
      few = broken.few;
      lossy = broken.lossy;
    }))
    (front_of_chars cs both.1 m (omega (arith, length-append first others))))
    (cases_lt k (length first))

-- ---- cut names

-- all bytes are before the first NUL, or a NUL follows
before_nul-split : (xs : List ℕ) → (before_nul xs ≡ xs) ⊎ ((rest : List ℕ) × (xs ≡ before_nul xs ++ 0 ∷ rest))
before_nul-split [] = inl refl
before_nul-split (x ∷ xs) =
    ⊎_elim
    (λ holds.
    let is : before_nul (x ∷ xs) ≡ [] = cond-true (x == 0) [] (x ∷ before_nul xs) holds in
    let nul = eqb-true x 0 holds in
    inr (xs, ap (λ n. n ∷ xs) nul ∙ ap (λ t. t ++ 0 ∷ xs) (sym is)))
    (λ fails.
    let is : before_nul (x ∷ xs) ≡ x ∷ before_nul xs = cond-false (x == 0) [] (x ∷ before_nul xs) fails in
    ⊎_elim
    (λ all. inl (is ∙ ap (λ t. x ∷ t) all))
    (λ part. inr (part.0, ap (λ t. x ∷ t) part.1 ∙ ap (λ t. t ++ 0 ∷ part.0) (sym is)))
    (before_nul-split xs))
    (cases_Bool (x == 0))

-- what precedes a NUL in a string is UTF-8
before_nul-IsUtf8 : (text front back rest : List ℕ) → IsUtf8 text → text ≡ (front ++ 0 ∷ rest) ++ back → IsUtf8 front
before_nul-IsUtf8 text front back rest u is =
    let whole : text ≡ front ++ 0 ∷ (rest ++ back) = is ∙ append_assoc front (0 ∷ rest) back in
    let i = length front in
    let there : get_or text i 0 ≡ 0 = ap (λ t. get_or t i 0) whole ∙ get_or_at front 0 (rest ++ back) 0 i refl in
    let within : i < length text = omega (arith, ap length whole, length-append front (0 ∷ (rest ++ back))) in
    subst IsUtf8 (ap (take i) whole ∙ take_at front (0 ∷ (rest ++ back)) i refl)
    (IsUtf8-take text i u (IsCharBoundary-before_ascii text i within (omega arith)))

-- the first k bytes of a string are UTF-8, or UTF-8 and part of a character
front_of_text : (text : List ℕ) (k : ℕ) → IsUtf8 text → k ≤ length text → IsUtf8 (take k text) ⊎ IsBroken (take k text)
front_of_text text k u le =
    subst (λ t. IsUtf8 (take k t) ⊎ IsBroken (take k t)) u.1.1
    (front_of_chars u.0 u.1.0 k (omega (arith, ap length u.1.1)))

-- what a cut name is made of: UTF-8, or fifteen bytes that end inside a character
cut_parts : (text : List ℕ) → IsUtf8 text → IsUtf8 (before_nul (take 15 text)) ⊎ (IsBroken (before_nul (take 15 text)) × (length (before_nul (take 15 text)) ≡ 15))
cut_parts text u =
    let front = take 15 text in
    ⊎_elim
    (λ all.
    ⊎_elim
    (λ (short : length text < 15). inl (subst IsUtf8 (sym (all ∙ take_all 15 text (omega arith))) u))
    (λ (long : 15 ≤ length text).
    ⊎_elim
    (λ v. inl (subst IsUtf8 (sym all) v))
    (λ (broken : IsBroken front). inr (subst IsBroken (sym all) broken, omega (arith, ap length all, length-take 15 text)))
    (front_of_text text 15 u long))
    (cases_lt (length text) 15))
    (λ part. inl (before_nul-IsUtf8 text (before_nul front) (drop 15 text) part.0 u
    (sym (take-append-drop 15 text) ∙ ap (λ t. t ++ drop 15 text) part.1)))
    (before_nul-split front)

-- the first of two lists without NUL has no NUL
clean-front : (xs ys : List ℕ) → HasNoNul (xs ++ ys) → HasNoNul xs
clean-front [] ys h = tt
clean-front (x ∷ xs) ys h = (h.0, clean-front xs ys h.1)

-- a string followed by U+FFFD, truncated to 15 bytes
cut_replacement : (text : List ℕ) (m : ℕ) → IsUtf8 text → length text + m ≡ 15 → 0 < m → m ≤ 3
    → IsCutText (text ++ take m replacement_bytes) × (utf8_lossy (text ++ take m replacement_bytes) ≡ text ++ replacement_bytes)
cut_replacement text zero u sum some few = absurd (omega arith)
cut_replacement text (suc zero) u sum some few =
    (inr (omega (arith, length-append text (0xEF ∷ [])), text, u, inl refl), utf8_lossy-front text (0xEF ∷ []) u ∙ ap (λ t. text ++ t) lossy-one)
cut_replacement text (suc (suc zero)) u sum some few =
    (inr (omega (arith, length-append text (0xEF ∷ 0xBF ∷ [])), text, u, inr refl), utf8_lossy-front text (0xEF ∷ 0xBF ∷ []) u ∙ ap (λ t. text ++ t) lossy-two)
cut_replacement text (suc (suc (suc zero))) u sum some few =
    let whole = IsUtf8-append text replacement_bytes u IsUtf8-replacement in
    (inl whole, utf8_lossy-IsUtf8 _ whole)
cut_replacement text (suc (suc (suc (suc m)))) u sum some few = absurd (omega arith)

-- the bytes that are written for a cut name
pub record Written (name : List ℕ) : Type 0 where
  pub bytes : List ℕ
  pub is : take 15 name ≡ bytes
  pub short : length bytes ≤ 15
  pub clean : HasNoNul bytes
  pub cut : IsCutText bytes
  pub again : utf8_lossy bytes ≡ name

-- a cut name has such bytes
pub Written-cut : (text : List ℕ) → IsUtf8 text → Written (cut_name text)
Written-cut text u =
    let x = before_nul (take 15 text) in
    let clean : HasNoNul x = clean-before_nul (take 15 text) in
    let short : length x ≤ 15 = omega (arith, length-before_nul (take 15 text), length-take 15 text) in
    ⊎_elim
    (λ (v : IsUtf8 x).
    let same = utf8_lossy-IsUtf8 x v in
    record { bytes = x; is = ap (take 15) same ∙ take_all 15 x short; short = short; clean = clean; cut = inl v; again = refl })
    (λ (broken : IsBroken x × (length x ≡ 15)).
    let b = broken.0 in
    let m = length b.rest in
    let front : HasNoNul b.text = clean-front b.text b.rest (subst HasNoNul b.parts clean) in
    let name_is : utf8_lossy x ≡ b.text ++ replacement_bytes =
    ap utf8_lossy b.parts ∙ utf8_lossy-front b.text b.rest b.utf8 ∙ ap (λ t. b.text ++ t) b.lossy in
    let sum : length b.text + m ≡ 15 = omega (arith, broken.1, ap length b.parts, length-append b.text b.rest) in
    let ends = cut_replacement b.text m b.utf8 sum b.some b.few in
    record {
      bytes = b.text ++ take m replacement_bytes;
      is = ap (take 15) name_is ∙ take-past b.text replacement_bytes 15 m (omega arith);
      short = omega (arith, length-append b.text (take m replacement_bytes), length-take m replacement_bytes);
      clean = clean-append b.text _ front (clean-take m replacement_bytes clean-replacement);
      cut = ends.0;
      again = ends.1 ∙ sym name_is;
    })
    (cut_parts text u)

-- what is written for a cut name is canonical
pub cut_is_canonical_lem : (text : List ℕ) → IsUtf8 text → IsNameField (name_field (cut_name text))
cut_is_canonical_lem text u =
    let w = Written-cut text u in
    (w.bytes, ap zero_filled w.is, w.short, w.clean, w.cut)

-- a second cut changes nothing
pub cut_once_lem : (text : List ℕ) → IsUtf8 text → cut_name (cut_name text) ≡ cut_name text
cut_once_lem text u =
    let w = Written-cut text u in
    ap (λ t. utf8_lossy (before_nul t)) w.is ∙ ap utf8_lossy (before_nul-clean w.bytes w.clean) ∙ w.again

-- ---- strings are bytes

-- a character consists of bytes
bytes-encode : (c : ℕ) → scalar c ≡ true → IsBytes (encode_utf8 c)
unfolding encode_utf8
bytes-encode c is = ⊎_elim (λ low. of_char c (omega arith)) (λ high. of_char c high.1) (scalar_cases c is)
  where
    -- less than the greatest scalar value
    of_char : (c : ℕ) → c < 1114112 → IsBytes (encode_utf8 c)
    of_char c top =
        cond_both (nat_lt c 128) _ _ IsBytes (λ e. (omega (arith, ltb-true c 128 e), tt)) (λ e1.
        cond_both (nat_lt c 2048) _ _ IsBytes (λ e. (omega (arith, ltb-true c 2048 e), (omega arith, tt))) (λ e2.
        cond_both (nat_lt c 65536) _ _ IsBytes (λ e. (omega (arith, ltb-true c 65536 e), (omega arith, (omega arith, tt))))
        (λ e3. (omega arith, (omega arith, (omega arith, (omega arith, tt)))))))

-- characters consist of bytes
bytes-encodes : (cs : List ℕ) → scalars cs ≡ true → IsBytes (encode_utf8_all cs)
bytes-encodes [] all = tt
bytes-encodes (c ∷ cs) all = let both = and_parts _ _ all in bytes-append (encode_utf8 c) (encode_utf8_all cs) (bytes-encode c both.0) (bytes-encodes cs both.1)

-- a string consists of bytes
pub bytes-text : (text : List ℕ) → IsUtf8 text → IsBytes text
bytes-text text u = subst IsBytes u.1.1 (bytes-encodes u.0 u.1.0)
