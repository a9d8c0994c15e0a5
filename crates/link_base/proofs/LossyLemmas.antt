-- What `utf8_lossy` does to UTF-8, to UTF-8 with bytes after it, and to part of a character. It depends only on std.
use Rattle.std.specs.Char.{encode_utf8}
use Rattle.std.proofs.Common.{◌≡◌, ◌⊎◌, ℕ, zero, suc, ◌+◌, ◌-◌, ◌/◌, ◌%◌, ◌<◌, ◌≤◌, true, false, List, [], ◌∷◌, ◌++◌, length, take, drop, Some, None, IsUtf8, encode_utf8_all, refl, sym, ap, ap₂, subst, ◌∙◌, arith, inl, inr, ⊎_elim, append_assoc, length-append, length-drop, length-take, take_all, take-append-drop, true≢false}
use Rattle.std.specs.Prelude.{nat_lt, unwrap_or}
use Rattle.std.specs.Str.{IsValidUpTo, is_utf8}
use Rattle.std.specs.Str.Lossy.{valid_len_up_to, utf8_valid_len, utf8_error_len, utf8_invalid_len, after_first_chunk, utf8_lossy, replacement_bytes, second_byte_min, second_byte_max}
use Rattle.std.specs.Int.{is_in_range}
use Rattle.std.proofs.lemmas.Bool.{cases_Bool, cases_lt, cond-true, cond-false}
use Rattle.std.proofs.lemmas.Bool.Decides.{nat_tests}
use Rattle.std.proofs.lemmas.List.{take_at, drop_at, append-nil, drop_all, length-take-le}
use Rattle.std.proofs.lemmas.Str.{utf8_lossy-IsUtf8, utf8_lossy_step, utf8_valid_len-IsValidUpTo, IsUtf8-append, IsUtf8-nil, IsUtf8-drop, IsUtf8-from_is_utf8, is_utf8-from_IsUtf8, IsCharBoundary-from_take, encode_same}
use lib.Utf8.{scalar, scalars, scalar_cases}

-- the longest UTF-8 prefix of at most m bytes
longest_front : (bs : List ℕ) (m : ℕ)
    → IsUtf8 (take (valid_len_up_to bs m) bs) × ((k : ℕ) → valid_len_up_to bs m < k → k ≤ m → ¬ (IsUtf8 (take k bs)))
longest_front bs zero = (([], (refl, refl)), λ k above within. absurd (omega arith))
longest_front bs (suc m) =
    let rest = longest_front bs m in
    ⊎_elim
    (λ holds.
    let is : valid_len_up_to bs (suc m) ≡ suc m = cond-true _ _ _ holds in
    (subst (λ n. IsUtf8 (take n bs)) (sym is) (IsUtf8-from_is_utf8 _ holds), λ k above within. absurd (omega arith)))
    (λ fails.
    let is : valid_len_up_to bs (suc m) ≡ valid_len_up_to bs m = cond-false _ _ _ fails in (
      subst (λ n. IsUtf8 (take n bs)) (sym is) rest.0,
      λ k above within u. ⊎_elim
          (λ (top : m < k).
          let same : k ≡ suc m = omega arith in
          true≢false (sym (is_utf8-from_IsUtf8 _ (subst (λ n. IsUtf8 (take n bs)) same u)) ∙ fails))
          (λ (low : k ≤ m). rest.1 k (omega arith) low u)
          (cases_lt m k),
    ))
    (cases_Bool (is_utf8 (take (suc m) bs)))

-- bytes are UTF-8, or `utf8_valid_len` is the length of their longest UTF-8 prefix
pub utf8_valid_len-cases : (bs : List ℕ) → IsUtf8 bs ⊎ IsValidUpTo bs (utf8_valid_len bs)
unfolding utf8_valid_len
utf8_valid_len-cases bs =
    let n = utf8_valid_len bs in
    let front = longest_front bs (length bs) in
    ⊎_elim
    (λ (short : n < length bs). inr (record {
      short = short;
      front = front.0;
      longest = λ m above u. ⊎_elim
          (λ (past : length bs < m).
          front.1 (length bs) short (omega arith) (subst IsUtf8 (take_all m bs (omega arith) ∙ sym (take_all (length bs) bs (omega arith))) u))
          (λ (within : m ≤ length bs). front.1 m above within u)
          (cases_lt (length bs) m);
    }))
    (λ (whole : length bs ≤ n). inl (subst IsUtf8 (take_all n bs whole) front.0))
    (cases_lt n (length bs))

-- the first n elements of two lists, if n is at least the length of the first
pub take-past : (xs ys : List ℕ) (n m : ℕ) → n ≡ length xs + m → take n (xs ++ ys) ≡ xs ++ take m ys
take-past [] ys n m e = let same : n ≡ m = omega arith in ap (λ k. take k ys) same
take-past (x ∷ xs) ys zero m e = absurd (omega arith)
take-past (x ∷ xs) ys (suc n) m e = ap (λ t. x ∷ t) (take-past xs ys n m (omega arith))

-- what follows the first n elements of two lists, if n is at least the length of the first
pub drop-past : (xs ys : List ℕ) (n m : ℕ) → n ≡ length xs + m → drop n (xs ++ ys) ≡ drop m ys
drop-past [] ys n m e = let same : n ≡ m = omega arith in ap (λ k. drop k ys) same
drop-past (x ∷ xs) ys zero m e = absurd (omega arith)
drop-past (x ∷ xs) ys (suc n) m e = drop-past xs ys n m (omega arith)

-- what follows a UTF-8 prefix of UTF-8 is UTF-8
pub IsUtf8-behind : (text rest : List ℕ) → IsUtf8 text → IsUtf8 (text ++ rest) → IsUtf8 rest
IsUtf8-behind text rest u v =
    let i = length text in
    subst IsUtf8 (drop_at text rest i refl)
    (IsUtf8-drop (text ++ rest) i v
    (IsCharBoundary-from_take (text ++ rest) i v (omega (arith, length-append text rest)) (subst IsUtf8 (sym (take_at text rest i refl)) u)))

-- a UTF-8 prefix is unchanged, and what follows is decoded on its own
pub utf8_lossy-front : (text rest : List ℕ) → IsUtf8 text → utf8_lossy (text ++ rest) ≡ text ++ utf8_lossy rest
utf8_lossy-front text rest u = ⊎_elim
    (λ v. utf8_lossy-IsUtf8 (text ++ rest) (IsUtf8-append text rest u v) ∙ ap (λ t. text ++ t) (sym (utf8_lossy-IsUtf8 rest v)))
    (λ valid.
    let n = utf8_valid_len rest in
    let i = length text in
    let all = text ++ rest in
    let short = valid.short in
    let whole : IsValidUpTo all (i + n) = record {
      short = omega (arith, length-append text rest);
      front = subst IsUtf8 (sym (take-past text rest (i + n) n refl)) (IsUtf8-append text (take n rest) u valid.front);
      longest = λ m above v. valid.longest (m - i) (omega arith)
          (IsUtf8-behind text (take (m - i) rest) u (subst IsUtf8 (take-past text rest m (m - i) (omega arith)) v));
    } in
    let len : utf8_valid_len all ≡ i + n = utf8_valid_len-IsValidUpTo all (i + n) whole in
    let front : take (utf8_valid_len all) all ≡ text ++ take n rest = ap (λ k. take k all) len ∙ take-past text rest (i + n) n refl in
    let bad : drop (utf8_valid_len all) all ≡ drop n rest = ap (λ k. drop k all) len ∙ drop-past text rest (i + n) n refl in
    let after : after_first_chunk all ≡ after_first_chunk rest =
    ap₂ (λ k l. drop (k + utf8_invalid_len l) all) len bad
    ∙ drop-past text rest (i + n + utf8_invalid_len (drop n rest)) (n + utf8_invalid_len (drop n rest)) (omega arith) in
    utf8_lossy_step all (λ e. omega (arith, length-append text rest))
    ∙ ap₂ (λ a b. a ++ (replacement_bytes ++ utf8_lossy b)) front after
    ∙ append_assoc text (take n rest) (replacement_bytes ++ utf8_lossy (after_first_chunk rest))
    ∙ ap (λ t. text ++ t) (sym (utf8_lossy_step rest (λ e. omega arith))))
    (utf8_valid_len-cases rest)

-- ---- part of a character

-- no proper prefix of a character, except the empty one, is UTF-8
no_front : (c k m : ℕ) → scalar c ≡ true → k < length (encode_utf8 c) → 0 < m → IsUtf8 (take m (take k (encode_utf8 c))) → length (take m (take k (encode_utf8 c))) ≡ 0
no_front c k m is less some u = go u.0 u.1.0 u.1.1
  where
    -- by the characters of the prefix
    go : (cs : List ℕ) → scalars cs ≡ true → encode_utf8_all cs ≡ take m (take k (encode_utf8 c)) → length (take m (take k (encode_utf8 c))) ≡ 0
    go [] all e = sym (ap length e)
    go (d ∷ cs) all e =
        let bs = encode_utf8 c in
        let part = take k bs in
        let front = take m part in
        let rest = encode_utf8_all cs in
        let split : bs ≡ encode_utf8 d ++ (rest ++ (drop m part ++ drop k bs)) =
        sym (take-append-drop k bs) ∙ ap (λ t. t ++ drop k bs) (sym (take-append-drop m part))
        ∙ ap (λ t. (t ++ drop m part) ++ drop k bs) (sym e)
        ∙ append_assoc (encode_utf8 d ++ rest) (drop m part) (drop k bs) ∙ append_assoc (encode_utf8 d) rest (drop m part ++ drop k bs) in
        let same = encode_same c d [] (rest ++ (drop m part ++ drop k bs)) (append-nil bs ∙ split) in
        absurd (omega (arith, ap length same.1, length-append rest (drop m part ++ drop k bs), length-append (drop m part) (drop k bs), length-drop k bs))

-- a term of the type given
abbrev by : (A : Type 0) → A → A
by A a = a

-- one byte that may begin a character
more_1 : (b : ℕ) → is_in_range 0xC2 0xF4 b ≡ true → utf8_error_len (b ∷ []) ≡ None
unfolding utf8_error_len
more_1 b first = cond-true (is_in_range 0xC2 0xF4 b) None (Some 1) first

-- two bytes that may begin a character
more_2 : (b c : ℕ) → is_in_range 0xC2 0xF4 b ≡ true → is_in_range (second_byte_min b) (second_byte_max b) c ≡ true → utf8_error_len (b ∷ c ∷ []) ≡ None
unfolding utf8_error_len
more_2 b c first next = cond-true (is_in_range 0xC2 0xF4 b) _ (Some 1) first ∙ cond-true (is_in_range (second_byte_min b) (second_byte_max b) c) None (Some 1) next

-- three bytes that may begin a character
more_3 : (b c d : ℕ) → is_in_range 0xC2 0xF4 b ≡ true → is_in_range (second_byte_min b) (second_byte_max b) c ≡ true → is_in_range 0x80 0xBF d ≡ true
    → utf8_error_len (b ∷ c ∷ d ∷ []) ≡ None
unfolding utf8_error_len
more_3 b c d first next third =
    cond-true (is_in_range 0xC2 0xF4 b) _ (Some 1) first ∙ cond-true (is_in_range (second_byte_min b) (second_byte_max b) c) _ (Some 1) next
    ∙ cond-true (is_in_range 0x80 0xBF d) None (Some 2) third

-- a part of two bytes may begin a character
part_of_two : (b c k : ℕ) → is_in_range 0xC2 0xF4 b ≡ true → 0 < k → k < 2 → utf8_error_len (take k (b ∷ c ∷ [])) ≡ None
part_of_two b c zero first some less = absurd (omega arith)
part_of_two b c (suc zero) first some less = more_1 b first
part_of_two b c (suc (suc k)) first some less = absurd (omega arith)

-- a part of three bytes may begin a character
part_of_three : (b c d k : ℕ) → is_in_range 0xC2 0xF4 b ≡ true → is_in_range (second_byte_min b) (second_byte_max b) c ≡ true → 0 < k → k < 3
    → utf8_error_len (take k (b ∷ c ∷ d ∷ [])) ≡ None
part_of_three b c d zero first next some less = absurd (omega arith)
part_of_three b c d (suc zero) first next some less = more_1 b first
part_of_three b c d (suc (suc zero)) first next some less = more_2 b c first next
part_of_three b c d (suc (suc (suc k))) first next some less = absurd (omega arith)

-- a part of four bytes may begin a character
part_of_four : (b c d e k : ℕ) → is_in_range 0xC2 0xF4 b ≡ true → is_in_range (second_byte_min b) (second_byte_max b) c ≡ true → is_in_range 0x80 0xBF d ≡ true
    → 0 < k → k < 4 → utf8_error_len (take k (b ∷ c ∷ d ∷ e ∷ [])) ≡ None
part_of_four b c d e zero first next third some less = absurd (omega arith)
part_of_four b c d e (suc zero) first next third some less = more_1 b first
part_of_four b c d e (suc (suc zero)) first next third some less = more_2 b c first next
part_of_four b c d e (suc (suc (suc zero))) first next third some less = more_3 b c d first next third
part_of_four b c d e (suc (suc (suc (suc k)))) first next third some less = absurd (omega arith)

-- each non-empty proper prefix of the bytes is incomplete, not invalid
abbrev WantsMore : List ℕ → Type 0
WantsMore bs = (k : ℕ) → 0 < k → k < length bs → utf8_error_len (take k bs) ≡ None

-- this holds for a character of two bytes
wants_two : (c : ℕ) → 128 ≤ c → c < 2048 → WantsMore ((192 + c / 64) ∷ (128 + c % 64) ∷ [])
wants_two c low high k some less =
    let b = 192 + c / 64 in
    part_of_two b (128 + c % 64) k (by (is_in_range 0xC2 0xF4 b ≡ true) (grind (arith, nat_tests))) some less

-- this holds for a character of three bytes
wants_three : (c : ℕ) → 2048 ≤ c → c < 65536 → (c < 55296) ⊎ (57344 ≤ c) → WantsMore ((224 + c / 4096) ∷ (128 + (c / 64) % 64) ∷ (128 + c % 64) ∷ [])
wants_three c low high apart k some less =
    let b = 224 + c / 4096 in
    let d = 128 + (c / 64) % 64 in
    part_of_three b d (128 + c % 64) k (by (is_in_range 0xC2 0xF4 b ≡ true) (grind (arith, nat_tests)))
    (by (is_in_range (second_byte_min b) (second_byte_max b) d ≡ true) (grind (arith, nat_tests))) some less

-- this holds for a character of four bytes
wants_four : (c : ℕ) → 65536 ≤ c → c < 1114112 → WantsMore ((240 + c / 262144) ∷ (128 + (c / 4096) % 64) ∷ (128 + (c / 64) % 64) ∷ (128 + c % 64) ∷ [])
wants_four c low high k some less =
    let b = 240 + c / 262144 in
    let d = 128 + (c / 4096) % 64 in
    let e = 128 + (c / 64) % 64 in
    part_of_four b d e (128 + c % 64) k (by (is_in_range 0xC2 0xF4 b ≡ true) (grind (arith, nat_tests)))
    (by (is_in_range (second_byte_min b) (second_byte_max b) d ≡ true) (grind (arith, nat_tests)))
    (by (is_in_range 0x80 0xBF e ≡ true) (grind (arith, nat_tests))) some less

-- this holds for every character
wants_more : (c : ℕ) → scalar c ≡ true → WantsMore (encode_utf8 c)
unfolding encode_utf8
wants_more c is =
    let range = scalar_cases c is in
    ⊎_elim
    (λ (one : c < 128).
    let e : encode_utf8 c ≡ c ∷ [] = cond-true _ _ _ (by (nat_lt c 128 ≡ true) (grind (arith, nat_tests))) in
    subst WantsMore (sym e) (λ k some less. absurd (omega arith)))
    (λ (more : 128 ≤ c).
    let not_one : nat_lt c 128 ≡ false = grind (arith, nat_tests) in
    ⊎_elim
    (λ (two : c < 2048).
    let e : encode_utf8 c ≡ (192 + c / 64) ∷ (128 + c % 64) ∷ [] = cond-false _ _ _ not_one ∙ cond-true _ _ _ (by (nat_lt c 2048 ≡ true) (grind (arith, nat_tests))) in
    subst WantsMore (sym e) (wants_two c more two))
    (λ (wide : 2048 ≤ c).
    let not_two : nat_lt c 2048 ≡ false = grind (arith, nat_tests) in
    ⊎_elim
    (λ (three : c < 65536).
    let e : encode_utf8 c ≡ (224 + c / 4096) ∷ (128 + (c / 64) % 64) ∷ (128 + c % 64) ∷ [] =
    cond-false _ _ _ not_one ∙ cond-false _ _ _ not_two ∙ cond-true _ _ _ (by (nat_lt c 65536 ≡ true) (grind (arith, nat_tests))) in
    let apart : (c < 55296) ⊎ (57344 ≤ c) = ⊎_elim (λ low. inl low) (λ high. inr high.0) range in
    subst WantsMore (sym e) (wants_three c wide three apart))
    (λ (four : 65536 ≤ c).
    let not_three : nat_lt c 65536 ≡ false = grind (arith, nat_tests) in
    let e : encode_utf8 c ≡ (240 + c / 262144) ∷ (128 + (c / 4096) % 64) ∷ (128 + (c / 64) % 64) ∷ (128 + c % 64) ∷ [] =
    cond-false _ _ _ not_one ∙ cond-false _ _ _ not_two ∙ cond-false _ _ _ not_three in
    let top : c < 1114112 = ⊎_elim (λ low. omega arith) (λ high. high.1) range in
    subst WantsMore (sym e) (wants_four c four top))
    (cases_lt c 65536))
    (cases_lt c 2048))
    (cases_lt c 128)

-- ---- the result of `utf8_lossy` is UTF-8

-- each invalid sequence has a byte
some_invalid : (bs : List ℕ) → 0 < length bs → 0 < utf8_invalid_len bs
unfolding utf8_error_len
some_invalid bs some = grind (arith, nat_tests)

-- U+FFFD is UTF-8
pub IsUtf8-replacement : IsUtf8 replacement_bytes
unfolding encode_utf8
IsUtf8-replacement = (0xFFFD ∷ [], (refl, refl))

-- one step, if what follows is done
lossy_step : (bs : List ℕ) → IsValidUpTo bs (utf8_valid_len bs) → IsUtf8 (utf8_lossy (after_first_chunk bs)) → IsUtf8 (utf8_lossy bs)
lossy_step bs valid rest =
    let short = valid.short in
    subst IsUtf8 (sym (utf8_lossy_step bs (λ e. omega arith))) (IsUtf8-append _ _ valid.front (IsUtf8-append _ _ IsUtf8-replacement rest))

-- what follows the first invalid part is shorter
shorter : (bs : List ℕ) → IsValidUpTo bs (utf8_valid_len bs) → length (after_first_chunk bs) < length bs
shorter bs valid =
    let n = utf8_valid_len bs in
    let short = valid.short in
    let some = some_invalid (drop n bs) (omega (arith, length-drop n bs)) in
    omega (arith, length-drop (n + utf8_invalid_len (drop n bs)) bs)

-- the result of `utf8_lossy` is UTF-8, by the length of the bytes
lossy_within : (fuel : ℕ) (bs : List ℕ) → length bs ≤ fuel → IsUtf8 (utf8_lossy bs)
lossy_within zero bs le = ⊎_elim
    (λ u. subst IsUtf8 (sym (utf8_lossy-IsUtf8 bs u)) u)
    (λ valid. let short = valid.short in absurd (omega arith))
    (utf8_valid_len-cases bs)
lossy_within (suc fuel) bs le = ⊎_elim
    (λ u. subst IsUtf8 (sym (utf8_lossy-IsUtf8 bs u)) u)
    (λ valid. let less = shorter bs valid in lossy_step bs valid (lossy_within fuel (after_first_chunk bs) (omega arith)))
    (utf8_valid_len-cases bs)

-- the result of `utf8_lossy` is UTF-8
pub IsUtf8-lossy : (bs : List ℕ) → IsUtf8 (utf8_lossy bs)
IsUtf8-lossy bs = lossy_within (length bs) bs (omega arith)

-- part of a character decodes to one U+FFFD
pub lossy-partial : (c k : ℕ) → scalar c ≡ true → 0 < k → k < length (encode_utf8 c) → utf8_lossy (take k (encode_utf8 c)) ≡ replacement_bytes
lossy-partial c k is some less =
    let part = take k (encode_utf8 c) in
    let len : length part ≡ k = length-take-le k (encode_utf8 c) (omega arith) in
    let valid : IsValidUpTo part 0 = record {
      short = omega arith;
      front = IsUtf8-nil;
      longest = λ m above u. let none = no_front c k m is less above u in omega (arith, length-take m part);
    } in
    let zero_is : utf8_valid_len part ≡ 0 = utf8_valid_len-IsValidUpTo part 0 valid in
    let invalid : utf8_invalid_len part ≡ length part = ap (λ o. unwrap_or o (length part)) (wants_more c is k some less) in
    let none : after_first_chunk part ≡ [] =
    ap (λ n. drop (n + utf8_invalid_len (drop n part)) part) zero_is ∙ drop_all (0 + utf8_invalid_len part) part (omega (arith, invalid)) in
    utf8_lossy_step part (λ e. omega arith) ∙ ap₂ (λ n b. take n part ++ (replacement_bytes ++ utf8_lossy b)) zero_is none
    ∙ ap (λ t. replacement_bytes ++ t) (utf8_lossy-IsUtf8 [] IsUtf8-nil)
