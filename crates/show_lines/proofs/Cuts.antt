-- Texts, cut at the first byte that passes a test, or at a length.
use Rattle.std.proofs.Common.{◌≡◌, ◌≢◌, inl, inr, ℕ, suc, zero, ◌+◌, ◌-◌, ◌<◌, ◌≤◌, min, Bool, true, false, not, nat_eq, nat_lt, slice_index, List, [], ◌∷◌, ◌++◌, length, get_or, take, drop, Option, None, Some, unwrap_or, Result, Ok, Err, OnOk, is_ok, cond, refl, sym, ap, ap₂, subst, ◌∙◌, arith, append_assoc, take-append-drop}
use Rattle.std.specs.List.{AllByRecursion, list_all, position, position_or_len, before_first, after_first}
use Rattle.std.specs.Str.{IsUtf8}
use Rattle.std.proofs.lemmas.List.{take_all, take_at, take-append-le, length-take-le, take_min, drop_all, drop_more}
use Rattle.std.proofs.lemmas.List.Quantifiers.{position-Some}
use Rattle.std.proofs.lemmas.List.Sums.{fails_before_first, passes_at_first, split_at_first, prefix_len-le-length}
use Rattle.std.proofs.lemmas.Bool.{eqb-true, eqb-false, ltb-true, and_parts, cases_lt, cond_below, cond_above}
use Rattle.std.proofs.lemmas.Str.{IsUtf8-from_ascii}
use Rattle.std.proofs.Math.Seq.{take-append-add, drop-drop}
use Rattle.netlink_packet_route.specs.declared.family.Family.{Family}
use Rattle.netlink_packet_route.specs.declared.family.Family.TheVariants.{Bond}
use Rattle.netlink_packet_route.specs.Family.{family_name}
use Rattle.netlink_packet_route.specs.HexText.{is_space}
use Rattle.netlink_packet_route.specs.Report.{line}
use Rattle.show_lines.specs.Show.{IsUnbroken, IsBlank, IsApart, IsCut, IsSolidFirst}

pub all_append : {A : Type 0} (P : A → Type 0) (xs ys : List A) → AllByRecursion P xs → AllByRecursion P ys → AllByRecursion P (xs ++ ys)
all_append P [] ys h k = k
all_append P (x ∷ xs) ys h k = (h.0, all_append P xs ys h.1 k)

pub all_each : {A : Type 0} (P Q : A → Type 0) → ((x : A) → P x → Q x) → (xs : List A) → AllByRecursion P xs → AllByRecursion Q xs
all_each P Q f [] h = tt
all_each P Q f (x ∷ xs) h = (f x h.0, all_each P Q f xs h.1)

-- ---- the first byte that passes

-- its index, or the length
found_at : (p : ℕ → Bool) (xs : List ℕ) → unwrap_or (position p xs) (length xs) ≡ position_or_len p xs
found_at p xs =
    let n = position_or_len p xs in
    elim (cases_lt n (length xs)) [
      | inl lt ↦ sym (ap (λ o. unwrap_or o (length xs)) (cond_below n (length xs) (Some n) None lt))
      | inr le ↦ (let all : length xs ≡ n = omega (arith, prefix_len-le-length (λ x. not (p x)) xs) in sym (ap (λ o. unwrap_or o (length xs)) (cond_above n (length xs) (Some n) None None le refl)) ∙ all)
    ]

below : (p : ℕ → Bool) (i : ℕ) (xs : List ℕ) → ((k : ℕ) → k < i → p (get_or xs k 0) ≡ false) → AllByRecursion (λ b. p b ≡ false) (take i xs)
below p zero xs h = tt
below p (suc i) [] h = tt
below p (suc i) (x ∷ xs) h = (h 0 (omega arith), below p i xs (λ k l. h (suc k) (omega arith)))

-- none of those before it passes
before : (p : ℕ → Bool) (xs : List ℕ) → AllByRecursion (λ b. p b ≡ false) (before_first p xs)
before p xs = below p (position_or_len p xs) xs (λ k l. fails_before_first p xs k 0 l)

-- what is left starts with it
left : (p : ℕ → Bool) (xs : List ℕ) (b : ℕ) (bs : List ℕ) → drop (position_or_len p xs) xs ≡ b ∷ bs → p b ≡ true
left p xs b bs e =
    let n = position_or_len p xs in
    elim (cases_lt n (length xs)) [
      | inl lt ↦ subst (λ x. p x ≡ true) (ap (λ (l : List ℕ). get_or l 0 0) (sym (drop_more xs n 0 lt) ∙ e)) (passes_at_first p xs 0 lt)
      | inr le ↦ (let none = sym (drop_all n xs le) ∙ e in cc)
    ]

-- ---- LF

abbrev pub is_lf : ℕ → Bool
is_lf b = nat_eq b 10

pub unbroken_first : (text line : List ℕ) → line ≡ before_first is_lf text → IsUnbroken line
unbroken_first text line e = subst IsUnbroken (sym e) (all_each (λ b. is_lf b ≡ false) (λ b. b ≢ 10) (λ b f. eqb-false b 10 f) (before_first is_lf text) (before is_lf text))

-- a text without LF
pub unbroken_whole : (text : List ℕ) → length text ≡ position_or_len is_lf text → IsUnbroken text
unbroken_whole text e = unbroken_first text text (sym (take_all (position_or_len is_lf text) text (omega (arith, e))))

-- what is before the first LF, and after it
pub cut_lf : (text line after : List ℕ) → position_or_len is_lf text < length text → line ≡ before_first is_lf text → after ≡ after_first is_lf text → text ≡ line ++ (10 ∷ after)
cut_lf text line after some l a =
    let lf = eqb-true (get_or text (position_or_len is_lf text) 0) 10 (passes_at_first is_lf text 0 some) in
    split_at_first is_lf text 0 some ∙ ap (λ b. before_first is_lf text ++ (b ∷ after_first is_lf text)) lf ∙ ap₂ (λ x y. x ++ (10 ∷ y)) (sym l) (sym a)

-- the same, as slices are cut
pub first_line : (xs front rest behind : List ℕ) (i : ℕ) → Some i ≡ position is_lf xs → front ≡ take i xs → rest ≡ drop i xs → behind ≡ drop 1 rest → IsUnbroken front × (xs ≡ line front ++ behind)
first_line xs front rest behind i e f r b =
    let at : i ≡ position_or_len is_lf xs = ap (λ o. unwrap_or o (length xs)) e ∙ found_at is_lf xs in
    let some = subst (λ k. k < length xs) at (position-Some is_lf xs i 0 (sym e)).0 in
    let l : front ≡ before_first is_lf xs = f ∙ ap (λ k. take k xs) at in
    let a : behind ≡ after_first is_lf xs = b ∙ ap (drop 1) r ∙ drop-drop 1 i xs ∙ ap (λ k. drop (k + 1) xs) at in
    (unbroken_first xs front l, cut_lf xs front behind some l a ∙ sym (append_assoc front (10 ∷ []) behind))

-- ---- white space

apart : (rest : List ℕ) → ((b : ℕ) (bs : List ℕ) → rest ≡ b ∷ bs → is_space b ≡ true) → IsApart rest
apart [] h = tt
apart (b ∷ bs) h = h b bs refl

pub cut_space : (xs front rest : List ℕ) (r : Option ℕ) (i : ℕ) → r ≡ position is_space xs → i ≡ unwrap_or r (length xs) → front ≡ take i xs → rest ≡ drop i xs → IsCut xs front rest
cut_space xs front rest r i e n f b =
    let at : i ≡ position_or_len is_space xs = n ∙ ap (λ o. unwrap_or o (length xs)) e ∙ found_at is_space xs in
    record {
      whole = sym (ap₂ (λ x y. x ++ y) f b ∙ take-append-drop i xs);
      solid = subst (AllByRecursion (λ c. is_space c ≡ false)) (sym (f ∙ ap (λ k. take k xs) at)) (before is_space xs);
      apart = apart rest (λ c cs h. left is_space xs c cs (sym (b ∙ ap (λ k. drop k xs) at) ∙ h));
    }

not-not : (b : Bool) → not (not b) ≡ b
not-not true = refl
not-not false = refl

abbrev pub is_solid : ℕ → Bool
is_solid b = not (is_space b)

pub skip_space : (xs rest : List ℕ) (r : Option ℕ) (i : ℕ) → r ≡ position is_solid xs → i ≡ unwrap_or r (length xs) → rest ≡ drop i xs → IsSolidFirst xs rest
skip_space xs rest r i e n b =
    let at : i ≡ position_or_len is_solid xs = n ∙ ap (λ o. unwrap_or o (length xs)) e ∙ found_at is_solid xs in
    let blank = all_each (λ c. is_solid c ≡ false) (λ c. is_space c ≡ true) (λ c f. sym (not-not (is_space c)) ∙ ap not f) (before_first is_solid xs) (before is_solid xs) in
    record {
      space = take i xs;
      whole = sym (ap (λ t. take i xs ++ t) b ∙ take-append-drop i xs);
      blank = subst IsBlank (sym (ap (λ k. take k xs) at)) blank;
      solid = λ c cs h. sym (not-not (is_space c)) ∙ ap not (left is_solid xs c cs (sym (b ∙ ap (λ k. drop k xs) at) ∙ h));
    }

-- ---- the first n bytes

pub take_twice : (n : ℕ) (xs ys : List ℕ) → take n (take n xs ++ ys) ≡ take n (xs ++ ys)
take_twice n xs ys =
    elim (cases_lt n (length xs)) [
      | inl lt ↦ take_at (take n xs) ys n (length-take-le n xs (omega arith)) ∙ sym (take-append-le n xs ys (omega arith))
      | inr le ↦ ap (λ l. take n (l ++ ys)) (take_all n xs le)
    ]

-- what is held after a growth, as far as there is room
pub kept : {E : Type 0} (r : Result (Unit {0}) E) (n room k : ℕ) (before inside piece front new : List ℕ) → inside ≡ before → length inside ≤ n → room ≡ n - length inside → k ≡ min room (length piece)
    → front ≡ take k piece → new ≡ cond (is_ok r) (inside ++ front) inside → OnOk r (new ≡ take n (before ++ piece))
kept (Ok x) n room k before inside piece front new i le e m f h =
    let all : n ≡ length inside + room = omega arith in
    let grown = ap (λ l. take l (inside ++ piece)) all ∙ take-append-add inside piece room ∙ ap (λ l. inside ++ l) (sym (take_min room piece)) in
    h ∙ ap (λ l. inside ++ l) (f ∙ ap (λ j. take j piece) m) ∙ sym grown ∙ ap (λ l. take n (l ++ piece)) i
kept (Err x) n room k before inside piece front new i le e m f h = tt

-- ---- the names of attribute sets are text

below_128 : (bs : List ℕ) → list_all (λ b. nat_lt b 128) bs ≡ true → (i : ℕ) → slice_index bs i < 128
below_128 [] h i = omega arith
below_128 (b ∷ bs) h zero = ltb-true b 128 (and_parts (nat_lt b 128) (list_all (λ b. nat_lt b 128) bs) h).0
below_128 (b ∷ bs) h (suc i) = below_128 bs (and_parts (nat_lt b 128) (list_all (λ b. nat_lt b 128) bs) h).1 i

ascii_name : (family : Family) → list_all (λ b. nat_lt b 128) (family_name family) ≡ true
ascii_name Bond = refl
ascii_name _ = refl

pub name_utf8 : (family : Family) → IsUtf8 (family_name family)
name_utf8 family = IsUtf8-from_ascii (family_name family) (below_128 (family_name family) (ascii_name family))
