-- The first bytes of a stream of messages.
use Rattle.std.proofs.Common.{◌≡◌, ◌<◌, ◌≤◌, ◌+◌, ◌*◌, ◌^◌, ◌⊎◌, ℕ, Bool, true, false, true≢false, ◌&&◌, ◌||◌, List, [], ◌∷◌, ◌++◌, length, nat_le, nat_lt, refl, sym, ap, subst, ◌∙◌, inl, inr, ⊎_elim, arith}
use Rattle.std.proofs.lemmas.Bool.{and_from, and_parts, cases_lt, false_from_ne_true, le-leb, leb-true, lt-leb, lt-ltb, ltb-true, or_cases, or_left, or_right}
use Rattle.link_capture.specs.declared.order.Order.TheVariants.{Little}
use Rattle.link_capture.specs.Messages.{is_length, is_type, is_stream, begins_length, begins_type, begins_stream}
use Rattle.link_capture.specs.Order.{number_at}

-- a number whose low part is that of a length, or less than it by m at least, has a low part that begins a length
may_begin : (low m n : ℕ) → (n ≡ low) ⊎ (low + m ≤ n) → is_length n ≡ true → (is_length low || nat_le (low + m) 65_536) ≡ true
may_begin low m n (inl e) h = or_left (is_length low) (nat_le (low + m) 65_536) (subst (λ x. is_length x ≡ true) e h)
may_begin low m n (inr most) h =
    let few = leb-true n 65_536 (and_parts (nat_le 16 n) (nat_le n 65_536) h).1 in or_right (is_length low) (nat_le (low + m) 65_536) (le-leb (low + m) 65_536 (omega (arith, most, few)))

-- a low part that begins a length is one, or is one with m
begun_length : (low m : ℕ) → 16 ≤ m → (is_length low || nat_le (low + m) 65_536) ≡ true → (is_length low ≡ true) ⊎ (is_length (low + m) ≡ true)
begun_length low m big h =
    ⊎_elim (λ is. inl is) (λ few. inr (and_from (nat_le 16 (low + m)) (nat_le (low + m) 65_536) (le-leb 16 (low + m) (omega (arith, big))) few)) (or_cases (is_length low) (nat_le (low + m) 65_536) h)

-- nothing that is more than the greatest length makes a length
low_length : (low m : ℕ) → 65_536 < m → (is_length low || nat_le (low + m) 65_536) ≡ true → is_length low ≡ true
low_length low m big h = ⊎_elim (λ is. is) (λ few. absurd (omega (arith, big, leb-true (low + m) 65_536 few))) (or_cases (is_length low) (nat_le (low + m) 65_536) h)

-- the parts of a test
parts_of : (s : List ℕ) → is_stream s ≡ true → (6 ≤ length s) × ((is_length (number_at Little 4 0 s) ≡ true) × (is_type (number_at Little 2 4 s) ≡ true))
parts_of s h =
    let all = and_parts (nat_le 6 (length s)) (is_length (number_at Little 4 0 s) && is_type (number_at Little 2 4 s)) h in
    (leb-true 6 (length s) all.0, and_parts (is_length (number_at Little 4 0 s)) (is_type (number_at Little 2 4 s)) all.1)

whole : (s : List ℕ) → 6 ≤ length s → is_length (number_at Little 4 0 s) ≡ true → is_type (number_at Little 2 4 s) ≡ true → is_stream s ≡ true
whole s long l t = and_from (nat_le 6 (length s)) (is_length (number_at Little 4 0 s) && is_type (number_at Little 2 4 s)) (le-leb 6 (length s) long) (and_from (is_length (number_at Little 4 0 s)) (is_type (number_at Little 2 4 s)) l t)

short : (s : List ℕ) → length s < 6 → begins_length s ≡ true → begins_type s ≡ true → begins_stream s ≡ true
short s few l t = and_from (nat_lt (length s) 6) (begins_length s && begins_type s) (lt-ltb (length s) 6 few) (and_from (begins_length s) (begins_type s) l t)

-- a type is less than 256
few_types : (t : ℕ) → is_type t ≡ true → t ≤ 123
few_types t h =
    ⊎_elim (λ control. omega (arith, leb-true t 4 (and_parts (nat_le 1 t) (nat_le t 4) control).1)) (λ other. leb-true t 123 (and_parts (nat_le 15 t) (nat_le t 123) other).1) (or_cases (nat_le 1 t && nat_le t 4) (nat_le 15 t && nat_le t 123) h)

low_type : (e f : ℕ) → is_type (e + 256 * f) ≡ true → is_type (e + 256 * 0) ≡ true
low_type e f h = let few = few_types (e + 256 * f) h in let none : f ≡ 0 = omega (arith, few) in subst (λ x. is_type (e + 256 * x) ≡ true) none h

-- ---- what follows does not change what is told

-- fewer bytes than a length and a type, which are the front of a stream, begin one
front_begins : (s more : List ℕ) → length s < 6 → is_stream (s ++ more) ≡ true → begins_stream s ≡ true
front_begins [] more few h = refl
front_begins (a ∷ []) more few h =
    let n = number_at Little 4 0 (a ∷ more) in
    let low = number_at Little 4 0 (a ∷ []) in
    let w = number_at Little 3 0 more in
    let apart = ⊎_elim {C = (n ≡ low) ⊎ (low + 256 ≤ n)} (λ some. inr (omega (arith, some))) (λ none. inl (omega (arith, none))) (cases_lt 0 w) in short (a ∷ []) few (may_begin low 256 n apart (parts_of (a ∷ more) h).1.0) refl
front_begins (a ∷ b ∷ []) more few h =
    let n = number_at Little 4 0 (a ∷ b ∷ more) in
    let low = number_at Little 4 0 (a ∷ b ∷ []) in
    let w = number_at Little 2 0 more in
    let apart = ⊎_elim {C = (n ≡ low) ⊎ (low + 65_536 ≤ n)} (λ some. inr (omega (arith, some))) (λ none. inl (omega (arith, none))) (cases_lt 0 w) in short (a ∷ b ∷ []) few (may_begin low 65_536 n apart (parts_of (a ∷ b ∷ more) h).1.0) refl
front_begins (a ∷ b ∷ c ∷ []) more few h =
    let n = number_at Little 4 0 (a ∷ b ∷ c ∷ more) in
    let low = number_at Little 4 0 (a ∷ b ∷ c ∷ []) in
    let w = number_at Little 1 0 more in
    let apart = ⊎_elim {C = (n ≡ low) ⊎ (low + 16_777_216 ≤ n)} (λ some. inr (omega (arith, some))) (λ none. inl (omega (arith, none))) (cases_lt 0 w) in short (a ∷ b ∷ c ∷ []) few (may_begin low 16_777_216 n apart (parts_of (a ∷ b ∷ c ∷ more) h).1.0) refl
front_begins (a ∷ b ∷ c ∷ d ∷ []) more few h =
    let s = a ∷ b ∷ c ∷ d ∷ [] in short s few (or_left (is_length (number_at Little 4 0 s)) (nat_le (number_at Little 4 0 s + 256 ^ 4) 65_536) (parts_of (a ∷ b ∷ c ∷ d ∷ more) h).1.0) refl
front_begins (a ∷ b ∷ c ∷ d ∷ e ∷ []) more few h =
    let s = a ∷ b ∷ c ∷ d ∷ e ∷ [] in
    let parts = (parts_of (a ∷ b ∷ c ∷ d ∷ e ∷ more) h).1 in
    short s few (or_left (is_length (number_at Little 4 0 s)) (nat_le (number_at Little 4 0 s + 256 ^ 5) 65_536) parts.0)
    (or_right (nat_le 5 4) (is_type (number_at Little 2 4 s)) (low_type e (number_at Little 1 0 more) parts.1))
front_begins (a ∷ b ∷ c ∷ d ∷ e ∷ f ∷ s) more few h = absurd (omega (arith, few))

-- a length and a type are in the first six bytes
same_front : (s more : List ℕ) → 6 ≤ length s → is_stream (s ++ more) ≡ is_stream s
same_front [] more long = absurd (omega (arith, long))
same_front (a ∷ []) more long = absurd (omega (arith, long))
same_front (a ∷ b ∷ []) more long = absurd (omega (arith, long))
same_front (a ∷ b ∷ c ∷ []) more long = absurd (omega (arith, long))
same_front (a ∷ b ∷ c ∷ d ∷ []) more long = absurd (omega (arith, long))
same_front (a ∷ b ∷ c ∷ d ∷ e ∷ []) more long = absurd (omega (arith, long))
same_front (a ∷ b ∷ c ∷ d ∷ e ∷ f ∷ s) more long =
    let tests = is_length (number_at Little 4 0 (a ∷ b ∷ c ∷ d ∷ [])) && is_type (number_at Little 2 4 (a ∷ b ∷ c ∷ d ∷ e ∷ f ∷ [])) in
    ap (λ t. t && tests) (le-leb 6 (length (a ∷ b ∷ c ∷ d ∷ e ∷ f ∷ (s ++ more))) (omega arith) ∙ sym (le-leb 6 (length (a ∷ b ∷ c ∷ d ∷ e ∷ f ∷ s)) long))

no_stream : (s : List ℕ) → length s < 6 → is_stream s ≡ false
no_stream s few = ap (λ t. t && (is_length (number_at Little 4 0 s) && is_type (number_at Little 2 4 s))) (lt-leb 6 (length s) few)

-- what follows bytes that do not begin a stream does not make them one
pub same_stream : (s more : List ℕ) → begins_stream s ≡ false → is_stream (s ++ more) ≡ is_stream s
same_stream s more none =
    ⊎_elim (λ few. false_from_ne_true (is_stream (s ++ more)) (λ h. true≢false (sym (front_begins s more few h) ∙ none)) ∙ sym (no_stream s few)) (λ long. same_front s more long) (cases_lt (length s) 6)

-- ---- what may follow

-- bytes that begin a stream are none, and may be followed by what makes them one
pub begun_stream : (s : List ℕ) → begins_stream s ≡ true → (is_stream s ≡ false) × ((more : List ℕ) × (is_stream (s ++ more) ≡ true))
begun_stream s h =
    let few = ltb-true (length s) 6 (and_parts (nat_lt (length s) 6) (begins_length s && begins_type s) h).0 in
    let parts = and_parts (begins_length s) (begins_type s) (and_parts (nat_lt (length s) 6) (begins_length s && begins_type s) h).1 in (no_stream s few, goes_on s few parts.0 parts.1)
  where
    goes_on : (s : List ℕ) → length s < 6 → begins_length s ≡ true → begins_type s ≡ true → (more : List ℕ) × (is_stream (s ++ more) ≡ true)
    goes_on [] few l t = (16 ∷ 0 ∷ 0 ∷ 0 ∷ 1 ∷ 0 ∷ [], refl)
    goes_on (a ∷ []) few l t =
        ⊎_elim
        (λ is. (0 ∷ 0 ∷ 0 ∷ 1 ∷ 0 ∷ [], whole (a ∷ 0 ∷ 0 ∷ 0 ∷ 1 ∷ 0 ∷ []) (omega arith) is refl))
        (λ is. let same : number_at Little 4 0 (a ∷ []) + 256 ≡ number_at Little 4 0 (a ∷ 1 ∷ []) = omega arith in (1 ∷ 0 ∷ 0 ∷ 1 ∷ 0 ∷ [], whole (a ∷ 1 ∷ 0 ∷ 0 ∷ 1 ∷ 0 ∷ []) (omega arith) (subst (λ n. is_length n ≡ true) same is) refl))
        (begun_length (number_at Little 4 0 (a ∷ [])) 256 (omega arith) l)
    goes_on (a ∷ b ∷ []) few l t =
        ⊎_elim
        (λ is. (0 ∷ 0 ∷ 1 ∷ 0 ∷ [], whole (a ∷ b ∷ 0 ∷ 0 ∷ 1 ∷ 0 ∷ []) (omega arith) is refl))
        (λ is. let same : number_at Little 4 0 (a ∷ b ∷ []) + 65_536 ≡ number_at Little 4 0 (a ∷ b ∷ 1 ∷ 0 ∷ []) = omega arith in (1 ∷ 0 ∷ 1 ∷ 0 ∷ [], whole (a ∷ b ∷ 1 ∷ 0 ∷ 1 ∷ 0 ∷ []) (omega arith) (subst (λ n. is_length n ≡ true) same is) refl))
        (begun_length (number_at Little 4 0 (a ∷ b ∷ [])) 65_536 (omega arith) l)
    goes_on (a ∷ b ∷ c ∷ []) few l t =
        ⊎_elim
        (λ is. (0 ∷ 1 ∷ 0 ∷ [], whole (a ∷ b ∷ c ∷ 0 ∷ 1 ∷ 0 ∷ []) (omega arith) is refl))
        (λ is. let same : number_at Little 4 0 (a ∷ b ∷ c ∷ []) + 16_777_216 ≡ number_at Little 4 0 (a ∷ b ∷ c ∷ 1 ∷ []) = omega arith in (1 ∷ 1 ∷ 0 ∷ [], whole (a ∷ b ∷ c ∷ 1 ∷ 1 ∷ 0 ∷ []) (omega arith) (subst (λ n. is_length n ≡ true) same is) refl))
        (begun_length (number_at Little 4 0 (a ∷ b ∷ c ∷ [])) 16_777_216 (omega arith) l)
    goes_on (a ∷ b ∷ c ∷ d ∷ []) few l t =
        let s = a ∷ b ∷ c ∷ d ∷ [] in
        (1 ∷ 0 ∷ [], whole (a ∷ b ∷ c ∷ d ∷ 1 ∷ 0 ∷ []) (omega arith) (low_length (number_at Little 4 0 s) (256 ^ 4) (omega arith) l) refl)
    goes_on (a ∷ b ∷ c ∷ d ∷ e ∷ []) few l t =
        let s = a ∷ b ∷ c ∷ d ∷ e ∷ [] in
        (0 ∷ [], whole (a ∷ b ∷ c ∷ d ∷ e ∷ 0 ∷ []) (omega arith) (low_length (number_at Little 4 0 s) (256 ^ 5) (omega arith) l) t)
    goes_on (a ∷ b ∷ c ∷ d ∷ e ∷ f ∷ s) few l t = absurd (omega (arith, few))
