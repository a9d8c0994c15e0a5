-- Checking whether a name field is canonical.
use Rattle.std.proofs.Common.{◌≡◌, ◌≢◌, ◌⊎◌, ◌↔◌, ℕ, zero, suc, ◌+◌, ◌-◌, ◌<◌, ◌≤◌, true, false, List, [], ◌∷◌, ◌++◌, length, take, drop, get_or, replicate, IsUtf8, refl, sym, ap, subst, ◌∙◌, arith, inl, inr, length-append, length-take, length-drop, take-append-drop}
use Rattle.std.specs.Char.{encode_utf8}
use Rattle.std.specs.Str.{IsValidUpTo, is_utf8, chars}
use Rattle.std.proofs.lemmas.Bool.{cases_lt}
use Rattle.std.proofs.lemmas.List.{length-replicate, get_or-replicate, get_or-take, get_or-drop}
use Rattle.std.proofs.lemmas.Str.{is_utf8-from_IsUtf8, IsUtf8-drop, IsCharBoundary-from_take}
use Rattle.std.proofs.Math.Seq.{drop-append_seam, take-append_seam, take-append-add}
use Rattle.link_base.specs.Name.{HasNoNul, IsCutText, IsNameField}
use Rattle.link_base.proofs.CanonicalLists.{zeros}

-- ---- UTF-8, followed by part of U+FFFD

-- the first one or two bytes of U+FFFD
abbrev pub IsCutReplacement : List ℕ → Type 0
IsCutReplacement bytes = (bytes ≡ 0xEF ∷ []) ⊎ (bytes ≡ 0xEF ∷ 0xBF ∷ [])

no_text : is_utf8 (0xEF ∷ []) ≡ false
unfolding is_utf8 chars encode_utf8
no_text = refl

-- UTF-8 followed by the first byte of U+FFFD is not UTF-8
not_text : (text : List ℕ) → IsUtf8 text → ¬ (IsUtf8 (text ++ 0xEF ∷ []))
not_text text u longer =
    let s = text ++ 0xEF ∷ [] in
    let front : IsUtf8 (take (length text) s) = subst IsUtf8 (sym (take-append_seam text (0xEF ∷ []))) u in
    let boundary = IsCharBoundary-from_take s (length text) longer (omega (arith, length-append text (0xEF ∷ []))) front in
    let last : IsUtf8 (0xEF ∷ []) = subst IsUtf8 (drop-append_seam text (0xEF ∷ [])) (IsUtf8-drop s (length text) longer boundary) in
    let e : false ≡ true = sym no_text ∙ is_utf8-from_IsUtf8 (0xEF ∷ []) last in
    absurd cc

module _ (bytes : List ℕ) (n : ℕ) (valid : IsValidUpTo bytes n) where
  -- no UTF-8 prefix of the bytes is longer than the longest one
  no_longer : (text rest : List ℕ) → IsUtf8 text → bytes ≡ text ++ rest → length text ≤ n
  no_longer text rest u e =
      elim (cases_lt n (length text)) [
        | inl lt ↦ absurd (valid.longest (length text) lt (subst IsUtf8 (sym (ap (take (length text)) e ∙ take-append_seam text rest)) u))
        | inr le ↦ le
      ]

  -- what follows the UTF-8 prefix
  behind_text : (text rest : List ℕ) → bytes ≡ text ++ rest → n ≡ length text → drop n bytes ≡ rest
  behind_text text rest e m = ap (λ k. drop k bytes) m ∙ ap (drop (length text)) e ∙ drop-append_seam text rest

  cut_one : (text : List ℕ) → IsUtf8 text → bytes ≡ text ++ 0xEF ∷ [] → drop n bytes ≡ 0xEF ∷ []
  cut_one text u e = behind_text text (0xEF ∷ []) e (omega (arith, no_longer text (0xEF ∷ []) u e, valid.short, ap length e, length-append text (0xEF ∷ [])))

  cut_two : (text : List ℕ) → IsUtf8 text → bytes ≡ text ++ 0xEF ∷ 0xBF ∷ [] → drop n bytes ≡ 0xEF ∷ 0xBF ∷ []
  cut_two text u e =
      let rest : List ℕ = 0xEF ∷ 0xBF ∷ [] in
      let low = no_longer text rest u e in
      let high : n < length text + 2 = omega (arith, valid.short, ap length e, length-append text rest) in
      elim (cases_lt (length text) n) [
        | inl lt ↦
            let m : n ≡ length text + 1 = omega (arith, lt, high) in
            let front : take n bytes ≡ text ++ 0xEF ∷ [] = ap (λ k. take k bytes) m ∙ ap (take (length text + 1)) e ∙ take-append-add text rest 1 in
            absurd (not_text text u (subst IsUtf8 front valid.front))
        | inr le ↦ behind_text text rest e (omega (arith, low, le))
      ]

  -- if bytes are not UTF-8, they are a truncated string if and only if there are 15 and they end in part of U+FFFD
  pub cut_end : ¬ (IsUtf8 bytes) → IsCutText bytes ↔ ((length bytes ≡ 15) × IsCutReplacement (drop n bytes))
  cut_end not = (to, from)
    where
      to : IsCutText bytes → (length bytes ≡ 15) × IsCutReplacement (drop n bytes)
      to (inl u) = absurd (not u)
      to (inr (len, text, u, inl e)) = (len, inl (cut_one text u e))
      to (inr (len, text, u, inr e)) = (len, inr (cut_two text u e))

      from : (length bytes ≡ 15) × IsCutReplacement (drop n bytes) → IsCutText bytes
      from (len, inl e) = inr (len, take n bytes, valid.front, inl (sym (take-append-drop n bytes) ∙ ap (λ t. take n bytes ++ t) e))
      from (len, inr e) = inr (len, take n bytes, valid.front, inr (sym (take-append-drop n bytes) ∙ ap (λ t. take n bytes ++ t) e))

-- ---- the field

-- the first NUL of a name field follows the bytes of the name
first_nul : (bytes tail : List ℕ) (end : ℕ) → HasNoNul bytes → 0 < length tail → get_or tail 0 0 ≡ 0 → get_or (bytes ++ tail) end 0 ≡ 0 → ((k : ℕ) → k < end → get_or (bytes ++ tail) k 0 ≢ 0) → end ≡ length bytes
first_nul [] tail zero clean some nul at before = refl
first_nul [] tail (suc end) clean some nul at before = absurd (before 0 (omega arith) nul)
first_nul (b ∷ bytes) tail zero clean some nul at before = absurd (omega (arith, clean.0, at))
first_nul (b ∷ bytes) tail (suc end) clean some nul at before = ap suc (first_nul bytes tail end clean.1 some nul at (λ k lt. before (suc k) (omega arith)))

-- bytes before the first NUL have no NUL
clean_before : (bytes : List ℕ) → ((k : ℕ) → k < length bytes → get_or bytes k 0 ≢ 0) → HasNoNul bytes
clean_before [] h = tt
clean_before (b ∷ bytes) h = let ne = h 0 (omega arith) in (omega arith, clean_before bytes (λ k lt. h (suc k) (omega arith)))

-- a name field whose first NUL is at index `end`
module _ (field : List ℕ) (end : ℕ) (size : length field ≡ 16) (within : end < length field) (nul : get_or field end 0 ≡ 0) (before : (k : ℕ) → k < end → get_or field k 0 ≢ 0) where
  -- the bytes of the name are before the first NUL, and zeros follow from there
  name_at : (h : IsNameField field) → (take end field ≡ h.0) × (drop end field ≡ replicate (16 - length h.0) 0)
  name_at (bytes, is, short, clean, text) =
      let g = 16 - length bytes in
      let tail : List ℕ = replicate g 0 in
      let some : length tail ≡ g = length-replicate {A = ℕ} g 0 in
      let low : get_or tail 0 0 ≡ 0 = get_or-replicate {A = ℕ} g 0 0 0 (omega (arith, short)) in
      let at : get_or (bytes ++ tail) end 0 ≡ 0 = ap (λ s. get_or s end 0) (sym is) ∙ nul in
      let none = λ (k : ℕ) (lt : k < end) (e : get_or (bytes ++ tail) k 0 ≡ 0). before k lt (ap (λ s. get_or s k 0) is ∙ e) in
      let m : end ≡ length bytes = first_nul bytes tail end clean (omega (arith, some, short)) low at none in
      (ap (λ k. take k field) m ∙ ap (take (length bytes)) is ∙ take-append_seam bytes tail, ap (λ k. drop k field) m ∙ ap (drop (length bytes)) is ∙ drop-append_seam bytes tail)

  -- all bytes from there are zeros
  pub zeros_behind : IsNameField field → (k : ℕ) → k < length (drop end field) → get_or (drop end field) k 0 ≡ 0
  zeros_behind h k lt =
      let g = 16 - length h.0 in
      let is = (name_at h).1 in
      ap (λ t. get_or t k 0) is ∙ get_or-replicate {A = ℕ} g k 0 0 (omega (arith, lt, ap length is, length-replicate {A = ℕ} g 0))

  -- the bytes before it are the name
  pub name_before : IsNameField field → IsCutText (take end field)
  name_before (bytes, is, short, clean, text) = subst IsCutText (sym (name_at (bytes, is, short, clean, text)).0) text

  pub is_name : ((k : ℕ) → k < length (drop end field) → get_or (drop end field) k 0 ≡ 0) → IsCutText (take end field) → IsNameField field
  is_name each text =
      let bytes = take end field in
      let len : length bytes ≡ end = omega (arith, length-take end field, within) in
      let rest : drop end field ≡ replicate (16 - length bytes) 0 = zeros (drop end field) each ∙ ap (λ m. replicate m 0) (omega (arith, length-drop end field, len, size)) in
      let clean = clean_before bytes (λ k lt e. before k (omega (arith, lt, len)) (sym (get_or-take end field k 0 (omega (arith, lt, len))) ∙ e)) in
      (bytes, sym (take-append-drop end field) ∙ ap (λ t. bytes ++ t) rest, omega (arith, len, within, size), clean, text)

-- a name field has a NUL
pub name_nul : (field : List ℕ) → ((k : ℕ) → k < length field → get_or field k 0 ≢ 0) → ¬ (IsNameField field)
name_nul field none (bytes, is, short, clean, text) =
    let g = 16 - length bytes in
    let len : length field ≡ length bytes + g = omega (arith, ap length is, length-append bytes (replicate {A = ℕ} g 0), length-replicate {A = ℕ} g 0) in
    let nul : get_or (drop (length bytes) field) 0 0 ≡ 0 = ap (λ t. get_or t 0 0) (ap (drop (length bytes)) is ∙ drop-append_seam bytes (replicate g 0)) ∙ get_or-replicate {A = ℕ} g 0 0 0 (omega (arith, short)) in
    none (length bytes) (omega (arith, len, short)) (ap (λ i. get_or field i 0) (omega arith) ∙ sym (get_or-drop (length bytes) field 0 0) ∙ nul)
