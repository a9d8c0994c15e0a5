-- Consecutive numbers of one width, parsed and written one at a time.
use Rattle.std.proofs.Common.{◌≡◌, ℕ, zero, suc, ◌+◌, ◌-◌, ◌*◌, ◌≤◌, ◌<◌, List, [], ◌∷◌, ◌++◌, length, map, take, drop, get_or, sym, ap, ap₂, subst, ◌∙◌, arith, length-append, drop-drop}
use Rattle.std.proofs.Math.Nat.{mul-suc}
use Rattle.std.proofs.Math.Seq.{take-add}
use Rattle.std.proofs.lemmas.List.{append-nil, map-append, take_all, take_more, take-append-drop, length-take}
use Rattle.std.proofs.lemmas.Grind.{flat_map-append}
use Rattle.std.proofs.lemmas.List.Folds.{flat_map-map}
use borrow.Rule.Slice.PartMut.{put_mid}
use Rattle.link_base.specs.Number.{number, bytes_of}
use Rattle.link_base.specs.Held.{IsOctets}
use Rattle.link_base.specs.Answers.{OverwritesFront}
use Rattle.link_base.specs.Layout.{number_at, numbers_at, octets_of, octets_by}
use Rattle.link_base.proofs.Numbers.{length-bytes_of, IsBytes-bytes_of}
use Rattle.link_base.proofs.FrameBytes.{bytes-append}
use Rattle.link_base.proofs.Emit.{frame_after}

-- n numbers take `width * n` bytes, and are written as bytes
pub IsOctets-numbers : {A : Type 0} (width : ℕ) (value : A → ℕ) (xs : List A) → IsOctets (width * length xs) (octets_by width value xs)
IsOctets-numbers width value [] = (omega arith, tt)
IsOctets-numbers width value (x ∷ xs) =
    let first = bytes_of width (value x) in
    let rest = IsOctets-numbers width value xs in (
      omega (arith, length-append first (octets_by width value xs), length-bytes_of width (value x), rest.0, mul-suc width (length xs)),
      bytes-append first (octets_by width value xs) (IsBytes-bytes_of width (value x)) rest.1,
    )

-- the number of bytes of values that are numbers
pub values_len : {A : Type 0} (width : ℕ) (value : A → ℕ) (xs : List A) → length (octets_by width value xs) ≡ width * length xs
values_len width value xs = (IsOctets-numbers width value xs).0

-- the number of bytes of consecutive numbers
pub numbers_len : (width : ℕ) (xs : List ℕ) → length (octets_of width xs) ≡ width * length xs
numbers_len width xs = (IsOctets-numbers width (λ n. n) xs).0

module _ (width : ℕ) where
  -- ---- parsing

  -- one more number
  numbers_more : (n offset : ℕ) (p : List ℕ) → numbers_at width (suc n) offset p ≡ numbers_at width n offset p ++ number_at width (offset + width * n) p ∷ []
  numbers_more zero offset p = let here : offset ≡ offset + width * 0 = omega arith in ap (λ at. number_at width at p ∷ []) here
  numbers_more (suc n) offset p =
      let there : offset + width + width * n ≡ offset + width * suc n = omega (arith, mul-suc width n) in
      ap (λ rest. number_at width offset p ∷ rest) (numbers_more n (offset + width) p ∙ ap (λ at. numbers_at width n (offset + width) p ++ number_at width at p ∷ []) there)

  -- the bytes after one more number
  octets_more : (xs : List ℕ) (x i offset : ℕ) (p : List ℕ) → octets_of width xs ≡ take (width * i) (drop offset p) → bytes_of width x ≡ take width (drop (offset + width * i) p)
      → octets_of width (xs ++ x ∷ []) ≡ take (width * suc i) (drop offset p)
  octets_more xs x i offset p so_far next =
      let q = drop offset p in
      flat_map-append (bytes_of width) xs (x ∷ []) ∙ ap₂ (λ a b. a ++ b) so_far (append-nil (bytes_of width x) ∙ next ∙ ap (take width) (sym (drop-drop (width * i) offset p)))
      ∙ sym (take-add (width * i) width q) ∙ ap (λ n. take n q) (sym (mul-suc width i))

  -- the first i numbers from an offset, and their bytes
  pub record AreRead (i offset : ℕ) (p xs : List ℕ) : Type 0 where
    pub value : xs ≡ numbers_at width i offset p
    pub octets : octets_of width xs ≡ take (width * i) (drop offset p)

  -- no number has been parsed yet
  pub read_none : (offset : ℕ) (p xs : List ℕ) → xs ≡ [] → AreRead 0 offset p xs
  read_none offset p xs e =
      let nothing : 0 ≡ width * 0 = omega arith in
      record { value = e; octets = ap (octets_of width) e ∙ ap (λ n. take n (drop offset p)) nothing }

  -- one more number has been parsed
  pub read_more : (i offset at : ℕ) (p xs ys : List ℕ) (x : ℕ) → at ≡ offset + width * i → x ≡ number_at width at p → bytes_of width x ≡ take width (drop at p)
      → ys ≡ xs ++ x ∷ [] → AreRead i offset p xs → AreRead (i + 1) offset p ys
  read_more i offset at p xs ys x place value octets more so_far =
      let here = subst (λ n. x ≡ number_at width n p) place value in
      let bytes = subst (λ n. bytes_of width x ≡ take width (drop n p)) place octets in
      let next : suc i ≡ i + 1 = omega arith in
      subst (λ n. AreRead n offset p ys) next (record {
        value = more ∙ ap₂ (λ zs z. zs ++ z ∷ []) so_far.value here ∙ sym (numbers_more i offset p);
        octets = ap (octets_of width) more ∙ octets_more xs x i offset p so_far.octets bytes;
      })

module _ {A : Type 0} (width : ℕ) (value : A → ℕ) where
  -- ---- parsing

  -- one more value has been parsed
  pub value_read : (i size : ℕ) (p : List ℕ) (xs ys : List A) (x : A) → size ≡ width → value x ≡ number (take (size * i + size - size * i) (drop (size * i) p))
      → bytes_of width (value x) ≡ take (size * i + size - size * i) (drop (size * i) p) → ys ≡ xs ++ x ∷ [] → AreRead width i 0 p (map value xs) → AreRead width (i + 1) 0 p (map value ys)
  value_read i size p xs ys x e stated octets more so_far =
      let at : size * i ≡ 0 + width * i = omega (arith, ap (λ n. n * i) e) in
      let len : size * i + size - size * i ≡ width = omega (arith, e) in
      read_more width i 0 (size * i) p (map value xs) (map value ys) (value x) at
      (stated ∙ ap (λ n. number (take n (drop (size * i) p))) len) (octets ∙ ap (λ n. take n (drop (size * i) p)) len)
      (ap (map value) more ∙ map-append value xs (x ∷ [])) so_far

  -- all of them have been parsed
  pub values_read : (i : ℕ) (p : List ℕ) (xs : List A) → width * i ≡ length p → AreRead width i 0 p (map value xs) → octets_by width value xs ≡ p
  values_read i p xs whole all = sym (flat_map-map (bytes_of width) value xs) ∙ all.octets ∙ take_all (width * i) p (omega (arith, whole))

  -- ---- writing

  -- the bytes after one more number of a list
  octets_taken : (xs : List A) (i : ℕ) (x : A) → i < length xs → x ≡ get_or xs i x → octets_by width value (take (i + 1) xs) ≡ octets_by width value (take i xs) ++ bytes_of width (value x)
  octets_taken xs i x lt is =
      let text = octets_by width value (take i xs) in
      ap (octets_by width value) (take_more xs i x lt ∙ ap (λ y. take i xs ++ y ∷ []) (sym is)) ∙ flat_map-append (λ y. bytes_of width (value y)) (take i xs) (x ∷ [])
      ∙ ap (λ t. text ++ t) (append-nil (bytes_of width (value x)))

  -- the bytes of the first numbers of a list are no longer than those of all
  octets_room : (xs : List A) (i : ℕ) → length (octets_by width value (take i xs)) ≤ width * length xs
  octets_room xs i =
      let front = take i xs in
      let back = drop i xs in
      let all = ap (octets_by width value) (sym (take-append-drop i xs)) ∙ flat_map-append (λ y. bytes_of width (value y)) front back in
      omega (arith, ap length all, length-append (octets_by width value front) (octets_by width value back), (IsOctets-numbers width value xs).0)

  -- the buffer after one more number
  pub number_after : (b0 b b' sub : List ℕ) (xs : List A) (i at : ℕ) (x : A) → i < length xs → x ≡ get_or xs i x → width * length xs ≤ length b0 → at ≡ width * i
      → OverwritesFront b0 b (octets_by width value (take i xs)) → OverwritesFront (take (length b - at) (drop at b)) sub (bytes_of width (value x))
      → b' ≡ put_mid at (length b - at) b sub → OverwritesFront b0 b' (octets_by width value (take (i + 1) xs))
  number_after b0 b b' sub xs i at x lt is room place so_far here e =
      let text = octets_by width value (take i xs) in
      let bytes = bytes_of width (value x) in
      let more = octets_taken xs i x lt is in
      let taken : length (take i xs) ≡ i = omega (arith, length-take i xs) in
      let size = (IsOctets-numbers width value (take i xs)).0 ∙ ap (λ n. width * n) taken in
      let fits : length text + length bytes ≤ length b0 = omega (arith, room, ap length more, length-append text bytes, octets_room xs (i + 1)) in
      rw more (frame_after b0 b b' text bytes sub at so_far (place ∙ sym size) fits here e)
