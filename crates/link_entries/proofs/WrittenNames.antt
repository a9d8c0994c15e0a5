-- The name field of a CAN controller, one character after another.
use Rattle.std.proofs.Common.{◌≡◌, inl, inr, ℕ, ◌+◌, ◌-◌, ◌≤◌, min, List, [], ◌++◌, length, take, drop, replicate, sym, ap, ap₂, ◌∙◌, arith, append_assoc, length-append, length-take, take_all, take_at}
use Rattle.std.proofs.lemmas.Bool.{cases_lt}
use Rattle.std.proofs.lemmas.List.{append-nil, nil_from_length, length-drop, take-append-le, drop-replicate}
use Rattle.std.proofs.Math.Seq.{take-append-add, drop-append-add}
use borrow.Rule.Slice.PartMut.{put_mid}
use Rattle.link_base.specs.Name.{name_field}

-- 15 bytes of a text and of what follows it
cut_more : (done text : List ℕ) → take 15 done ++ take (15 - min (length done) 15) text ≡ take 15 (done ++ text)
cut_more done text =
    elim (cases_lt (length done) 15) [
      | inl short ↦
          let left : 15 - min (length done) 15 ≡ 15 - length done = omega arith in
          let all : length done + (15 - length done) ≡ 15 = omega arith in
          ap₂ (λ a n. a ++ take n text) (take_all 15 done (omega arith)) left ∙ sym (take-append-add done text (15 - length done)) ∙ ap (λ n. take n (done ++ text)) all
      | inr long ↦
          let none : 15 - min (length done) 15 ≡ 0 = omega arith in
          ap (λ n. take 15 done ++ take n text) none ∙ append-nil (take 15 done) ∙ sym (take-append-le 15 done text long)
    ]

-- the zeros after a name
zeros_behind : (front : List ℕ) (n : ℕ) → length front ≤ n → drop n (front ++ replicate (16 - length front) 0) ≡ replicate (16 - n) 0
zeros_behind front n low =
    let k = n - length front in
    let place : length front + k ≡ n = omega (arith, low) in
    let left : 16 - length front - k ≡ 16 - n = omega (arith, low) in
    ap (λ i. drop i (front ++ replicate (16 - length front) 0)) (sym place) ∙ drop-append-add front (replicate (16 - length front) 0) k ∙ drop-replicate k (16 - length front) 0 ∙ ap (λ i. replicate i 0) left

zeros_after : (done : List ℕ) (n : ℕ) → min (length done) 15 ≤ n → drop n (name_field done) ≡ replicate (16 - n) 0
zeros_after done n low = zeros_behind (take 15 done) n (omega (arith, length-take 15 done, low))

-- more text in a name
pub name_more : (name done text : List ℕ) (end next : ℕ) → name ≡ name_field done → end ≡ min (length done) 15 → next ≡ min (end + length text) 15
    → take end name ++ (take (15 - end) text ++ drop next name) ≡ name_field (done ++ text)
name_more name done text end next is e-end e-next =
    let front = take 15 done in
    let zeros : List ℕ = replicate (16 - length front) 0 in
    let size : length front ≡ end = omega (arith, length-take 15 done, e-end) in
    let kept : take end name ≡ front = ap (take end) is ∙ take_at front zeros end size in
    let added : take (15 - end) text ≡ take (15 - min (length done) 15) text = ap (λ n. take (15 - n) text) e-end in
    let rest : drop next name ≡ replicate (16 - next) 0 = ap (drop next) is ∙ zeros_after done next (omega (arith, e-end, e-next)) in
    let whole = take 15 (done ++ text) in
    let count : length whole ≡ next = omega (arith, length-take 15 (done ++ text), length-append done text, e-end, e-next) in
    ap₂ (λ a t. a ++ t) kept (ap₂ (λ a b. a ++ b) added rest) ∙ sym (append_assoc front (take (15 - min (length done) 15) text) (replicate (16 - next) 0))
    ∙ ap₂ (λ a n. a ++ replicate n 0) (cut_more done text) (ap (λ n. 16 - n) (sym count))

-- two parts of an array
pub put_back : (front back zeros : List ℕ) → length front ≡ 16 → length zeros ≡ 32 → put_mid 16 32 (front ++ zeros) back ≡ front ++ back
put_back front back zeros a z =
    let all = front ++ zeros in
    let past : drop 32 (drop 16 all) ≡ [] = nil_from_length (drop 32 (drop 16 all)) (omega (arith, length-drop 32 (drop 16 all), length-drop 16 all, length-append front zeros, a, z)) in
    ap₂ (λ f g. f ++ (back ++ g)) (take_at front zeros 16 a) past ∙ ap (λ t. front ++ t) (append-nil back)

-- likewise, as it is stored
pub name_stored : (name new done text bytes : List ℕ) (end next : ℕ) → name ≡ name_field done → end ≡ min (length done) 15 → bytes ≡ text → next ≡ min (end + length bytes) 15
    → new ≡ take end name ++ (take (15 - end) bytes ++ drop next name) → (new ≡ name_field (done ++ text)) × (next ≡ min (length (done ++ text)) 15)
name_stored name new done text bytes end next is e-end same e-next stored =
    let count : next ≡ min (end + length text) 15 = e-next ∙ ap (λ b. min (end + length b) 15) same in (
      stored ∙ ap (λ b. take end name ++ (take (15 - end) b ++ drop next name)) same ∙ name_more name done text end next is e-end count,
      omega (arith, count, e-end, length-append done text),
    )
