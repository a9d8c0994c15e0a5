-- Bytes at an offset in a list: the payloads of its attributes, and of their elements.
use Rattle.std.proofs.Common.{◌≡◌, ℕ, ◌+◌, ◌-◌, ◌≤◌, min, List, ◌++◌, length, take, drop, refl, sym, ap, ◌∙◌, arith, take_all, take_at, take-take, drop-drop}
use Rattle.std.proofs.lemmas.List.{append-nil, length-drop, drop-take}
use Rattle.link_base.specs.declared.wire.buffer.NlaBuffer.{NlaBuffer}
use Rattle.link_base.specs.Frame.{pad}
use Rattle.link_base.specs.Buffer.{SplitsFirst, payload_of}
use Rattle.link_messages.proofs.Walking.{split_short}

-- the bytes p are at this offset
pub record Located (list : List ℕ) (at : ℕ) (p : List ℕ) : Type 0 where
  pub within : at + length p ≤ length list
  pub is : take (length p) (drop at list) ≡ p

-- bytes in these bytes
pub located_in : (list p q : List ℕ) (at m : ℕ) → Located list at p → Located p m q → Located list (at + m) q
located_in list p q at m h k =
    let rest = drop at list in
    let n = length q in
    let moved : drop (at + m) list ≡ drop m rest = sym (drop-drop m at list) in
    record {
      within = omega (arith, h.within, k.within);
      is =
          ap (take n) moved ∙ sym (drop-take m n rest) ∙ ap (drop m) (sym (take-take (m + n) (length p) rest k.within)) ∙ ap (λ t. drop m (take (m + n) t)) h.is
          ∙ drop-take m n p ∙ k.is;
    }

-- the payload of the first attribute
first_payload : (s : List ℕ) (b : NlaBuffer) (u : List ℕ) → SplitsFirst s b u → Located s 4 (payload_of b)
first_payload s b u h =
    let p = payload_of b in
    let rest = h.0.rest in
    record {
      within = (split_short s b u h).0;
      is = ap (λ t. take (length p) (drop 4 t)) h.0.string ∙ ap (λ t. take (length p) (t ++ rest)) (append-nil p) ∙ take_at p rest (length p) refl;
    }

-- the end of a list
pub record Suffix (list s : List ℕ) : Type 0 where
  pub low : length s ≤ length list
  pub is : drop (length list - length s) list ≡ s

pub suffix_whole : (list : List ℕ) → Suffix list list
suffix_whole list = let none : length list - length list ≡ 0 = omega arith in record { low = omega arith; is = ap (λ n. drop n list) none }

-- the payload of its first attribute, and what follows that
pub suffix_payload : (list s : List ℕ) (b : NlaBuffer) (u : List ℕ) → Suffix list s → SplitsFirst s b u → Located list (length list - length s + 4) (payload_of b)
suffix_payload list s b u h split =
    let here : Located list (length list - length s) s = record { within = omega (arith, h.low); is = ap (take (length s)) h.is ∙ take_all (length s) s (omega arith) } in
    located_in list s (payload_of b) (length list - length s) 4 here (first_payload s b u split)

pub suffix_rest : (list s : List ℕ) (b : NlaBuffer) (u : List ℕ) → Suffix list s → SplitsFirst s b u → Suffix list u
suffix_rest list s b u h split =
    let k = min (pad (4 + length (payload_of b))) (length s) in
    let size : length u ≡ length s - k = ap length split.1 ∙ length-drop k s in
    let place : length list - length u ≡ length list - length s + k = omega (arith, size, h.low) in
    record {
      low = omega (arith, size, h.low);
      is = ap (λ n. drop n list) place ∙ sym (drop-drop k (length list - length s) list) ∙ ap (drop k) h.is ∙ sym split.1;
    }
