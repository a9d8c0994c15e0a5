-- Parts of a list.
use Rattle.std.proofs.Common.{◌≡◌, ◌+◌, List, [], ◌++◌, length, ap, sym, ◌∙◌, arith, append_assoc}
use Rattle.std.proofs.lemmas.List.{append-nil, length-append}
use Rattle.std.specs.Prelude.{ℕ}
use Rattle.link_messages.specs.Finding.{Stretch}

-- the bytes of the second are among those of the first, at its offset
pub record IsWithin (whole part : Stretch) : Type 0 where
  pub before : List ℕ
  pub after : List ℕ
  pub bytes : whole.1 ≡ before ++ (part.1 ++ after)
  pub at : part.0 ≡ whole.0 + length before

pub within_self : (whole : Stretch) → IsWithin whole whole
within_self whole = record { before = []; after = []; bytes = sym (append-nil whole.1); at = omega arith }

-- a part of a part
pub within_part : (whole part inner : Stretch) → IsWithin whole part → IsWithin part inner → IsWithin whole inner
within_part whole part inner h k =
    let joined : h.before ++ ((k.before ++ (inner.1 ++ k.after)) ++ h.after) ≡ (h.before ++ k.before) ++ (inner.1 ++ (k.after ++ h.after)) = simp append_assoc in
    record {
      before = h.before ++ k.before;
      after = k.after ++ h.after;
      bytes = h.bytes ∙ ap (λ p. h.before ++ (p ++ h.after)) k.bytes ∙ joined;
      at = omega (arith, h.at, k.at, length-append h.before k.before);
    }
