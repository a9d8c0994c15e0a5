-- The texts of documents are printable, and printable texts are UTF-8.
use Rattle.std.proofs.Common.{◌≡◌, ◌≢◌, ℕ, zero, suc, ◌/◌, ◌%◌, ◌<◌, Bool, true, false, List, [], ◌∷◌, refl, arith, map, length, slice_index, codes}
use Rattle.std.specs.Prelude.{IsUtf8}
use Rattle.std.specs.List.{list_all}
use Rattle.std.specs.Str.{is_utf8}
use Rattle.std.proofs.lemmas.Bool.{and_parts, cond-true, cond-false}
use Rattle.std.proofs.lemmas.Str.{IsUtf8-from_is_utf8, is_utf8-from_IsUtf8}
use Rattle.json.specs.Json.{string}
use Rattle.hex.specs.Hex.{encode_with, encode_lower, lower_digits}
use Rattle.link_base.specs.WellFormed.{is_printable}
use Rattle.link_show.specs.Octets.{byte_text, address_text}
use Rattle.link_show.specs.Printable.{IsText}
use Rattle.link_show.specs.Text.{joined}
use Rattle.link_show.proofs.Printing.{none, one}
use Rattle.link_json.specs.Value.{text_json, opaque_json}

-- ---- hexadecimal

all_at : (t : List ℕ) (i : ℕ) → list_all is_printable t ≡ true → i < length t → is_printable (slice_index t i) ≡ true
all_at [] i h k = absurd (omega (arith, k))
all_at (b ∷ t) zero h k = (and_parts (is_printable b) (list_all is_printable t) h).0
all_at (b ∷ t) (suc i) h k = all_at t i (and_parts (is_printable b) (list_all is_printable t) h).1 (omega (arith, k))

digit : (d : ℕ) → d < 16 → is_printable (slice_index lower_digits d) ≡ true
digit d h = all_at lower_digits d refl h

pub encoded_text : (bytes : List ℕ) → ((i : ℕ) → slice_index bytes i < 256) → IsText (encode_lower bytes)
unfolding encode_with
encoded_text [] h = none
encoded_text (b ∷ bytes) h = let k = h 0 in one (digit (b / 16) (omega (arith, k))) (one (digit (b % 16) (omega arith)) (encoded_text bytes (λ i. h (suc i))))

-- ---- addresses

pub some_octets : (bytes : List ℕ) → length bytes ≢ 0 → address_text bytes ≡ joined (codes ":") (map byte_text bytes)
some_octets [] h = absurd (h refl)
some_octets (b ∷ bytes) h = refl

-- ---- texts of any bytes

pub text_is_string : (t : List ℕ) → IsUtf8 t → text_json t ≡ string t
text_is_string t h = cond-true _ _ _ (is_utf8-from_IsUtf8 t h)

pub text_is_opaque : (t : List ℕ) → ¬ IsUtf8 t → text_json t ≡ opaque_json t
text_is_opaque t h = cond-false _ _ _ (unless (is_utf8 t) refl)
  where
    unless : (b : Bool) → is_utf8 t ≡ b → is_utf8 t ≡ false
    unless true e = absurd (h (IsUtf8-from_is_utf8 t e))
    unless false e = e
