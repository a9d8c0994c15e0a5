-- What is made of printable texts is printable.
use Rattle.std.proofs.Common.{ℤ, pos, negsuc, ◌≡◌, ℕ, zero, suc, ◌/◌, ◌%◌, ◌<◌, ◌==◌, Bool, true, false, ◌&&◌, List, [], ◌∷◌, ◌++◌, map, take, drop, if◌then◌else◌, refl, ap₂, ◌∙◌, arith, codes, bytes_eq, All, inl, inr}
use Rattle.std.specs.Fmt.{digits, digits_onto, digit_glyph, decimal, signed_decimal}
use Rattle.std.specs.List.{flat_map, list_all, AllByRecursion}
use Rattle.std.specs.Net.Addr.{octets_of, segments_of}
use Rattle.std.specs.Net.Text.{ipv4_text, ipv6_text, hex_groups_text}
use Rattle.std.proofs.lemmas.Bool.Decides.{nat_tests}
use Rattle.std.proofs.lemmas.List.Folds.{list_all-append}
use Rattle.std.proofs.NetLemmas.Alphabet.{IsHexOrColon, All-hex_groups_text}
use Rattle.std.proofs.NetLemmas.Texts.{AllSegments}
use Rattle.link_show.specs.Text.{after, joined, hex, list_text}
use Rattle.link_show.specs.Octets.{byte_text, hex_text, address_text, ip6_text}
use Rattle.link_base.specs.WellFormed.{is_printable}
use Rattle.link_show.specs.Quoted.{quoted_byte, quoted}
use Rattle.link_show.specs.Printable.{IsText}

-- ---- texts

pub text : {t : List ℕ} → list_all is_printable t ≡ true → IsText t
text h = record { printable = h }

pub none : IsText []
none = text refl

pub one : {b : ℕ} {t : List ℕ} → is_printable b ≡ true → IsText t → IsText (b ∷ t)
one h k = record { printable = ap₂ (λ a b. a && b) h k.printable }

pub and : {s t : List ℕ} → IsText s → IsText t → IsText (s ++ t)
and {s} {t} h k = record { printable = list_all-append is_printable s t ∙ ap₂ (λ a b. a && b) h.printable k.printable }

pub either : (b : Bool) {s t : List ℕ} → IsText s → IsText t → IsText (if b then s else t)
either true h k = h
either false h k = k

-- ---- several texts

pub after_text : (first separator : List ℕ) (texts : List (List ℕ)) → IsText first → IsText separator → AllByRecursion IsText texts → IsText (after first separator texts)
after_text first separator [] f s h = none
after_text first separator (t ∷ texts) f s h = and f (and h.0 (after_text separator separator texts s s h.1))

pub joined_text : (separator : List ℕ) (texts : List (List ℕ)) → IsText separator → AllByRecursion IsText texts → IsText (joined separator texts)
joined_text separator texts s h = after_text [] separator texts none s h

pub list_text_text : (separator : List ℕ) (texts : List (List ℕ)) → IsText separator → AllByRecursion IsText texts → IsText (list_text separator texts)
list_text_text separator [] s h = text refl
list_text_text separator (t ∷ texts) s h = joined_text separator (t ∷ texts) s h

module _ {X : Type 0} (f : X → List ℕ) (each : (x : X) → IsText (f x)) where
  pub mapped : (xs : List X) → AllByRecursion IsText (map f xs)
  mapped [] = tt
  mapped (x ∷ xs) = (each x, mapped xs)

  pub flat_text : (xs : List X) → IsText (flat_map f xs)
  flat_text [] = none
  flat_text (x ∷ xs) = and (each x) (flat_text xs)

-- ---- numbers

glyph : (d : ℕ) → d < 16 → is_printable (digit_glyph false d) ≡ true
glyph d h = grind (arith, nat_tests)

onto_text : (k base n : ℕ) (acc : List ℕ) → ((m : ℕ) → m % base < 16) → IsText acc → IsText (digits_onto k base false n acc)
onto_text zero base n acc h a = a
onto_text (suc k) base n acc h a = either (n / base == 0) (one (glyph (n % base) (h n)) a) (onto_text k base (n / base) (digit_glyph false (n % base) ∷ acc) h (one (glyph (n % base) (h n)) a))

digits_text : (base n : ℕ) → ((m : ℕ) → m % base < 16) → IsText (digits base false n)
unfolding digits
digits_text base n h = onto_text 64 base n [] h none

pub decimal_text : (n : ℕ) → IsText (decimal n)
decimal_text n = digits_text 10 n (λ m. omega arith)

pub hex_digits : (n : ℕ) → IsText (hex n)
hex_digits n = digits_text 16 n (λ m. omega arith)

pub signed_text : (z : ℤ) → IsText (signed_decimal z)
signed_text (pos n) = decimal_text n
signed_text (negsuc n) = one refl (decimal_text (suc n))

pub byte_digits : (b : ℕ) → IsText (byte_text b)
byte_digits b = and (hex_digits (b / 16)) (hex_digits (b % 16))

pub hex_bytes : (bytes : List ℕ) → IsText (hex_text bytes)
hex_bytes bytes = flat_text byte_text byte_digits bytes

pub address_digits : (bytes : List ℕ) → IsText (address_text bytes)
address_digits bytes = list_text_text (codes ":") (map byte_text bytes) (text refl) (mapped byte_text byte_digits bytes)

-- ---- quoted bytes

quoted_last : (b : ℕ) (p : Bool) → is_printable b ≡ p → IsText (if p then b ∷ [] else 92 ∷ 120 ∷ byte_text b)
quoted_last b true h = one h none
quoted_last b false h = one refl (one refl (byte_digits b))

quoted_byte_text : (b : ℕ) → IsText (quoted_byte b)
quoted_byte_text b = either (b == 34) (text refl) (either (b == 92) (text refl) (quoted_last b (is_printable b) refl))

pub quoted_text : (bytes : List ℕ) → IsText (quoted bytes)
quoted_text bytes = one refl (and (flat_text quoted_byte quoted_byte_text bytes) (text refl))

-- ---- IP addresses

pub ipv4_is_text : (octets : List ℕ) → IsText (ipv4_text octets)
ipv4_is_text octets =
    let dot : IsText (codes ".") = text refl in
    and (and (and (and (and (and (decimal_text _) dot) (decimal_text _)) dot) (decimal_text _)) dot) (decimal_text _)

from_hex : (b : ℕ) → IsHexOrColon b → is_printable b ≡ true
from_hex b (inl h) = grind (arith, nat_tests)
from_hex b (inr h) = grind (arith, nat_tests)

from_all : (t : List ℕ) → All IsHexOrColon t → IsText t
from_all [] h = none
from_all (b ∷ t) h = one (from_hex b (h 0 0 (omega arith))) (from_all t (λ i d l. h (suc i) d (omega (arith, l))))

in_ipv6 : (octets : List ℕ) → IsText (codes "::ffff:" ++ ipv4_text octets)
in_ipv6 octets = and {s = codes "::ffff:"} (text refl) (ipv4_is_text octets)

segments_bound : (bytes : List ℕ) → AllSegments (segments_of (map (λ b. b % 256) bytes))
segments_bound [] k = omega arith
segments_bound (a ∷ []) k = omega arith
segments_bound (a ∷ b ∷ bytes) zero = omega arith
segments_bound (a ∷ b ∷ bytes) (suc k) = segments_bound bytes k

pub ip6_is_text : (bytes : List ℕ) → IsText (ip6_text bytes)
unfolding ipv6_text
ip6_is_text bytes =
    let segments = segments_of (map (λ b. b % 256) bytes) in
    either (bytes_eq (take 6 segments) (0 ∷ 0 ∷ 0 ∷ 0 ∷ 0 ∷ 0xffff ∷ [])) (in_ipv6 (octets_of (drop 6 segments)))
    (from_all (hex_groups_text segments) (All-hex_groups_text segments (segments_bound bytes)))
