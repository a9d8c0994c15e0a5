-- Printed documents have no LF.
use Rattle.std.proofs.Common.{◌≡◌, ◌≢◌, ℕ, ◌+◌, ◌==◌, Bool, true, false, not, cond, ◌&&◌, ◌||◌, ◌/◌, ◌%◌, nat_lt, List, [], ◌∷◌, ◌++◌, drop, Option, Some, None, option_and_then, refl, sym, ap, subst, ◌∙◌, arith, one-add, codes}
use Rattle.std.specs.Char.{is_ascii_digit, digit_char}
use Rattle.std.specs.List.{AllByRecursion, list_all, prefix_len}
use Rattle.std.proofs.lemmas.Bool.{true≢false, and_parts, cond_both}
use Rattle.std.proofs.lemmas.Bool.Decides.{nat_tests}
use Rattle.json.specs.Json.{Json}
use Rattle.json.specs.Print.{IsNumber, IsPrintable, ArePrintable, escape_letter, escape_byte, escape, quoted, token_text, separator, begins, ends, print, print_from}
use Rattle.json.specs.Token.{Token, begin_object, end_object, begin_array, end_array, key, string, number, boolean, null, bad}
use Rattle.json.specs.Tree.{json_tokens, HasNumbers}
use Rattle.json.specs.Word.{head, after_digits, after_minus, after_sign, after_whole, after_fraction, after_exponent, after_number}
use Rattle.json.proofs.Printed.Trees.{ArePrintable-json_tokens}

-- no byte is LF
abbrev Unbroken : List ℕ → Type 0
Unbroken t = AllByRecursion (λ b. b ≢ 10) t

both : (a b : List ℕ) → Unbroken a → Unbroken b → Unbroken (a ++ b)
both [] b h k = k
both (x ∷ a) b h k = (h.0, both a b h.1 k)

-- literals
solid : (t : List ℕ) → list_all (λ b. not (b == 10)) t ≡ true → Unbroken t
solid [] h = tt
solid (x ∷ t) h = let p = and_parts (not (x == 10)) _ h in ((λ lf. true≢false (sym p.0 ∙ ap (λ b. not (b == 10)) lf)), solid t p.1)

-- ---- numbers

-- if what a part of a number leaves has no LF, the text before has none
abbrev Left : Option (List ℕ) → Type 0
Left None = ⊥
Left (Some r) = Unbroken r

abbrev Passes : List ℕ → Option (List ℕ) → Type 0
Passes t o = Left o → Unbroken t

-- one byte that passes a test
one : (p : ℕ → Bool) (t : List ℕ) → p 10 ≡ false → p (head t) ≡ true → Unbroken (drop 1 t) → Unbroken t
one p [] n e h = tt
one p (x ∷ xs) n e h = ((λ lf. true≢false (sym e ∙ ap p lf ∙ n)), h)

-- or none
optional : (p : ℕ → Bool) (t : List ℕ) → p 10 ≡ false → Unbroken (cond (p (head t)) (drop 1 t) t) → Unbroken t
optional p t n = cond_both (p (head t)) (drop 1 t) t (λ u. Unbroken u → Unbroken t) (one p t n) (λ e h. h)

run : (t : List ℕ) → Unbroken (drop (prefix_len is_ascii_digit t) t) → Unbroken t
run [] h = tt
run (x ∷ xs) h =
    cond_both (is_ascii_digit x) (1 + prefix_len is_ascii_digit xs) 0 (λ n. Unbroken (drop n (x ∷ xs)) → Unbroken (x ∷ xs)) (λ e k. one is_ascii_digit (x ∷ xs) refl e (run xs (rw one-add at k))) (λ e k. k) h

digits : (t : List ℕ) → Passes t (after_digits t)
digits t = cond_both (prefix_len is_ascii_digit t == 0) None _ (Passes t) (λ e h. absurd h) (λ e. run t)

whole : (t : List ℕ) → Passes t (after_whole t)
whole t = cond_both (head t == 48) (Some (drop 1 t)) _ (Passes t) (one (λ c. c == 48) t refl) (λ e. digits t)

fraction : (t : List ℕ) → Passes t (after_fraction t)
fraction t = cond_both (head t == 46) _ (Some t) (Passes t) (λ e h. one (λ c. c == 46) t refl e (digits (drop 1 t) h)) (λ e h. h)

exponent : (t : List ℕ) → Passes t (after_exponent t)
exponent t =
    let sign = λ (h : Unbroken (after_sign (drop 1 t))). optional (λ c. (c == 45) || (c == 43)) (drop 1 t) refl h in
    cond_both ((head t == 101) || (head t == 69)) _ (Some t) (Passes t) (λ e h. one (λ c. (c == 101) || (c == 69)) t refl e (sign (digits (after_sign (drop 1 t)) h))) (λ e h. h)

back : (f : List ℕ → Option (List ℕ)) → ((t : List ℕ) → Passes t (f t)) → (o : Option (List ℕ)) → Left (option_and_then f o) → Left o
back f p None h = h
back f p (Some t) h = p t h

number_unbroken : (s : List ℕ) → IsNumber s → Unbroken s
unfolding after_number
number_unbroken s h =
    let end : Left (after_number s) = subst Left (sym h) tt in
    optional (λ c. c == 45) s refl (whole (after_minus s) (back after_fraction fraction _ (back after_exponent exponent _ end)))

-- ---- strings

letter : (x : ℕ) → escape_letter x ≢ 10
letter x e = grind (arith, nat_tests)

digit : (n : ℕ) → digit_char n ≢ 10
digit n e = grind (arith, nat_tests)

byte : (x : ℕ) → Unbroken (escape_byte x)
unfolding escape_byte
byte x =
    let hex = codes "\\u00" in
    cond_both (nat_lt 0 (escape_letter x)) _ _ Unbroken (λ e. ((λ c. omega arith), (letter x, tt)))
    (λ e. cond_both (nat_lt x 32) _ _ Unbroken (λ f. both hex (digit_char (x / 16) ∷ digit_char (x % 16) ∷ []) (solid hex refl) (digit (x / 16), (digit (x % 16), tt)))
    (λ f. ((λ lf. true≢false (ap (λ y. nat_lt 0 (escape_letter y)) (sym lf) ∙ e)), tt)))

escaped : (s : List ℕ) → Unbroken (escape s)
escaped [] = tt
escaped (x ∷ s) = both (escape_byte x) (escape s) (byte x) (escaped s)

in_quotes : (s : List ℕ) → Unbroken (quoted s)
in_quotes s = ((λ e. omega arith), both (escape s) (codes "\"") (escaped s) (solid (codes "\"") refl))

-- ---- tokens

token : (t : Token) → IsPrintable t → Unbroken (token_text t)
token begin_object h = solid (codes "{") refl
token end_object h = solid (codes "}") refl
token begin_array h = solid (codes "[") refl
token end_array h = solid (codes "]") refl
token (key s) h = both (quoted s) (codes ":") (in_quotes s) (solid (codes ":") refl)
token (string s) h = in_quotes s
token (number s) h = number_unbroken s h
token (boolean true) h = solid (codes "true") refl
token (boolean false) h = solid (codes "false") refl
token null h = solid (codes "null") refl
token bad h = tt

printed : (after : Bool) (ts : List Token) → ArePrintable ts → Unbroken (print_from after ts)
unfolding ArePrintable print_from
printed after [] h = tt
printed after (t ∷ ts) h =
    let comma = cond_both (after && begins t) (codes ",") [] Unbroken (λ e. solid (codes ",") refl) (λ e. tt) in
    both (separator after t) (token_text t ++ print_from (ends t) ts) comma (both (token_text t) (print_from (ends t) ts) (token t h.0) (printed (ends t) ts h.1))

-- the text of a document whose numbers are numbers has no LF
pub text_unbroken : (j : Json) → HasNumbers j → AllByRecursion (λ b. b ≢ 10) (print (json_tokens j))
text_unbroken j h = printed false (json_tokens j) (ArePrintable-json_tokens j h)
