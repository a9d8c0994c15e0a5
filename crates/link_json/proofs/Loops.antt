-- Loops that write tokens: what is written and what is left are the whole.
use Rattle.std.proofs.Common.{◌≡◌, ◌≢◌, ℕ, ◌+◌, ◌-◌, ◌*◌, ◌<◌, ◌≤◌, ◌==◌, true, false, true≢false, eqb-true, not, List, [], ◌∷◌, ◌++◌, map, drop, length, refl, ap, sym, ◌∙◌, arith, slice_index_or, bit_and, append_assoc, Result, Ok, Err, OnOk}
use Rattle.std.proofs.lemmas.Bool.{cond-true, cond-false, eq-eqb, ne_eqb}
use Rattle.std.proofs.lemmas.List.{at_drop_more, at_drop_all}
use Rattle.json.specs.Token.{Token, string, key, end_array}
use Rattle.json.specs.Json.{string as string_json}
use Rattle.json.specs.Tree.{json_tokens, items_tokens, members_tokens}
use Rattle.link_base.specs.declared.rows.label.Name.{Name}
use Rattle.link_base.specs.declared.rows.form.ArrayOf.{ArrayOf}
use Rattle.link_base.specs.Forms.{size_in}
use Rattle.link_base.specs.Labels.{names_in, name_in}
use Rattle.link_base.specs.Layout.{number_at, numbers_at}
use Rattle.link_show.proofs.Arrays.{numbers_more}
use Rattle.link_show.specs.Flags.{set_names}
use Rattle.link_json.specs.Doc.{items_of, members_of, object_of, array_of}
use Rattle.link_json.specs.Value.{names_json, item_json, place_key, places_json, numbers_json}

pub on_ok : {X E : Type 0} {P Q : Type 0} (r : Result X E) → (P → Q) → OnOk r P → OnOk r Q
on_ok (Ok x) f h = f h
on_ok (Err e) f h = tt

-- a piece of what is left is written
pub moved : (old mid new whole left next piece : List Token) → mid ++ left ≡ old ++ whole → left ≡ piece ++ next → new ≡ mid ++ piece → new ++ next ≡ old ++ whole
moved old mid new whole left next piece before cut wrote =
    ap (λ t. t ++ next) wrote ∙ append_assoc mid piece next ∙ ap (λ t. mid ++ t) (sym cut) ∙ before

-- what is left is written
pub all_moved : (old mid new whole left piece : List Token) → mid ++ left ≡ old ++ whole → left ≡ piece → new ≡ mid ++ piece → new ≡ old ++ whole
all_moved old mid new whole left piece before cut wrote = wrote ∙ ap (λ t. mid ++ t) (sym cut) ∙ before

-- likewise, unless the call failed
pub all_moved_then : {X E : Type 0} (r : Result X E) (old mid new whole left piece : List Token) → mid ++ left ≡ old ++ whole → left ≡ piece → OnOk r (new ≡ mid ++ piece) → OnOk r (new ≡ old ++ whole)
all_moved_then (Ok x) old mid new whole left piece before cut wrote = all_moved old mid new whole left piece before cut wrote
all_moved_then (Err e) old mid new whole left piece before cut wrote = wrote

-- ---- names of bits

-- the tokens of the names that are left
abbrev pub names_left : List Name → ℕ → ℕ → List Token
names_left xs bits i = items_tokens (items_of (names_json (names_in (drop i xs)) bits))

-- the names from one on, if its bit is set, and if not
set_more : (x : Name) (xs : List Name) (bits : ℕ) → bit_and bits x.number ≢ 0 → set_names (names_in (x ∷ xs)) bits ≡ (x.number, x.text.now) ∷ set_names (names_in xs) bits
set_more x xs bits h = cond-true _ _ _ (ap not (ne_eqb _ _ h))

set_other : (x : Name) (xs : List Name) (bits : ℕ) → bit_and bits x.number ≡ 0 → set_names (names_in (x ∷ xs)) bits ≡ set_names (names_in xs) bits
set_other x xs bits h = cond-false _ _ _ (ap not (eq-eqb _ _ h))

pub name_more : (xs : List Name) (i bits : ℕ) (d : Name) → i < length xs → bit_and bits (slice_index_or xs i d).number ≢ 0
    → names_left xs bits i ≡ string (slice_index_or xs i d).text.now ∷ names_left xs bits (i + 1)
name_more xs i bits d lt h =
    at_drop_more (λ ys. items_tokens (items_of (names_json (names_in ys) bits))) xs i d lt
    ∙ ap (λ ns. items_tokens (items_of (map (λ n. string_json n.1) ns))) (set_more (slice_index_or xs i d) (drop (i + 1) xs) bits h)

pub name_other : (xs : List Name) (i bits : ℕ) (d : Name) → i < length xs → bit_and bits (slice_index_or xs i d).number ≡ 0 → names_left xs bits i ≡ names_left xs bits (i + 1)
name_other xs i bits d lt h =
    at_drop_more (λ ys. items_tokens (items_of (names_json (names_in ys) bits))) xs i d lt
    ∙ ap (λ ns. items_tokens (items_of (map (λ n. string_json n.1) ns))) (set_other (slice_index_or xs i d) (drop (i + 1) xs) bits h)

pub names_done : (xs : List Name) (i bits : ℕ) → length xs ≤ i → names_left xs bits i ≡ end_array ∷ []
names_done xs i bits none = at_drop_all (λ ys. items_tokens (items_of (names_json (names_in ys) bits))) xs i none

-- ---- arrays of numbers

pub without_names : (a : ArrayOf) (names : List Name) (ns : List ℕ) → (length names == 0) ≡ true → numbers_json (names_in names) a ns ≡ array_of (map (item_json a) ns)
without_names a [] ns h = refl
without_names a (x ∷ names) ns h = absurd (omega (arith, eqb-true (length (x ∷ names)) 0 h))

pub with_names : (a : ArrayOf) (names : List Name) (ns : List ℕ) → (length names == 0) ≡ false → numbers_json (names_in names) a ns ≡ object_of (places_json (names_in names) a 0 ns)
with_names a [] ns h = absurd (true≢false h)
with_names a (x ∷ names) ns h = refl

-- the tokens of the numbers that are left
abbrev pub numbers_left : ArrayOf → ℕ → ℕ → List ℕ → List Token
numbers_left a n i p = items_tokens (items_of (map (item_json a) (numbers_at (size_in a) (n - i) (i * size_in a) p)))

pub number_more : (a : ArrayOf) (n i : ℕ) (p : List ℕ) → i < n → numbers_left a n i p ≡ json_tokens (item_json a (number_at (size_in a) (i * size_in a) p)) ++ numbers_left a n (i + 1) p
number_more a n i p h = ap (λ ns. items_tokens (items_of (map (item_json a) ns))) (numbers_more (size_in a) n i p h)

-- ---- arrays whose places have names

-- the tokens of the members that are left
abbrev pub places_left : List (ℕ × List ℕ) → ArrayOf → ℕ → ℕ → List ℕ → List Token
places_left names a n i p = members_tokens (members_of (places_json names a i (numbers_at (size_in a) (n - i) (i * size_in a) p)))

-- the tokens of one
abbrev pub place_tokens : List (ℕ × List ℕ) → ArrayOf → ℕ → List ℕ → List Token
place_tokens names a i p = key (place_key i (name_in names i)) ∷ json_tokens (item_json a (number_at (size_in a) (i * size_in a) p))

pub place_more : (names : List (ℕ × List ℕ)) (a : ArrayOf) (n i : ℕ) (p : List ℕ) → i < n → places_left names a n i p ≡ place_tokens names a i p ++ places_left names a n (i + 1) p
place_more names a n i p h = ap (λ ns. members_tokens (members_of (places_json names a i ns))) (numbers_more (size_in a) n i p h)
