-- Structs: what their fields hold is written as the bytes that were read.
use Rattle.std.proofs.Common.{◌≡◌, ℕ, ◌+◌, ◌≤◌, Bool, true, List, [], ◌∷◌, ◌++◌, length, take, drop, None, refl, sym, ap, ap₂, ◌∙◌, arith, length-take, length-drop}
use Rattle.std.specs.Prelude.{◌==◌}
use Rattle.std.specs.List.{list_all}
use Rattle.std.proofs.Math.Seq.{take-add}
use Rattle.std.proofs.lemmas.Bool.{and_parts, eqb-true}
use Rattle.link_base.specs.Number.{IsBytes}
use Rattle.link_base.specs.Class.{Extent, Exactly, Class, Unsigned, Signed, Octets, Named, size_of, length_cause, meant, written}
use Rattle.link_base.specs.Structs.{width_of, total, values_along, packed, is_exact, is_whole}
use Rattle.link_base.proofs.ClassLemmas.{tidy_iff, at_size, size_reached}
use Rattle.link_base.proofs.Values.{bytes-take, bytes-drop}

-- the bytes of an exact field are what is written for its value
exact_back : (c : Class) (p : List ℕ) → is_exact c ≡ true → IsBytes p → length p ≡ width_of c → written (meant c p) ≡ p
exact_back (Unsigned n) p is h e = (tidy_iff (Unsigned n) p h (at_size (Exactly n) (length p) e)).1 tt
exact_back Signed p is h e = (tidy_iff Signed p h (at_size (Exactly 4) (length p) e)).1 tt
exact_back (Named n listed) p is h e = (tidy_iff (Named n listed) p h (at_size (Exactly n) (length p) e)).1 tt
exact_back (Octets (Exactly n)) p is h e = (tidy_iff (Octets (Exactly n)) p h (at_size (Exactly n) (length p) e)).1 e
exact_back c p is h e = absurd cc

-- the bytes of exact fields are what is written for their values
fields_back : (classes : List Class) (p : List ℕ) → list_all is_exact classes ≡ true → IsBytes p → total classes ≤ length p → packed (values_along classes p) ≡ take (total classes) p
fields_back [] p h bytes le = refl
fields_back (c ∷ classes) p h bytes le =
    let n = width_of c in
    let k = and_parts (is_exact c) (list_all is_exact classes) h in
    let first = exact_back c (take n p) k.0 (bytes-take n p bytes) (omega (arith, le, length-take n p)) in
    let rest = fields_back classes (drop n p) k.1 (bytes-drop n p bytes) (omega (arith, le, length-drop n p)) in
    ap₂ (λ a b. a ++ b) first rest ∙ sym (take-add n (total classes) p)

-- fields that are all of a struct have as many bytes as it
pub whole_size : (classes : List Class) (n : ℕ) → is_whole classes n ≡ true → total classes ≡ n
whole_size classes n h = eqb-true (total classes) n (and_parts (list_all is_exact classes) (total classes == n) h).1

-- an accepted payload has all fields
pub whole_reached : (classes : List Class) (e : Extent) (got : ℕ) → is_whole classes (size_of e) ≡ true → length_cause e got ≡ None → total classes ≤ got
whole_reached classes e got h accepted = omega (arith, whole_size classes (size_of e) h, size_reached e got accepted)

-- the bytes of a struct are what is written for the values of its fields
pub struct_back : (classes : List Class) (e : Extent) (p : List ℕ) → is_whole classes (size_of e) ≡ true → IsBytes p → length_cause e (length p) ≡ None → packed (values_along classes p) ≡ take (size_of e) p
struct_back classes e p h bytes accepted =
    fields_back classes p (and_parts (list_all is_exact classes) (total classes == size_of e) h).0 bytes (whole_reached classes e (length p) h accepted)
    ∙ ap (λ n. take n p) (whole_size classes (size_of e) h)
