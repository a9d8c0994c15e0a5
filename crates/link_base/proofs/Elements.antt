-- Nested lists: their attributes decode, by the table of the nested list.
use Rattle.std.proofs.Common.{◌≡◌, ℕ, Bool, List, [], ◌∷◌, map, Option, Some, None, Result, Ok, Err, Bor, sym, ap, subst, ◌∙◌}
use Rattle.std.specs.List.{AllZip}
use Rattle.link_base.specs.declared.views.content.Content.TheVariants as borrowed
use Rattle.link_base.specs.declared.wire.fault.DecodeFault.{DecodeFault}
use Rattle.link_base.specs.Class.{Class, Unsigned, class_value}
use Rattle.link_base.specs.Frame.{Frame, kind_of}
use Rattle.link_base.specs.Wire.{Reads}
use Rattle.link_base.specs.Lift.{lift, lift_table}
use Rattle.link_base.specs.Table.{Rows, Shape, One, Nested, Addresses, Table, Leaf, AttrValue, class_at, Gives, GivesBy, LeafGives, Inner, Decodes, list_case, leaf_by}
use Rattle.link_base.specs.Borrowed.{HasValue, HasValues, Borrows, elements_by, elements_at}
use Rattle.link_base.proofs.Lifted.{lift_option, class_at-lift, leaf_is}

-- ---- one attribute

abbrev lift_result : Result Leaf DecodeFault → Result AttrValue DecodeFault
lift_result (Ok v) = Ok (lift v)
lift_result (Err c) = Err c

lift_by : (o : Option Class) (f : ℕ) (p : List ℕ) (r : Result Leaf DecodeFault) → r ≡ leaf_by o f p → GivesBy (lift_option o) f p (lift_result r)
lift_by None f p r e = ap lift_result e
lift_by (Some c) f p r e = ap lift_result e ∙ sym (leaf_is (kind_of f) (class_value c p))

lifted : (rows : Rows) (f : ℕ) (p : List ℕ) (v : Leaf) → LeafGives rows f p (Ok v) → Gives (lift_table rows) f p (Ok (lift v))
lifted rows f p v given =
    subst (λ (o : Option Shape). GivesBy o f p (Ok (lift v))) (sym (class_at-lift rows (kind_of f))) (lift_by (class_at rows (kind_of f)) f p (Ok v) given)

lifted_each : (rows : Rows) (xs : List Frame) (vs : List Leaf) → AllZip (λ x v. LeafGives rows x.kind_field x.payload (Ok v)) xs vs
    → AllZip (λ x v. Gives (lift_table rows) x.kind_field x.payload (Ok v)) xs (map lift vs)
lifted_each rows [] [] h = tt
lifted_each rows [] (v ∷ vs) h = absurd h
lifted_each rows (x ∷ xs) [] h = absurd h
lifted_each rows (x ∷ xs) (v ∷ vs) h = (lifted rows x.kind_field x.payload v h.0, lifted_each rows xs vs h.1)

-- ---- a nested list

lifted_list : (rows : Rows) (flagged : Bool) (k : ℕ) (p : List ℕ) (v : AttrValue) (q : Result (List Leaf) (ℕ × DecodeFault)) → Reads (LeafGives rows) p q
    → Ok v ≡ list_case (Inner flagged) k q → Decodes (lift_table rows) p
lifted_list rows flagged k p v (Err e) h is = absurd cc
lifted_list rows flagged k p v (Ok vs) h is = record { values = map lift vs; wire = record { frames = h.frames; string = h.string; values = lifted_each rows h.frames vs h.values } }

no_list : (c : Class) (p : List ℕ) (bytes : Bor (List ℕ)) (stated : Bool) → Borrows (Some (One c)) p (borrowed.List bytes stated) → ⊥
no_list (Unsigned n) p bytes stated h = h
no_list c p bytes stated h = h

list_by : (o : Option Shape) (f : ℕ) (p : List ℕ) (v : AttrValue) (bytes : Bor (List ℕ)) (stated : Bool) → GivesBy o f p (Ok v) → Borrows o p (borrowed.List bytes stated) → Decodes (elements_by o) bytes.now
list_by None f p v bytes stated given h = absurd h
list_by (Some (One c)) f p v bytes stated given h = absurd (no_list c p bytes stated h)
list_by (Some (Addresses n)) f p v bytes stated given h = absurd h
list_by (Some (Nested flagged rows)) f p v bytes stated given h =
    subst (Decodes (lift_table rows)) (sym h) (lifted_list rows flagged (kind_of f) p v given.0 given.1 given.2)

-- the attributes of a nested list that decodes
pub elements_decode : (table : Table) (f : ℕ) (p : List ℕ) (bytes : Bor (List ℕ)) (stated : Bool) → HasValue table f p → Borrows (class_at table (kind_of f)) p (borrowed.List bytes stated)
    → HasValues (elements_at table (kind_of f)) bytes.now
elements_decode table f p bytes stated has h none = has (λ v. none (list_by (class_at table (kind_of f)) f p v.0 bytes stated v.1 h))
