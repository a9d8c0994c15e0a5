-- A table without lists decodes and writes as the table it is lifted to.
use Rattle.std.proofs.Common.{◌≡◌, ℕ, ◌≤◌, Bool, true, false, cond, List, [], ◌∷◌, ◌++◌, length, map, Option, Some, None, option_map, Result, Ok, Err, refl, sym, ap, ap₂, subst, ◌∙◌, arith, inl, inr}
use Rattle.std.specs.Prelude.{◌==◌, ◌↔◌}
use Rattle.std.specs.List.{AllZip, AllByRecursion}
use Rattle.std.proofs.lemmas.List.{length-append}
use Rattle.link_base.specs.declared.wire.fault.Cause.{Cause}
use Rattle.link_base.specs.declared.wire.fault.DecodeFault.{DecodeFault}
use Rattle.link_base.specs.declared.wire.fault.ListError.{ListError}
use Rattle.link_base.specs.declared.wire.fault.ListError.TheVariants as list_errors
use Rattle.link_base.specs.Frame.{Frame, kind_of, frame_bytes}
use Rattle.link_base.specs.Class.{Class, Value, class_value}
use Rattle.link_base.specs.Wire.{Wire, FirstFault, FaultsHere, IsCanonicalFrame, CanonicalBy, whole}
use Rattle.link_base.specs.Table.{Row, Rows, row_at, class_at, Leaf, Case, Other, LeafGives, leaf_by, leaf_case, leaf_field, leaf_payload, written_leaves, Shape, One, Single, Inner, Table, AttrValue, Gives, GivesBy, single_case, ListGives, written_list, written_kind, written_payload, Fits, leaf_allows_by, LeafAllows, allows_by, Allows, Canonical}
use Rattle.link_base.specs.Held.{LeafInRange, LeafInRangeBy, IsInRange, InRangeBy}
use Rattle.link_base.specs.Lift.{lift, lift_row, lift_table}
use Rattle.link_base.specs.Answers.{Fails, ListFails, nested_error}
use Rattle.link_base.proofs.Emit.{length-whole_bytes}

-- ---- rows

abbrev pub lift_option : Option Class → Option Shape
lift_option None = None
lift_option (Some c) = Some (One c)

choose : (b : Bool) (r : Row Class) (o : Option (Row Class)) → cond b (Some (lift_row r)) (option_map lift_row o) ≡ option_map lift_row (cond b (Some r) o)
choose true r o = refl
choose false r o = refl

pub row_at-lift : (rows : Rows) (k : ℕ) → row_at (lift_table rows) k ≡ option_map lift_row (row_at rows k)
row_at-lift [] k = refl
row_at-lift (r ∷ rows) k = ap (λ (o : Option (Row Shape)). cond (r.kind == k) (Some (lift_row r)) o) (row_at-lift rows k) ∙ choose (r.kind == k) r (row_at rows k)

mapped : (o : Option (Row Class)) → option_map (λ (r : Row Shape). r.class) (option_map lift_row o) ≡ lift_option (option_map (λ (r : Row Class). r.class) o)
mapped None = refl
mapped (Some r) = refl

pub class_at-lift : (rows : Rows) (k : ℕ) → class_at (lift_table rows) k ≡ lift_option (class_at rows k)
class_at-lift rows k = ap (λ (o : Option (Row Shape)). option_map (λ r. r.class) o) (row_at-lift rows k) ∙ mapped (row_at rows k)

-- ---- one attribute

abbrev lift_result : Result Leaf DecodeFault → Result AttrValue DecodeFault
lift_result (Ok v) = Ok (lift v)
lift_result (Err c) = Err c

pub leaf_is : (k : ℕ) (r : Result Value Cause) → single_case k r ≡ lift_result (leaf_case k r)
leaf_is k (Ok v) = refl
leaf_is k (Err c) = refl

unlift_by : (o : Option Class) (f : ℕ) (p : List ℕ) (r : Result AttrValue DecodeFault) → GivesBy (lift_option o) f p r → r ≡ lift_result (leaf_by o f p)
unlift_by None f p r e = e
unlift_by (Some c) f p r e = e ∙ leaf_is (kind_of f) (class_value c p)

-- the table decodes to what its rows decode to
unlift : (rows : Rows) (f : ℕ) (p : List ℕ) (r : Result AttrValue DecodeFault) → Gives (lift_table rows) f p r → r ≡ lift_result (leaf_by (class_at rows (kind_of f)) f p)
unlift rows f p r given = unlift_by (class_at rows (kind_of f)) f p r (subst (λ (o : Option Shape). GivesBy o f p r) (class_at-lift rows (kind_of f)) given)

lift-back : (a b : Leaf) → lift a ≡ lift b → a ≡ b
lift-back (Case k v) (Case l w) e = cc
lift-back (Case k v) (Other l w) e = absurd cc
lift-back (Other k v) (Case l w) e = absurd cc
lift-back (Other k v) (Other l w) e = cc

of_value : (q : Result Leaf DecodeFault) (m : AttrValue) → Ok m ≡ lift_result q → (a : Leaf) × (m ≡ lift a) × (Ok a ≡ q)
of_value (Ok a) m e = (a, cc, refl)
of_value (Err c) m e = absurd cc

of_fault : (q : Result Leaf DecodeFault) (c : DecodeFault) → Err c ≡ lift_result q → Err c ≡ q
of_fault (Ok a) c e = absurd cc
of_fault (Err d) c e = let same : c ≡ d = cc in ap (λ (u : DecodeFault). Err u) same

value_given : (rows : Rows) (f : ℕ) (p : List ℕ) (a : Leaf) → Gives (lift_table rows) f p (Ok (lift a)) → LeafGives rows f p (Ok a)
value_given rows f p a given =
    let x = of_value (leaf_by (class_at rows (kind_of f)) f p) (lift a) (unlift rows f p (Ok (lift a)) given) in
    ap (λ (u : Leaf). Ok u) (lift-back a x.0 x.1) ∙ x.2

fault_given : (rows : Rows) (f : ℕ) (p : List ℕ) (c : DecodeFault) → Gives (lift_table rows) f p (Err c) → LeafGives rows f p (Err c)
fault_given rows f p c given = of_fault (leaf_by (class_at rows (kind_of f)) f p) c (unlift rows f p (Err c) given)

-- ---- lists

values_given : (rows : Rows) (xs : List Frame) (vs : List Leaf) → AllZip (λ x v. Gives (lift_table rows) x.kind_field x.payload (Ok v)) xs (map lift vs) → AllZip (λ x v. LeafGives rows x.kind_field x.payload (Ok v)) xs vs
values_given rows [] [] h = tt
values_given rows [] (v ∷ vs) h = absurd h
values_given rows (x ∷ xs) [] h = absurd h
values_given rows (x ∷ xs) (v ∷ vs) h = (value_given rows x.kind_field x.payload v h.0, values_given rows xs vs h.1)

some_given : (rows : Rows) (xs : List Frame) → AllByRecursion (λ x. (v : AttrValue) × Gives (lift_table rows) x.kind_field x.payload (Ok v)) xs → AllByRecursion (λ x. (v : Leaf) × LeafGives rows x.kind_field x.payload (Ok v)) xs
some_given rows [] h = tt
some_given rows (x ∷ xs) h =
    let a = of_value (leaf_by (class_at rows (kind_of x.kind_field)) x.kind_field x.payload) h.0.0 (unlift rows x.kind_field x.payload (Ok h.0.0) h.0.1) in
    ((a.0, a.2), some_given rows xs h.1)

here_given : (rows : Rows) (r : List ℕ) (c : DecodeFault) → FaultsHere (Gives (lift_table rows)) r c → FaultsHere (LeafGives rows) r c
here_given rows r c (inl h) = inl h
here_given rows r c (inr h) = inr (h.0, h.1, fault_given rows h.0.kind_field h.0.payload c h.2)

first_fault_given : (rows : Rows) (s : List ℕ) (at : ℕ) (c : DecodeFault) → FirstFault (Gives (lift_table rows)) s at c → FirstFault (LeafGives rows) s at c
first_fault_given rows s at c h = record {
  front = h.front;
  rest = h.rest;
  string = h.string;
  complete = h.complete;
  values = some_given rows h.front h.values;
  some = h.some;
  offset = h.offset;
  here = here_given rows h.rest c h.here;
}

-- values that decode by the table are lifted values
leaves_zip : (rows : Rows) (xs : List Frame) (ms : List AttrValue) → AllZip (λ x v. Gives (lift_table rows) x.kind_field x.payload (Ok v)) xs ms → (vs : List Leaf) × (ms ≡ map lift vs)
leaves_zip rows [] [] h = ([], refl)
leaves_zip rows [] (m ∷ ms) h = absurd h
leaves_zip rows (x ∷ xs) [] h = absurd h
leaves_zip rows (x ∷ xs) (m ∷ ms) h =
    let a = of_value (leaf_by (class_at rows (kind_of x.kind_field)) x.kind_field x.payload) m (unlift rows x.kind_field x.payload (Ok m) h.0) in
    let others = leaves_zip rows xs ms h.1 in
    (a.0 ∷ others.0, ap₂ (λ v vs. v ∷ vs) a.1 others.1)

pub leaves_of : (table : Table) (rows : Rows) (s : List ℕ) (ms : List AttrValue) → table ≡ lift_table rows → Wire (Gives table) s ms → (vs : List Leaf) × (ms ≡ map lift vs)
leaves_of table rows s ms e w =
    let lifted = subst (λ (t : Table). Wire (Gives t) s ms) e w in
    leaves_zip rows lifted.frames ms lifted.values

-- the values of a list, as the content of an attribute
pub nested_values : (table : Table) (rows : Rows) (flagged : Bool) (k : ℕ) (s : List ℕ) (ms : List AttrValue) (vs : List Leaf) → table ≡ lift_table rows → ms ≡ map lift vs → Wire (Gives table) s ms
    → ListGives (LeafGives rows) (Inner flagged) k s (Ok (Case k (Inner flagged vs)))
nested_values table rows flagged k s ms vs e-table e-ms w =
    let w' = subst (λ (t : Table). Wire (Gives t) s (map lift vs)) e-table (subst (λ (us : List AttrValue). Wire (Gives table) s us) e-ms w) in
    (Ok vs, record { frames = w'.frames; string = w'.string; values = values_given rows w'.frames vs w'.values }, refl)

fails_by : (rows : Rows) (flagged : Bool) (k : ℕ) (s : List ℕ) (e : ListError) → ListFails e (Gives (lift_table rows)) s → Fails (nested_error k e) (ListGives (LeafGives rows) (Inner flagged) k s)
fails_by rows flagged k s (list_errors.Memory e) h = tt
fails_by rows flagged k s (list_errors.Fault at f) h = (Err (at, f), first_fault_given rows s at f h, refl)

-- the first error of a list, as the error of an attribute
pub nested_fails : (table : Table) (rows : Rows) (flagged : Bool) (k : ℕ) (s : List ℕ) (e : ListError) → table ≡ lift_table rows → ListFails e (Gives table) s → Fails (nested_error k e) (ListGives (LeafGives rows) (Inner flagged) k s)
nested_fails table rows flagged k s e e-table h = fails_by rows flagged k s e (subst (λ (t : Table). ListFails e (Gives t) s) e-table h)

-- ---- what is written

frame-lift : (v : Leaf) → frame_bytes (whole (written_kind (lift v)) (written_payload (lift v))) ≡ frame_bytes (whole (leaf_field v) (leaf_payload v))
frame-lift (Case k v) = ap (λ (n : ℕ). frame_bytes (whole n (leaf_payload (Case k v)))) (omega arith)
frame-lift (Other f p) = refl

written-lift : (vs : List Leaf) → written_list (map lift vs) ≡ written_leaves vs
written-lift [] = refl
written-lift (v ∷ vs) = ap₂ (λ a b. a ++ b) (frame-lift v) (written-lift vs)

pub written_same : (ms : List AttrValue) (vs : List Leaf) → ms ≡ map lift vs → written_list ms ≡ written_leaves vs
written_same ms vs e = ap written_list e ∙ written-lift vs

pub map-lift : {X : Type 0} (means : X → AttrValue) (leaf_of : X → Leaf) → ((x : X) → means x ≡ lift (leaf_of x)) → (xs : List X) → map means xs ≡ map lift (map leaf_of xs)
map-lift means leaf_of same [] = refl
map-lift means leaf_of same (x ∷ xs) = ap₂ (λ a b. a ∷ b) (same x) (map-lift means leaf_of same xs)

-- each value of a written list that is short enough fits
pub each_fits : (ms : List AttrValue) → length (written_list ms) ≤ 65531 → AllByRecursion Fits ms
each_fits [] h = tt
each_fits (m ∷ ms) h =
    let x = whole (written_kind m) (written_payload m) in
    let both = length-append (frame_bytes x) (written_list ms) in
    let one = length-whole_bytes (written_kind m) (written_payload m) in
    (omega (arith, both, one, h), each_fits ms (omega (arith, both, h)))

-- ---- in range

in_range_by : (o : Option Class) (v : Value) → InRangeBy (lift_option o) (Single v) → LeafInRangeBy o v
in_range_by None v h = h
in_range_by (Some c) v h = h

in_range : (rows : Rows) (v : Leaf) → IsInRange (lift_table rows) (lift v) → LeafInRange rows v
in_range rows (Case k v) h = (h.0, in_range_by (class_at rows k) v (subst (λ (o : Option Shape). InRangeBy o (Single v)) (class_at-lift rows k) h.1))
in_range rows (Other f p) h = h

all_by : (rows : Rows) (vs : List Leaf) → AllByRecursion (IsInRange (lift_table rows)) (map lift vs) → AllByRecursion (LeafInRange rows) vs
all_by rows [] h = tt
all_by rows (v ∷ vs) h = (in_range rows v h.0, all_by rows vs h.1)

pub all_in_range : (table : Table) (rows : Rows) (ms : List AttrValue) (vs : List Leaf) → table ≡ lift_table rows → ms ≡ map lift vs → AllByRecursion (IsInRange table) ms → AllByRecursion (LeafInRange rows) vs
all_in_range table rows ms vs e-table e-ms h =
    all_by rows vs (subst (λ (t : Table). AllByRecursion (IsInRange t) (map lift vs)) e-table (subst (λ (us : List AttrValue). AllByRecursion (IsInRange table) us) e-ms h))

-- ---- canonical

-- an element is canonical if and only if it is canonical in a table of the same rows
allowed_by : (o : Option Class) (f : ℕ) (p : List ℕ) → allows_by (lift_option o) f p ↔ leaf_allows_by o f p
allowed_by None f p = (λ h. h, λ h. h)
allowed_by (Some c) f p = (λ h. (omega (arith, h.0), h.1), λ h. (omega (arith, h.0), h.1))

allowed : (rows : Rows) (f : ℕ) (p : List ℕ) → Allows (lift_table rows) f p ↔ LeafAllows rows f p
allowed rows f p =
    let k = kind_of f in
    let same = class_at-lift rows k in
    let by = allowed_by (class_at rows k) f p in
    (λ h. by.0 (subst (λ (o : Option Shape). allows_by o f p) same h), λ h. subst (λ (o : Option Shape). allows_by o f p) (sym same) (by.1 h))

-- frames that are canonical by one rule are canonical by any rule that follows from it
canonical_each : (P Q : ℕ → List ℕ → Type 0) → ((f : ℕ) (p : List ℕ) → P f p → Q f p) → (xs : List Frame) → AllByRecursion (IsCanonicalFrame P) xs → AllByRecursion (IsCanonicalFrame Q) xs
canonical_each P Q to [] h = tt
canonical_each P Q to (x ∷ xs) h = (record { complete = h.0.complete; zeros = h.0.zeros; allowed = to x.kind_field x.payload h.0.allowed }, canonical_each P Q to xs h.1)

canonical_by : (P Q : ℕ → List ℕ → Type 0) → ((f : ℕ) (p : List ℕ) → P f p → Q f p) → (s : List ℕ) → CanonicalBy P s → CanonicalBy Q s
canonical_by P Q to s c = record { frames = c.frames; string = c.string; each = canonical_each P Q to c.frames c.each }

-- a nested list is canonical if and only if it is canonical in the table of its type
pub nested_canonical : (table : Table) (rows : Rows) (s : List ℕ) → table ≡ lift_table rows → Canonical table s ↔ CanonicalBy (LeafAllows rows) s
nested_canonical table rows s e = (
  λ h. canonical_by (Allows (lift_table rows)) (LeafAllows rows) (λ f p. (allowed rows f p).0) s (subst (λ (t : Table). Canonical t s) e h),
  λ h. subst (λ (t : Table). Canonical t s) (sym e) (canonical_by (LeafAllows rows) (Allows (lift_table rows)) (λ f p. (allowed rows f p).1) s h),
)
