-- Two versions of a table agree on lists without attributes of the types that the second adds.
use Rattle.std.proofs.Common.{◌≡◌, ℕ, Bool, true, false, not, cond, List, [], ◌∷◌, ◌++◌, Some, option_map, Result, Ok, Err, refl, sym, ap, subst, ◌∙◌, inl, inr, true≢false, append_assoc}
use Rattle.std.specs.Prelude.{◌==◌}
use Rattle.std.specs.List.{AllByRecursion}
use Rattle.std.proofs.lemmas.Bool.{cond_both, cond-false, eqb-true}
use Rattle.link_base.specs.declared.wire.fault.DecodeFault.{DecodeFault}
use Rattle.link_base.specs.Frame.{Frame, IsComplete, AreFrames, kind_of, frame_bytes, bytes_of_frames}
use Rattle.link_base.specs.Class.{is_listed}
use Rattle.link_base.specs.Wire.{Reading, FaultsHere, Reads, IsCanonicalFrame, CanonicalBy}
use Rattle.link_base.specs.Table.{Row, row_at, class_at, Table, AttrValue, GivesBy, Gives, allows_by, Allows}
use Rattle.link_base.specs.Editions.{among, without, kinds_of, StandsIn, AreEditions}
use Rattle.link_base.proofs.Cuts.{IsFrame-complete, AreFrames-head}
use Rattle.link_base.proofs.Readings.{ReadEach, HaveValues}

-- ---- tables

-- an attribute type that is not listed differs from each listed one
other_kind : (kinds : List ℕ) (j k : ℕ) → is_listed kinds k ≡ false → not (is_listed kinds j) ≡ false → (b : Bool) → (j == k) ≡ b → b ≡ false
other_kind kinds j k h e false is = refl
other_kind kinds j k h e true is =
    let listed = ap (λ n. not (is_listed kinds n)) (eqb-true j k is) in
    absurd (true≢false (sym (ap not h) ∙ sym listed ∙ e))

-- an attribute type that is not listed keeps its row
keeps_row : {C : Type 0} (kinds : List ℕ) (rows : List (Row C)) (k : ℕ) → is_listed kinds k ≡ false → row_at (without kinds rows) k ≡ row_at rows k
keeps_row kinds [] k h = refl
keeps_row kinds (r ∷ rows) k h =
    let later = keeps_row kinds rows k h in
    cond_both (not (is_listed kinds r.kind)) (r ∷ without kinds rows) (without kinds rows) (λ t. row_at t k ≡ row_at (r ∷ rows) k)
    (λ kept. ap (λ o. cond (r.kind == k) (Some r) o) later)
    (λ dropped. later ∙ sym (cond-false (r.kind == k) _ _ (other_kind kinds r.kind k h dropped (r.kind == k) refl)))

same_row : {C : Type 0} (kinds : List ℕ) (rows : List (Row C)) (k : ℕ) → is_listed kinds k ≡ false → class_at (without kinds rows) k ≡ class_at rows k
same_row kinds rows k h = ap (λ o. option_map (λ r. r.class) o) (keeps_row kinds rows k h)

-- ---- frames

-- the frame at the start of a list is in the list
at_front : (x : Frame) (rest : List ℕ) → IsComplete x → StandsIn (frame_bytes x ++ rest) x
at_front x rest h = record {
  front = [];
  rest = frame_bytes x ++ rest;
  string = refl;
  complete = tt;
  begins = record { rest = rest; is = IsFrame-complete x h; string = refl };
}

-- what is in a list is still in it after a complete frame is put before it
behind : (x y : Frame) (rest : List ℕ) → IsComplete x → StandsIn rest y → StandsIn (frame_bytes x ++ rest) y
behind x y rest h stands = record {
  front = x ∷ stands.front;
  rest = stands.rest;
  string = ap (λ t. frame_bytes x ++ t) stands.string ∙ sym (append_assoc (frame_bytes x) (bytes_of_frames stands.front) stands.rest);
  complete = (h, stands.complete);
  begins = stands.begins;
}

-- `Holds` is true for the `nla_type` of each frame in the list
abbrev Each : (ℕ → Type 0) → List ℕ → Type 0
Each Holds s = (x : Frame) → StandsIn s x → Holds x.kind_field

-- it is also true in what follows a complete frame
rest_of : (Holds : ℕ → Type 0) (x : Frame) (rest : List ℕ) → IsComplete x → Each Holds (frame_bytes x ++ rest) → Each Holds rest
rest_of Holds x rest h each y stands = each y (behind x y rest h stands)

-- the first of some frames is in their bytes
first_stands : (x : Frame) (xs : List Frame) → AreFrames (x ∷ xs) → StandsIn (bytes_of_frames (x ∷ xs)) x
first_stands x xs h = record {
  front = [];
  rest = bytes_of_frames (x ∷ xs);
  string = refl;
  complete = tt;
  begins = record { rest = bytes_of_frames xs; is = AreFrames-head x xs h; string = refl };
}

-- ---- decoding

module _ {V : Type 0} (one two : Reading V) (Holds : ℕ → Type 0)
    (same : (f : ℕ) (p : List ℕ) (r : Result V DecodeFault) → Holds f → one f p r → two f p r) where
  -- frames that decode to values in one way also do in the other
  each_value : (xs : List Frame) (vs : List V) → AreFrames xs → Each Holds (bytes_of_frames xs) → ReadEach one xs vs → ReadEach two xs vs
  each_value [] vs are each h = h
  each_value (x ∷ xs) [] are each h = h
  each_value (x ∷ []) (v ∷ vs) are each h = (same x.kind_field x.payload (Ok v) (each x (first_stands x [] are)) h.0, h.1)
  each_value (x ∷ y ∷ xs) (v ∷ vs) are each h = (
    same x.kind_field x.payload (Ok v) (each x (first_stands x (y ∷ xs) are)) h.0,
    each_value (y ∷ xs) vs are.1 (rest_of Holds x (bytes_of_frames (y ∷ xs)) are.0 each) h.1,
  )

  -- so do complete frames before a rest
  have_values : (xs : List Frame) (rest : List ℕ) → AllByRecursion IsComplete xs → Each Holds (bytes_of_frames xs ++ rest) → HaveValues one xs → HaveValues two xs
  have_values [] rest h each values = tt
  have_values (x ∷ xs) rest h each values =
      let joined = append_assoc (frame_bytes x) (bytes_of_frames xs) rest in
      let next = subst (Each Holds) joined each in (
        (values.0.0, same x.kind_field x.payload (Ok values.0.0) (next x (at_front x (bytes_of_frames xs ++ rest) h.0)) values.0.1),
        have_values xs rest h.1 (rest_of Holds x (bytes_of_frames xs ++ rest) h.0 next) values.1,
      )

  -- so does an error at the start of the rest
  faults_here : (front : List Frame) (rest : List ℕ) (fault : DecodeFault) → AllByRecursion IsComplete front → Each Holds (bytes_of_frames front ++ rest)
      → FaultsHere one rest fault → FaultsHere two rest fault
  faults_here front rest fault h each (inl cause) = inl cause
  faults_here front rest fault h each (inr bad) =
      let stands : StandsIn (bytes_of_frames front ++ rest) bad.0 = record { front = front; rest = rest; string = refl; complete = h; begins = bad.1 } in
      inr (bad.0, bad.1, same bad.0.kind_field bad.0.payload (Err fault) (each bad.0 stands) bad.2)

  -- a list decodes to the same result
  pub reads_as : (s : List ℕ) (q : Result (List V) (ℕ × DecodeFault)) → Each Holds s → Reads one s q → Reads two s q
  reads_as s (Ok vs) each w = record {
    frames = w.frames;
    string = w.string;
    values = each_value w.frames vs w.string.frames (subst (Each Holds) w.string.string each) w.values;
  }
  reads_as s (Err e) each f =
      let here = subst (Each Holds) f.string each in
      record {
        front = f.front;
        rest = f.rest;
        string = f.string;
        complete = f.complete;
        values = have_values f.front f.rest f.complete here f.values;
        some = f.some;
        offset = f.offset;
        here = faults_here f.front f.rest e.1 f.complete here f.here;
      }

-- ---- canonical lists

module _ (one two : ℕ → List ℕ → Type 0) (Holds : ℕ → Type 0) (same : (f : ℕ) (p : List ℕ) → Holds f → one f p → two f p) where
  -- frames that are canonical in one way are in the other
  canonical_frames : (xs : List Frame) → Each Holds (bytes_of_frames xs) → AllByRecursion (IsCanonicalFrame one) xs → AllByRecursion (IsCanonicalFrame two) xs
  canonical_frames [] each h = tt
  canonical_frames (x ∷ xs) each h = (
    record {
      complete = h.0.complete;
      zeros = h.0.zeros;
      allowed = same x.kind_field x.payload (each x (at_front x (bytes_of_frames xs) h.0.complete)) h.0.allowed;
    },
    canonical_frames xs (rest_of Holds x (bytes_of_frames xs) h.0.complete each) h.1,
  )

  -- a list that is canonical in one way is in the other
  pub canonical_as : (s : List ℕ) → Each Holds s → CanonicalBy one s → CanonicalBy two s
  canonical_as s each c = record { frames = c.frames; string = c.string; each = canonical_frames c.frames (subst (Each Holds) c.string each) c.each }

-- ---- versions of tables

module _ (kinds : List ℕ) (table : Table) where
  -- `nla_type` has none of the attribute types
  abbrev IsOther : ℕ → Type 0
  IsOther f = is_listed kinds (kind_of f) ≡ false

  gives_second : (f : ℕ) (p : List ℕ) (r : Result AttrValue DecodeFault) → IsOther f → Gives (without kinds table) f p r → Gives table f p r
  gives_second f p r h = subst (λ o. GivesBy o f p r) (same_row kinds table (kind_of f) h)

  gives_first : (f : ℕ) (p : List ℕ) (r : Result AttrValue DecodeFault) → IsOther f → Gives table f p r → Gives (without kinds table) f p r
  gives_first f p r h = subst (λ o. GivesBy o f p r) (sym (same_row kinds table (kind_of f) h))

  allows_second : (f : ℕ) (p : List ℕ) → IsOther f → Allows (without kinds table) f p → Allows table f p
  allows_second f p h = subst (λ o. allows_by o f p) (same_row kinds table (kind_of f) h)

  allows_first : (f : ℕ) (p : List ℕ) → IsOther f → Allows table f p → Allows (without kinds table) f p
  allows_first f p h = subst (λ o. allows_by o f p) (sym (same_row kinds table (kind_of f) h))

  -- a table without the rows of some attribute types is its previous version
  pub editions : kinds_of (among kinds table) ≡ kinds → AreEditions kinds (without kinds table) table
  editions new = record {
    rows = refl;
    new = new;
    read = λ s none q. (
      reads_as (Gives (without kinds table)) (Gives table) IsOther gives_second s q none,
      reads_as (Gives table) (Gives (without kinds table)) IsOther gives_first s q none,
    );
    canonical = λ s none. (
      canonical_as (Allows (without kinds table)) (Allows table) IsOther allows_second s none,
      canonical_as (Allows table) (Allows (without kinds table)) IsOther allows_first s none,
    );
  }
