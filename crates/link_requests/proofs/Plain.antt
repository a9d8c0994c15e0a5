-- Values that refer to their bytes encode to what `link_entries` writes for them.
use Rattle.std.proofs.Common.{◌≡◌, ◌≢◌, ◌⊎◌, ℕ, ◌+◌, ◌-◌, ◌%◌, ◌==◌, ◌&&◌, ◌||◌, Bool, true, false, cond, List, [], ◌∷◌, ◌++◌, length, Option, Some, None, Result, Ok, Err, inl, inr, refl, sym, ap, ap₂, subst, ◌∙◌, arith, option_map}
use Rattle.std.specs.Prelude.{nat_lt, nat_le, take}
use Rattle.std.specs.List.{AllByRecursion}
use Rattle.std.proofs.lemmas.Bool.{cases_Bool, eqb-true, eqb-false, eq-eqb, ne_eqb, lt-ltb, ltb-true, ltb-false, le-ltb, le-leb}
use Rattle.std.proofs.lemmas.List.{append-nil}
use Rattle.link_base.specs.declared.rows.form.ArrayOf.{ArrayOf}
use Rattle.link_base.specs.declared.rows.form.ArrayOf.TheVariants.{I32}
use Rattle.link_base.specs.Borrowed.{elements_at}
use Rattle.link_base.specs.Frame.{frame_bytes, max_payload}
use Rattle.link_base.specs.Table.{Table}
use Rattle.link_base.specs.Wire.{whole}
use Rattle.netlink_packet_route.specs.declared.family.Family.{Family}
use Rattle.netlink_packet_route.specs.Family.{table_of}
use Rattle.link_entries.specs.declared.entry.Entry.{Entry}
use Rattle.link_entries.specs.declared.fields.Fields.{Fields}
use Rattle.link_entries.specs.declared.fields.Fields.TheVariants as fields
use Rattle.link_entries.specs.declared.misfit.Misfit.{Misfit}
use Rattle.link_entries.specs.declared.misfit.Misfit.TheVariants.{TooLong, BadForm, BadElement, BadOctets, BadDepth, BadName}
use Rattle.link_entries.specs.Fields.{array_number, ip_address, fields_at}
use Rattle.link_entries.specs.Forms.{form_held}
use Rattle.link_entries.specs.Payload.{has_form, only_if, has_size, passed, payload_of, field_of}
use Rattle.link_entries.specs.Encoded as encoded
use Rattle.link_entries.proofs.Encodings.{frame_low}
use Rattle.link_entries.proofs.WrittenLists.{if_held, alone_ok}
use Rattle.link_requests.specs.declared.level.Scope.{Scope}
use Rattle.link_requests.specs.declared.level.Scope.TheVariants.{Attributes, Elements, Numbers, Addresses}
use Rattle.link_requests.specs.Opening.{Kinds}
use Rattle.link_entries.specs.Encoded.{Encoding, alone, before}
use Rattle.link_requests.specs.Value.{inline, is_protinfo, is_placed, type_for, set_for, kind_for, is_allowed, allowed, value_bytes, announced, held_payload, bytes_payload, value_payload, is_above, begins_at, scope_below, inside_of, below_of, payload_with, attribute_with, value_by, value_of}
use Rattle.link_requests.specs.Values.{kinds_in, values_of, inner_of}
use Rattle.link_requests.specs.Law.{lowered, list_at, IsPlain}
use Rattle.link_requests.proofs.Attributes.{before_ok, fitted_ok}
use Rattle.link_requests.proofs.Following.{scope_passed}

-- ---- results

abbrev payload_is : List ℕ → Result (List ℕ) Misfit
payload_is q = Ok q

abbrev encoding_ok : List ℕ → Encoding
encoding_ok t = Ok t

ok_same : (p t : List ℕ) → encoding_ok p ≡ encoding_ok t → p ≡ t
ok_same p t e = cc

payload_same : (p q : List ℕ) → payload_is p ≡ payload_is q → p ≡ q
payload_same p q e = cc

-- ---- payloads

allowed_ok : (scope : Scope) (k : ℕ) (r : Result (List ℕ) Misfit) (q : List ℕ) → allowed scope k r ≡ Ok q → r ≡ Ok q
allowed_ok scope k (Ok p) q h = ap Ok (payload_same p q (if_held (is_allowed scope k p) BadName (Ok p) q h).1)
allowed_ok scope k (Err m) q h = absurd cc

module _ (scope : Scope) (reader : Option Family) (follow : Bool) (e : Entry) (octets q : List ℕ) (lent : (e.offset == inline) ≡ false) where
  passed_ok : (form : ℕ) → bytes_payload scope form reader follow e octets ≡ Ok q → (e.form == form ≡ true) × (passed None e octets ≡ Ok q)
  passed_ok form h =
      let right = if_held (e.form == form) BadForm (cond (form == form_held) (held_payload reader follow e octets) (allowed scope (kind_for scope e) (value_bytes None e octets))) q h in
      (right.0, by (form == form_held) right.1)
    where
      of_held : (f : Bool) → cond f (Err BadDepth) (passed None e octets) ≡ Ok q → passed None e octets ≡ Ok q
      of_held true is = absurd cc
      of_held false is = is

      by : (held : Bool) → cond held (held_payload reader follow e octets) (allowed scope (kind_for scope e) (value_bytes None e octets)) ≡ Ok q → passed None e octets ≡ Ok q
      by true is = of_held follow (sym (ap (λ b. cond b (cond follow (announced reader) (Err BadDepth)) (cond follow (Err BadDepth) (passed None e octets))) lent) ∙ is)
      by false is = sym (ap (λ b. cond b (only_if (nat_le e.length 16) BadOctets (take e.length e.octets)) (passed None e octets)) lent) ∙ allowed_ok scope (kind_for scope e) (value_bytes None e octets) q is

  -- the payload of an entry
  pub payload_ok : (own : Fields) → value_payload scope reader own follow e octets ≡ Ok q → payload_of own (record e { kind = kind_for scope e }) octets ≡ Ok q
  payload_ok (fields.Passed form None) h =
      let is = passed_ok form h in
      ap (λ b. cond (b || ((e.form == 0) && true)) (passed None e octets) (Err BadForm)) is.0 ∙ is.1
  payload_ok (fields.Passed form (Some n)) h =
      sym (ap (λ b. cond (has_form (fields.Passed form (Some n)) e) (cond b (only_if (has_size (Some n) e && nat_le e.length 16) BadOctets (take e.length e.octets)) (passed (Some n) e octets)) (Err BadForm)) lent) ∙ h
  payload_ok own h = h

payload_depth : (own : Fields) (e : Entry) (d : ℕ) (octets : List ℕ) → payload_of own (record e { depth = d }) octets ≡ payload_of own e octets
payload_depth (fields.Passed form None) e d octets = refl
payload_depth (fields.Passed form (Some n)) e d octets = refl
payload_depth own e d octets = refl

field_depth : (own : Fields) (k : ℕ) (e : Entry) (d : ℕ) → field_of own k (record e { depth = d }) ≡ field_of own k e
field_depth (fields.List flag) k e d = refl
field_depth own k e d = refl

-- ---- elements

-- a value that refers to its bytes and is no list has nothing below it
sub_none : (scope : Scope) (reader : Option Family) (form : ℕ) (e : Entry) → form == form_held ≡ false → scope_below scope reader (fields.Passed form None) e ≡ None
sub_none scope reader form e other = scope_passed scope reader form e ∙ ap (λ b. cond b (option_map Attributes reader) None) other

held_alone : (reader : Option Family) (follow : Bool) (e : Entry) (octets q : List ℕ) → (e.offset == inline) ≡ false → held_payload reader follow e octets ≡ Ok q → follow ≡ false
held_alone reader true e octets q lent h =
    let bad : Err BadDepth ≡ payload_is q = sym (ap (λ b. cond b (announced reader) (Err BadDepth)) lent) ∙ h in absurd cc
held_alone reader false e octets q lent h = refl

-- values follow only a list
module _ (scope : Scope) (reader : Option Family) (follow : Bool) (e : Entry) (octets q : List ℕ) (lent : (e.offset == inline) ≡ false) where
  plain_alone : (form : ℕ) → value_payload scope reader (fields.Passed form None) follow e octets ≡ Ok q → (follow ≡ false) ⊎ (scope_below scope reader (fields.Passed form None) e ≡ None)
  plain_alone form h = elim (cases_Bool (form == form_held)) [
    | inl held ↦
        let right = if_held (e.form == form) BadForm (cond (form == form_held) (held_payload reader follow e octets) (allowed scope (kind_for scope e) (value_bytes None e octets))) q h in
        inl (held_alone reader follow e octets q lent (sym (ap (λ b. cond b (held_payload reader follow e octets) (allowed scope (kind_for scope e) (value_bytes None e octets))) held) ∙ right.1))
    | inr other ↦ inr (sub_none scope reader form e other)
  ]

follow_none : (depth : ℕ) (sub : Option Scope) (inner : Scope → Encoding) (es : List Entry) (follow : Bool) (t : List ℕ) → (follow ≡ false) ⊎ (sub ≡ None) → cond follow (inside_of (depth + 1) sub inner es) (Ok []) ≡ Ok t → (follow ≡ false) × (t ≡ [])
follow_none depth sub inner es true t (inl bad) h = absurd cc
follow_none depth sub inner es true t (inr none) h = let bad : Err (0, BadDepth) ≡ encoding_ok t = sym (ap (λ s. inside_of (depth + 1) s inner es) none) ∙ h in absurd cc
follow_none depth sub inner es false t either h = (refl, let same : encoding_ok [] ≡ encoding_ok t = h in sym (ok_same [] t same))

-- ---- one element

-- what an element of a list encodes to, in the words of `link_entries`
module _ (octets : List ℕ) (set : Family) (k depth : ℕ) (x : Kinds) (i : ℕ) (e : Entry) (es : List Entry) (lent : (e.offset == inline) ≡ false) where
  abbrev below : Entry
  below = lowered depth e

  abbrev IsElement : Scope → Fields → Type 0
  IsElement scope list = (a : List ℕ) → value_of octets scope (depth + 1) x i e es (inner_of octets (depth + 1) x es) ≡ Ok a → e.depth ≡ depth + 1
      → (is_above (depth + 1) es ≡ false) × (encoded.element_of (elements_at (table_of set) k) list k i below octets ≡ Ok a)

  right_place : e.depth ≡ depth + 1 → e.kind == k ≡ true → (list : Fields) → encoded.element_of (elements_at (table_of set) k) list k i below octets ≡ encoded.element_content (elements_at (table_of set) k) list i below octets
  right_place deep same list =
      let one : below.depth ≡ 1 = omega (arith, deep) in
      ap₂ (λ a b. cond (a && b) (encoded.element_content (elements_at (table_of set) k) list i below octets) (Err BadElement)) (eq-eqb below.depth 1 one) same

  -- an attribute with these fields, below which is nothing
  pub single : (scope : Scope) (own : Fields) (a : List ℕ) → ((reader : Option Family) (follow : Bool) (q : List ℕ) → value_payload scope reader own follow e octets ≡ Ok q → (follow ≡ false) ⊎ (scope_below scope reader own e ≡ None))
      → attribute_with octets scope (depth + 1) x i own e es (inner_of octets (depth + 1) x es) ≡ Ok a
      → (is_above (depth + 1) es ≡ false) × ((q : List ℕ) × (payload_of own (record e { kind = kind_for scope e }) octets ≡ Ok q) × (a ≡ frame_bytes (whole (type_for scope x.address_family i own e) q)))
  single scope own a ends h =
      let f = type_for scope x.address_family i own e in
      let reader = set_for scope x f in
      let follow = is_above (depth + 1) es in
      let (p, payload, short, frame) = fitted_ok f (payload_with octets scope (depth + 1) x i own e es (inner_of octets (depth + 1) x es)) a h in
      let (q, t, mine, others, join) = before_ok (alone (value_payload scope reader own follow e octets)) (below_of (depth + 1) (scope_below scope reader own e) (inner_of octets (depth + 1) x es) es) p payload in
      let value = alone_ok (value_payload scope reader own follow e octets) q mine in
      let (none, empty) = follow_none (depth + 1) (scope_below scope reader own e) (inner_of octets (depth + 1) x es) es follow t (ends reader follow q value) others in
      let same : p ≡ q = join ∙ ap (λ u. q ++ u) empty ∙ append-nil q in
      (none, (q, payload_ok scope reader follow e octets q lent own value, frame ∙ ap (λ u. frame_bytes (whole f u)) same))

  -- an element of a nested list
  pub of_nested : (flag : ℕ) → IsElement (Elements set k) (fields.List flag)
  of_nested flag a h deep = by (e.kind == k) refl h
    where
      own : Fields
      own = fields_at (elements_at (table_of set) k) e.inner

      ends : (own : Fields) (reader : Option Family) (follow : Bool) (q : List ℕ) → value_payload (Elements set k) reader own follow e octets ≡ Ok q → (follow ≡ false) ⊎ (scope_below (Elements set k) reader own e ≡ None)
      ends (fields.Passed form None) reader follow q is = plain_alone (Elements set k) reader follow e octets q lent form is
      ends own reader follow q is = inr refl

      by : (b : Bool) → e.kind == k ≡ b → value_by (cond b (Some own) None) octets (Elements set k) (depth + 1) x i e es (inner_of octets (depth + 1) x es) ≡ Ok a
          → (is_above (depth + 1) es ≡ false) × (encoded.element_of (elements_at (table_of set) k) (fields.List flag) k i below octets ≡ Ok a)
      by false same is = absurd cc
      by true same is =
          let (none, (q, payload, frame)) = single (Elements set k) own a (ends own) is in
          let inside : payload_of own (record below { kind = e.inner }) octets ≡ Ok q = payload_depth own (record e { kind = e.inner }) (e.depth - depth) octets ∙ payload in
          let text = ap (λ f. encoded.framed f (payload_of own (record below { kind = e.inner }) octets)) (field_depth own e.inner e (e.depth - depth)) ∙ ap (encoded.framed (field_of own e.inner e)) inside in
          (none, right_place deep same (fields.List flag) ∙ text ∙ ap Ok (sym (frame_low (field_of own e.inner e) q)) ∙ ap Ok (sym frame))

  -- an address
  of_address : (size : ℕ) → IsElement (Addresses size k) (fields.Addresses size)
  of_address size a h deep = by (e.kind == k) refl h
    where
      by : (b : Bool) → e.kind == k ≡ b → value_by (cond b (Some (ip_address size)) None) octets (Addresses size k) (depth + 1) x i e es (inner_of octets (depth + 1) x es) ≡ Ok a
          → (is_above (depth + 1) es ≡ false) × (encoded.element_of (elements_at (table_of set) k) (fields.Addresses size) k i below octets ≡ Ok a)
      by false same is = absurd cc
      by true same is =
          let (none, (q, payload, frame)) = single (Addresses size k) (ip_address size) a (λ reader follow q value. inr refl) is in
          let inside : payload_of (ip_address size) below octets ≡ Ok q = payload in
          (none, right_place deep same (fields.Addresses size) ∙ ap (encoded.framed i) inside ∙ ap Ok (sym (frame_low i q)) ∙ ap Ok (sym frame))

  -- a number
  of_number : (a : ArrayOf) → IsElement (Numbers a k) (fields.Numbers a)
  of_number n a h deep = by (e.kind == k) refl h
    where
      bytes : (n : ArrayOf) → payload_of (array_number n) below octets ≡ payload_of (array_number n) e []
      bytes I32 = refl
      bytes n = refl

      ended : (follow : Bool) (t : List ℕ) → cond follow (Err (0, BadDepth)) (Ok []) ≡ encoding_ok t → (follow ≡ false) × (t ≡ [])
      ended true t is = absurd cc
      ended false t is = (refl, sym (ok_same [] t is))

      by : (b : Bool) → e.kind == k ≡ b → value_by (cond b (Some (array_number n)) None) octets (Numbers n k) (depth + 1) x i e es (inner_of octets (depth + 1) x es) ≡ Ok a
          → (is_above (depth + 1) es ≡ false) × (encoded.element_of (elements_at (table_of set) k) (fields.Numbers n) k i below octets ≡ Ok a)
      by false same is = absurd cc
      by true same is =
          let (q, t, mine, others, join) = before_ok (alone (payload_of (array_number n) e [])) (cond (is_above (depth + 1) es) (Err (0, BadDepth)) (Ok [])) a is in
          let (none, empty) = ended (is_above (depth + 1) es) t others in
          let value = alone_ok (payload_of (array_number n) e []) q mine in
          let same_bytes : a ≡ q = join ∙ ap (λ u. q ++ u) empty ∙ append-nil q in
          (none, right_place deep same (fields.Numbers n) ∙ bytes n ∙ value ∙ ap Ok (sym same_bytes))

-- ---- all elements

first_deep : (depth : ℕ) (e : Entry) → nat_lt e.depth (depth + 1) ≡ false → nat_lt (depth + 1) e.depth ≡ false → e.depth ≡ depth + 1
first_deep depth e low high = omega (arith, ltb-false e.depth (depth + 1) low, ltb-false (depth + 1) e.depth high)

-- up to a value that is less deep, there are no elements
elements_end : (table : Table) (list : Fields) (k depth : ℕ) (octets : List ℕ) (i : ℕ) (e : Entry) (es : List Entry) → nat_lt e.depth (depth + 1) ≡ true → encoded.elements_of table list k octets i (list_at depth (e ∷ es)) ≡ Ok []
elements_end table list k depth octets i e es low = by (nat_lt e.depth depth) refl
  where
    by : (b : Bool) → nat_lt e.depth depth ≡ b → encoded.elements_of table list k octets i (cond b [] (lowered depth e ∷ list_at depth es)) ≡ Ok []
    by true lower = refl
    by false same =
        let flat : e.depth - depth ≡ 0 = omega (arith, ltb-true e.depth (depth + 1) low, ltb-false e.depth depth same) in
        ap (λ c. cond c (Ok []) (encoded.before (encoded.alone (encoded.element_of table list k i (lowered depth e) octets)) (encoded.elements_of table list k octets (i + 1) (list_at depth es)))) (eq-eqb (e.depth - depth) 0 flat)

module _ (octets : List ℕ) (set : Family) (k depth : ℕ) (x : Kinds) (family : ℕ) (scope : Scope) (list : Fields)
    (one : (i : ℕ) (e : Entry) (es : List Entry) (a : List ℕ) → (e.offset == inline) ≡ false → value_of octets scope (depth + 1) x i e es (inner_of octets (depth + 1) x es) ≡ Ok a → e.depth ≡ depth + 1
    → (is_above (depth + 1) es ≡ false) × (encoded.element_of (elements_at (table_of set) k) list k i (lowered depth e) octets ≡ Ok a)) where
  abbrev table : Table
  table = elements_at (table_of set) k

  elements_same : (i : ℕ) (es : List Entry) (t : List ℕ) → is_above (depth + 1) es ≡ false → AllByRecursion (IsPlain set family) (list_at depth es) → values_of octets scope (depth + 1) x i es ≡ Ok t
      → encoded.elements_of table list k octets i (list_at depth es) ≡ Ok t
  elements_same i [] t near plain h = ap Ok (ok_same [] t h)
  elements_same i (e ∷ es) t near plain h = elim (cases_Bool (nat_lt e.depth (depth + 1))) [
    | inl low ↦
        let ends : encoding_ok [] ≡ encoding_ok t = sym (ap (λ b. cond b (Ok []) (before (cond (e.depth == depth + 1) (value_of octets scope (depth + 1) x i e es (inner_of octets (depth + 1) x es)) (Ok [])) (values_of octets scope (depth + 1) x (i + 1) es))) low) ∙ h in
        elements_end table list k depth octets i e es low ∙ ap Ok (ok_same [] t ends)
    | inr deep ↦
        let place = first_deep depth e deep near in
        let here = value_of octets scope (depth + 1) x i e es (inner_of octets (depth + 1) x es) in
        let step : before here (values_of octets scope (depth + 1) x (i + 1) es) ≡ Ok t = sym (ap₂ (λ b c. cond b (Ok []) (before (cond c here (Ok [])) (values_of octets scope (depth + 1) x (i + 1) es))) deep (eq-eqb e.depth (depth + 1) place)) ∙ h in
        let (a, b, first, others, join) = before_ok here (values_of octets scope (depth + 1) x (i + 1) es) t step in
        let listed : list_at depth (e ∷ es) ≡ lowered depth e ∷ list_at depth es = ap (λ c. cond c [] (lowered depth e ∷ list_at depth es)) (le-ltb e.depth depth (omega (arith, place))) in
        let both = subst (AllByRecursion (IsPlain set family)) listed plain in
        let (none, mine) = one i e es a both.0.lent first place in
        let rest = elements_same (i + 1) es b none both.1 others in
        let inner : e.depth - depth ≢ 0 = λ z. absurd (omega (arith, z, place)) in
        ap (encoded.elements_of table list k octets i) listed
        ∙ ap (λ c. cond c (Ok []) (encoded.before (encoded.alone (encoded.element_of table list k i (lowered depth e) octets)) (encoded.elements_of table list k octets (i + 1) (list_at depth es)))) (ne_eqb (e.depth - depth) 0 inner)
        ∙ ap₂ (λ r s. encoded.before (encoded.alone r) s) mine rest ∙ ap Ok (sym join)
  ]

-- ---- an attribute

near_of : (depth : ℕ) (es : List Entry) → begins_at depth es ≡ true → is_above depth es ≡ false
near_of depth [] h = refl
near_of depth (e ∷ es) h = le-ltb depth e.depth (omega (arith, eqb-true e.depth depth h))

-- no elements follow
none_below : (table : Table) (list : Fields) (k depth : ℕ) (octets : List ℕ) (es : List Entry) → is_above depth es ≡ false → encoded.elements_of table list k octets 0 (list_at depth es) ≡ Ok []
none_below table list k depth octets [] h = refl
none_below table list k depth octets (e ∷ es) h = elements_end table list k depth octets 0 e es (lt-ltb e.depth (depth + 1) (omega (arith, ltb-false depth e.depth h)))

module _ (octets : List ℕ) (set : Family) (depth : ℕ) (x : Kinds) (e : Entry) (es : List Entry) (lent : (e.offset == inline) ≡ false) (plain : AllByRecursion (IsPlain set x.address_family) (list_at depth es)) where
  abbrev attributes : Table
  attributes = table_of set

  abbrev inner : Scope → Encoding
  inner = inner_of octets depth x es

  -- the values that follow are its elements
  in_scope : (sub : Scope) (list : Fields) (t : List ℕ)
      → ((y : Kinds) (i : ℕ) (f : Entry) (fs : List Entry) (a : List ℕ) → (f.offset == inline) ≡ false → value_of octets sub (depth + 1) y i f fs (inner_of octets (depth + 1) y fs) ≡ Ok a → f.depth ≡ depth + 1
      → (is_above (depth + 1) fs ≡ false) × (encoded.element_of (elements_at attributes e.kind) list e.kind i (lowered depth f) octets ≡ Ok a))
      → inside_of (depth + 1) (Some sub) inner es ≡ Ok t → encoded.elements_of (elements_at attributes e.kind) list e.kind octets 0 (list_at depth es) ≡ Ok t
  in_scope sub list t one h =
      let y = kinds_in octets sub (depth + 1) x es in
      let (begins, is) = begins_or (begins_at (depth + 1) es) refl h in
      elements_same octets set e.kind depth y x.address_family sub list (one y) 0 es t (near_of (depth + 1) es begins) plain is
    where
      begins_or : (b : Bool) → begins_at (depth + 1) es ≡ b → cond b (inner sub) (Err (0, BadDepth)) ≡ Ok t → (begins_at (depth + 1) es ≡ true) × (inner sub ≡ Ok t)
      begins_or true begins is = (begins, is)
      begins_or false begins is = absurd cc

  nowhere : (list : Fields) (sub : Option Scope) (t : List ℕ) → sub ≡ None → inside_of (depth + 1) sub inner es ≡ Ok t → encoded.elements_of (elements_at attributes e.kind) list e.kind octets 0 (list_at depth es) ≡ Ok t
  nowhere list sub t none h = let bad : Err (0, BadDepth) ≡ encoding_ok t = sym (ap (λ s. inside_of (depth + 1) s inner es) none) ∙ h in absurd cc

  inside_same : (reader : Option Family) (own : Fields) (q t : List ℕ) → value_payload (Attributes set) reader own true e octets ≡ Ok q → inside_of (depth + 1) (scope_below (Attributes set) reader own e) inner es ≡ Ok t
      → encoded.elements_of (elements_at attributes e.kind) own e.kind octets 0 (list_at depth es) ≡ Ok t
  inside_same reader (fields.List flag) q t value h = in_scope (Elements set e.kind) (fields.List flag) t (λ y i f fs a low is deep. of_nested octets set e.kind depth y i f fs low flag a is deep) h
  inside_same reader (fields.Numbers n) q t value h = in_scope (Numbers n e.kind) (fields.Numbers n) t (λ y i f fs a low is deep. of_number octets set e.kind depth y i f fs low n a is deep) h
  inside_same reader (fields.Addresses size) q t value h = in_scope (Addresses size e.kind) (fields.Addresses size) t (λ y i f fs a low is deep. of_address octets set e.kind depth y i f fs low size a is deep) h
  inside_same reader (fields.Passed form None) q t value h = elim (plain_alone (Attributes set) reader true e octets q lent form value) [
    | inl bad ↦ absurd cc
    | inr none ↦ nowhere (fields.Passed form None) (scope_below (Attributes set) reader (fields.Passed form None) e) t none h
  ]
  inside_same reader own q t value h = nowhere own (scope_below (Attributes set) reader own e) t refl h

  below_same : (reader : Option Family) (own : Fields) (q t : List ℕ) (follow : Bool) → is_above depth es ≡ follow → value_payload (Attributes set) reader own follow e octets ≡ Ok q
      → cond follow (inside_of (depth + 1) (scope_below (Attributes set) reader own e) inner es) (Ok []) ≡ Ok t → encoded.elements_of (elements_at attributes e.kind) own e.kind octets 0 (list_at depth es) ≡ Ok t
  below_same reader own q t true above value h = inside_same reader own q t value h
  below_same reader own q t false above value h = none_below (elements_at attributes e.kind) own e.kind depth octets es above ∙ ap Ok (ok_same [] t h)

  pub attribute_same : (i : ℕ) (a : List ℕ) → is_protinfo set x.address_family e ≡ false → value_of octets (Attributes set) depth x i e es inner ≡ Ok a → encoded.attribute_of attributes octets (lowered depth e) (list_at depth es) ≡ Ok a
  attribute_same i a row h =
      let own = fields_at attributes e.kind in
      let f = field_of own e.kind e in
      let g = type_for (Attributes set) x.address_family i own e in
      let reader = set_for (Attributes set) x g in
      let follow = is_above depth es in
      let placed = sym (ap (λ b. value_by (Some (cond b (fields.Passed form_held None) own)) octets (Attributes set) depth x i e es inner) row) ∙ h in
      let is = (if_held (is_placed (Attributes set) own e) (0, BadDepth) (attribute_with octets (Attributes set) depth x i own e es inner) a placed).1 in
      let (p, payload, short, frame) = fitted_ok g (payload_with octets (Attributes set) depth x i own e es inner) a is in
      let (q, t, mine, others, join) = before_ok (alone (value_payload (Attributes set) reader own follow e octets)) (below_of depth (scope_below (Attributes set) reader own e) inner es) p payload in
      let value = alone_ok (value_payload (Attributes set) reader own follow e octets) q mine in
      let single : payload_of own (lowered depth e) octets ≡ Ok q = payload_depth own e (e.depth - depth) octets ∙ payload_ok (Attributes set) reader follow e octets q lent own value in
      let elements = below_same reader own q t follow refl value others in
      let low : g ≡ f % 65536 = ap (λ b. cond b (0x8000 + 12) (f % 65536)) row in
      ap₂ (λ r s. encoded.fitted (field_of own e.kind (lowered depth e)) (encoded.before (encoded.alone r) s)) single elements
      ∙ ap (λ k. encoded.fitted k (Ok (q ++ t))) (field_depth own e.kind e (e.depth - depth))
      ∙ ap (λ u. encoded.fitted f (Ok u)) (sym join)
      ∙ ap (λ b. cond b (Ok (frame_bytes (whole f p))) (Err (0, TooLong))) (le-leb (length p) max_payload short)
      ∙ ap Ok (sym (frame_low f p)) ∙ ap (λ k. Ok (frame_bytes (whole k p))) (sym low) ∙ ap Ok (sym frame)

-- ---- a list

module _ (octets : List ℕ) (set : Family) (depth : ℕ) (x : Kinds) where
  entry_same : (i : ℕ) (e : Entry) (es : List Entry) (a : List ℕ) → IsPlain set x.address_family e → AllByRecursion (IsPlain set x.address_family) (list_at depth es) → nat_lt e.depth depth ≡ false
      → cond (e.depth == depth) (value_of octets (Attributes set) depth x i e es (inner_of octets depth x es)) (Ok []) ≡ Ok a → encoded.entry_of (table_of set) octets (lowered depth e) (list_at depth es) ≡ Ok a
  entry_same i e es a plain others low h = elim (cases_Bool (e.depth == depth)) [
    | inl flat ↦
        let here : e.depth - depth ≡ 0 = omega (arith, eqb-true e.depth depth flat) in
        ap (λ b. cond b (encoded.attribute_of (table_of set) octets (lowered depth e) (list_at depth es)) (Ok [])) (eq-eqb (e.depth - depth) 0 here)
        ∙ attribute_same octets set depth x e es plain.lent others i a plain.row (sym (ap (λ b. cond b (value_of octets (Attributes set) depth x i e es (inner_of octets depth x es)) (Ok [])) flat) ∙ h)
    | inr deep ↦
        let off : e.depth - depth ≢ 0 = λ z. eqb-false e.depth depth deep (omega (arith, z, ltb-false e.depth depth low)) in
        let none : encoding_ok [] ≡ encoding_ok a = sym (ap (λ b. cond b (value_of octets (Attributes set) depth x i e es (inner_of octets depth x es)) (Ok [])) deep) ∙ h in
        ap (λ b. cond b (encoded.attribute_of (table_of set) octets (lowered depth e) (list_at depth es)) (Ok [])) (ne_eqb (e.depth - depth) 0 off) ∙ ap Ok (ok_same [] a none)
  ]

  entries_same : (i : ℕ) (es : List Entry) (s : List ℕ) → AllByRecursion (IsPlain set x.address_family) (list_at depth es) → values_of octets (Attributes set) depth x i es ≡ Ok s → encoded.entries_of (table_of set) octets (list_at depth es) ≡ Ok s
  entries_same i [] s plain h = ap Ok (ok_same [] s h)
  entries_same i (e ∷ es) s plain h =
      let here = cond (e.depth == depth) (value_of octets (Attributes set) depth x i e es (inner_of octets depth x es)) (Ok []) in
      let rest = values_of octets (Attributes set) depth x (i + 1) es in
      elim (cases_Bool (nat_lt e.depth depth)) [
        | inl low ↦
            let ends : encoding_ok [] ≡ encoding_ok s = sym (ap (λ b. cond b (Ok []) (before here rest)) low) ∙ h in
            ap (λ b. encoded.entries_of (table_of set) octets (cond b [] (lowered depth e ∷ list_at depth es))) low ∙ ap Ok (ok_same [] s ends)
        | inr high ↦
            let step : before here rest ≡ Ok s = sym (ap (λ b. cond b (Ok []) (before here rest)) high) ∙ h in
            let (a, b, first, others, join) = before_ok here rest s step in
            let listed : list_at depth (e ∷ es) ≡ lowered depth e ∷ list_at depth es = ap (λ c. cond c [] (lowered depth e ∷ list_at depth es)) high in
            let both = subst (AllByRecursion (IsPlain set x.address_family)) listed plain in
            let own : IsPlain set x.address_family e = record { lent = both.0.lent; row = both.0.row } in
            ap (encoded.entries_of (table_of set) octets) listed ∙ ap₂ (λ r t. encoded.before r t) (entry_same i e es a own both.1 high first) (entries_same (i + 1) es b both.1 others) ∙ ap Ok (sym join)
      ]

begins_same : (depth : ℕ) (es : List Entry) → begins_at depth es ≡ true → encoded.begins_well (list_at depth es) ≡ true
begins_same depth [] h = refl
begins_same depth (e ∷ es) h =
    let same = eqb-true e.depth depth h in
    let zero_deep : e.depth - depth ≡ 0 = omega (arith, same) in
    ap (λ b. encoded.begins_well (cond b [] (lowered depth e ∷ list_at depth es))) (le-ltb e.depth depth (omega (arith, same))) ∙ eq-eqb (e.depth - depth) 0 zero_deep

pub plain_values : (octets s : List ℕ) (set : Family) (depth i : ℕ) (x : Kinds) (es : List Entry) → AllByRecursion (IsPlain set x.address_family) (list_at depth es) → begins_at depth es ≡ true → values_of octets (Attributes set) depth x i es ≡ Ok s
    → encoded.encoded_by (table_of set) octets (list_at depth es) ≡ Ok s
plain_values octets s set depth i x es plain begins h =
    ap (λ b. cond b (encoded.entries_of (table_of set) octets (list_at depth es)) (Err (0, BadElement))) (begins_same depth es begins) ∙ entries_same octets set depth x i es s plain h
