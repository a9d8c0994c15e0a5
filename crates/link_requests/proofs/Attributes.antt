-- The attributes that values encode to.
use Rattle.std.proofs.Common.{◌≡◌, ℕ, ◌+◌, ◌<◌, ◌≤◌, ◌%◌, ◌==◌, Bool, true, false, cond, List, [], ◌∷◌, ◌++◌, length, take, Option, Some, None, Ok, Err, refl, sym, ap, subst, ◌∙◌, arith}
use Rattle.std.specs.Prelude.{nat_lt, nat_le}
use Rattle.std.proofs.lemmas.Bool.{leb-true, eqb-true}
use Rattle.std.proofs.lemmas.List.{length-replicate}
use Rattle.std.proofs.Math.Seq.{take-length}
use Rattle.link_base.specs.Frame.{IsComplete, frame_bytes, gap, max_payload}
use Rattle.link_base.specs.Wire.{whole}
use Rattle.link_base.proofs.Readings.{AreFrames-cons}
use Rattle.link_entries.specs.declared.entry.Entry.{Entry}
use Rattle.link_entries.specs.declared.fields.Fields.{Fields}
use Rattle.link_entries.specs.declared.misfit.Misfit.TheVariants.{TooLong, BadDepth, Repeated}
use Rattle.link_entries.specs.Payload.{field_of}
use Rattle.link_entries.proofs.WrittenLists.{if_held}
use Rattle.netlink_packet_route.specs.declared.family.Family.TheVariants.{Link}
use Rattle.link_requests.specs.declared.head.Head.{Head}
use Rattle.link_requests.specs.declared.level.Scope.{Scope}
use Rattle.link_requests.specs.declared.level.Scope.TheVariants.{Attributes, Elements, Numbers}
use Rattle.link_requests.specs.Opening.{Kinds, no_kinds}
use Rattle.link_entries.specs.Encoded.{Encoding, before, fitted}
use Rattle.link_requests.specs.Value.{is_protinfo, is_placed, row_for, type_for, begins_at, payload_with, value_with, value_by, value_of}
use Rattle.link_requests.specs.Values.{values_of, inner_of}
use Rattle.link_requests.specs.Request.{up_to, attributes_of}
use Rattle.link_requests.specs.Lists.{unrepeated}
use Rattle.link_requests.specs.Law.{Attribute, attribute_by, attributes_in, Consists, has_attributes}

-- ---- encodings

pub before_ok : (here others : Encoding) (s : List ℕ) → before here others ≡ Ok s → (a : List ℕ) × (b : List ℕ) × (here ≡ Ok a) × (others ≡ Ok b) × (s ≡ a ++ b)
before_ok (Ok a) (Ok b) s e = (a, b, refl, refl, cc)
before_ok (Ok a) (Err x) s e = absurd cc
before_ok (Err x) others s e = absurd cc

fitted_by : (f : ℕ) (p s : List ℕ) (b : Bool) → nat_le (length p) max_payload ≡ b → cond {A = Encoding} b (Ok (frame_bytes (whole f p))) (Err (0, TooLong)) ≡ Ok s → (length p ≤ max_payload) × (s ≡ frame_bytes (whole f p))
fitted_by f p s true short e = (leb-true (length p) max_payload short, cc)
fitted_by f p s false long e = absurd cc

pub fitted_ok : (f : ℕ) (t : Encoding) (s : List ℕ) → fitted f t ≡ Ok s → (p : List ℕ) × (t ≡ Ok p) × (length p ≤ max_payload) × (s ≡ frame_bytes (whole f p))
fitted_ok f (Ok p) s e = let (short, is) = fitted_by f p s (nat_le (length p) max_payload) refl e in (p, refl, short, is)
fitted_ok f (Err x) s e = absurd cc

-- ---- attributes

type_low : (scope : Scope) (family i : ℕ) (own : Fields) (e : Entry) → type_for scope family i own e < 65536
type_low (Attributes set) family i own e = by (is_protinfo set family e)
  where
    by : (b : Bool) → cond b (0x8000 + 12) (field_of own e.kind e % 65536) < 65536
    by true = omega arith
    by false = omega arith
type_low (Elements set list) family i own e = omega arith
type_low scope family i own e = omega arith

consists_none : Consists [] []
consists_none = ([], record { frames = record {}; string = refl }, record {})

consists_more : (f : ℕ) (t : Encoding) (p b : List ℕ) (others : List Attribute) → f < 65536 → t ≡ Ok p → length p ≤ max_payload → Consists b others → Consists (frame_bytes (whole f p) ++ b) ((f, t) ∷ others)
consists_more f t p b others low is short (xs, frames, all) =
    let complete : IsComplete (whole f p) = record { kind_field = low; payload = short; padding = length-replicate {A = ℕ} (gap p) 0 } in (
      whole f p ∷ xs,
      record { frames = AreFrames-cons (whole f p) xs complete frames.frames; string = ap (λ s. frame_bytes (whole f p) ++ s) frames.string },
      ((refl, is), all),
    )

module _ (octets : List ℕ) (scope : Scope) (depth : ℕ) (x : Kinds) (attributes : has_attributes scope ≡ true) where
  module _ (i : ℕ) (e : Entry) (es : List Entry) (b : List ℕ) (others : List Attribute) (rest : Consists b others) where
    with_scope : (sc : Scope) → has_attributes sc ≡ true → (own : Fields) (a : List ℕ) → value_with octets sc depth x i own e es (inner_of octets depth x es) ≡ Ok a
        → Consists (a ++ b) (attribute_by (Some own) octets sc depth x i e es ++ others)
    with_scope (Numbers n list) h own a is = absurd cc
    with_scope sc h own a is =
        let f = type_for sc x.address_family i own e in
        let t = payload_with octets sc depth x i own e es (inner_of octets depth x es) in
        let (p, encoded, short, same) = fitted_ok f t a is in
        subst (λ u. Consists (u ++ b) ((f, t) ∷ others)) (sym same) (consists_more f t p b others (type_low sc x.address_family i own e) encoded short rest)

    one_value : (own : Option Fields) (a : List ℕ) → value_by own octets scope depth x i e es (inner_of octets depth x es) ≡ Ok a → Consists (a ++ b) (attribute_by own octets scope depth x i e es ++ others)
    one_value None a is = absurd cc
    one_value (Some own) a is =
        with_scope scope attributes own a (if_held (is_placed scope own e) (0, BadDepth) (value_with octets scope depth x i own e es (inner_of octets depth x es)) a is).1

    -- a value of the list, or a deeper one
    one_step : (flat : Bool) (a : List ℕ) → cond flat (value_of octets scope depth x i e es (inner_of octets depth x es)) (Ok []) ≡ Ok a
        → Consists (a ++ b) (cond flat (attribute_by (row_for scope x.address_family e) octets scope depth x i e es) [] ++ others)
    one_step true a is = one_value (row_for scope x.address_family e) a is
    one_step false a is = let none : [] ≡ a = cc in subst (λ u. Consists (u ++ b) others) none rest

  by_depth : (i : ℕ) (e : Entry) (es : List Entry) (s : List ℕ) → ((b : List ℕ) → values_of octets scope depth x (i + 1) es ≡ Ok b → Consists b (attributes_in octets scope depth x (i + 1) es)) → (ended : Bool)
      → cond ended (Ok []) (before (cond (e.depth == depth) (value_of octets scope depth x i e es (inner_of octets depth x es)) (Ok [])) (values_of octets scope depth x (i + 1) es)) ≡ Ok s
      → Consists s (cond ended [] (cond (e.depth == depth) (attribute_by (row_for scope x.address_family e) octets scope depth x i e es) [] ++ attributes_in octets scope depth x (i + 1) es))
  by_depth i e es s others true is = let none : [] ≡ s = cc in subst (λ u. Consists u []) none consists_none
  by_depth i e es s others false is =
      let (a, b, first, last, same) = before_ok (cond (e.depth == depth) (value_of octets scope depth x i e es (inner_of octets depth x es)) (Ok [])) (values_of octets scope depth x (i + 1) es) s is in
      subst (λ u. Consists u (cond (e.depth == depth) (attribute_by (row_for scope x.address_family e) octets scope depth x i e es) [] ++ attributes_in octets scope depth x (i + 1) es)) (sym same)
      (one_step i e es b (attributes_in octets scope depth x (i + 1) es) (others b last) (e.depth == depth) a first)

  pub list_consists : (i : ℕ) (es : List Entry) (s : List ℕ) → values_of octets scope depth x i es ≡ Ok s → Consists s (attributes_in octets scope depth x i es)
  list_consists i [] s h = let none : [] ≡ s = cc in subst (λ u. Consists u []) none consists_none
  list_consists i (e ∷ es) s h = by_depth i e es s (λ b. list_consists (i + 1) es b) (nat_lt e.depth depth) h

-- ---- a message

-- no list is repeated
up_to_ok : (n m : ℕ) (t : Encoding) (s : List ℕ) → up_to n m t ≡ Ok s → (n ≡ m) × (t ≡ Ok s)
up_to_ok n m (Ok u) s h = let right = if_held (n == m) (n, Repeated) (Ok u) s h in (eqb-true n m right.0, right.1)
up_to_ok n m (Err e) s h = absurd cc

-- what all values encode to
pub attributes_ok : (head : Head) (octets s : List ℕ) (es : List Entry) → attributes_of head octets es ≡ Ok s
    → (unrepeated [] es ≡ length es) × (values_of octets (Attributes Link) 0 (no_kinds head.address_family) 0 es ≡ Ok s)
attributes_ok head octets s es h = by (begins_at 0 es) h
  where
    encoded : List Entry → Encoding
    encoded these = values_of octets (Attributes Link) 0 (no_kinds head.address_family) 0 these

    n : ℕ
    n = unrepeated [] es

    by : (b : Bool) → cond {A = Encoding} b (up_to n (length es) (encoded (take n es))) (Err (0, BadDepth)) ≡ Ok s → (n ≡ length es) × (encoded es ≡ Ok s)
    by true is =
        let (all, same) = up_to_ok n (length es) (encoded (take n es)) s is in
        let whole : take n es ≡ es = ap (λ m. take m es) all ∙ take-length es in
        (all, sym (ap encoded whole) ∙ same)
    by false is = absurd cc

pub message_consists : (head : Head) (octets s : List ℕ) (es : List Entry) → attributes_of head octets es ≡ Ok s → Consists s (attributes_in octets (Attributes Link) 0 (no_kinds head.address_family) 0 es)
message_consists head octets s es h = list_consists octets (Attributes Link) 0 (no_kinds head.address_family) refl 0 es s (attributes_ok head octets s es h).1

pub list_found : (octets s : List ℕ) (scope : Scope) (depth i : ℕ) (x : Kinds) (es : List Entry) → has_attributes scope ≡ true → values_of octets scope depth x i es ≡ Ok s → Consists s (attributes_in octets scope depth x i es)
list_found octets s scope depth i x es h is = list_consists octets scope depth x h i es s is
