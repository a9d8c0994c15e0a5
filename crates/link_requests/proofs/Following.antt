-- What follows a value.
use Rattle.std.proofs.Common.{◌≡◌, ◌⊎◌, ℕ, ◌==◌, Bool, true, false, cond, List, [], Option, Some, None, Result, Ok, Err, inl, inr, refl, sym, ap, ap₂, ◌∙◌}
use Rattle.std.specs.Option.{option_map}
use Rattle.std.proofs.lemmas.Bool.{cases_Bool}
use Rattle.netlink_packet_route.specs.declared.family.Family.{Family}
use Rattle.link_entries.specs.declared.entry.Entry.{Entry}
use Rattle.link_entries.specs.declared.fields.Fields.{Fields}
use Rattle.link_entries.specs.declared.fields.Fields.TheVariants as fields
use Rattle.link_entries.specs.declared.misfit.Misfit.{Misfit}
use Rattle.link_entries.specs.declared.misfit.Misfit.TheVariants.{BadForm, BadDepth}
use Rattle.link_entries.specs.Forms.{form_held}
use Rattle.link_entries.proofs.WrittenLists.{if_held, no_bytes}
use Rattle.link_requests.specs.declared.level.Scope.{Scope}
use Rattle.link_requests.specs.declared.level.Scope.TheVariants.{Attributes}
use Rattle.link_requests.specs.Opening.{Kinds}
use Rattle.link_entries.specs.Encoded.{Encoding, alone, before, fitted}
use Rattle.link_requests.specs.Value.{inline, type_for, set_for, is_held, kind_for, allowed, value_bytes, announced, held_payload, bytes_payload, value_payload, is_above, scope_below, below_of, attribute_with}

-- ---- the set that reads a list in a value matters only if the value is a list of another set

pub scope_passed : (scope : Scope) (reader : Option Family) (form : ℕ) (e : Entry) → scope_below scope reader (fields.Passed form None) e ≡ cond (form == form_held) (option_map Attributes reader) None
scope_passed (Attributes set) reader form e = refl
scope_passed scope reader form e = refl

module _ (scope : Scope) (r s : Option Family) (e : Entry) where
  scope_same : (own : Fields) → (is_held own ≡ true → r ≡ s) → scope_below scope r own e ≡ scope_below scope s own e
  scope_same (fields.Passed form None) same = scope_passed scope r form e ∙ by (form == form_held) same ∙ sym (scope_passed scope s form e)
    where
      by : (b : Bool) → (b ≡ true → r ≡ s) → cond b (option_map Attributes r) None ≡ cond b (option_map Attributes s) None
      by true h = ap (option_map Attributes) (h refl)
      by false h = refl
  scope_same own same = by_scope scope
    where
      by_scope : (sc : Scope) → scope_below sc r own e ≡ scope_below sc s own e
      by_scope (Attributes set) = refl
      by_scope sc = refl

  payload_same : (own : Fields) (follow : Bool) (octets : List ℕ) → (is_held own ≡ true → r ≡ s) → value_payload scope r own follow e octets ≡ value_payload scope s own follow e octets
  payload_same (fields.Passed form None) follow octets same = ap (λ p. cond (e.form == form) p (Err BadForm)) (by (form == form_held) same)
    where
      plain : Result (List ℕ) Misfit
      plain = allowed scope (kind_for scope e) (value_bytes None e octets)

      by : (b : Bool) → (b ≡ true → r ≡ s) → cond b (held_payload r follow e octets) plain ≡ cond b (held_payload s follow e octets) plain
      by true h = ap (λ t. held_payload t follow e octets) (h refl)
      by false h = refl
  payload_same own follow octets same = refl

-- ---- an attribute, from what was found of it

module _ (octets : List ℕ) (scope : Scope) (depth : ℕ) (x : Kinds) (i : ℕ) (own : Fields) (e : Entry) (es : List Entry) (inner : Scope → Encoding) where
  abbrev pub attribute_by : ℕ → Option Family → Bool → Encoding
  attribute_by f reader follow = fitted f (before (alone (value_payload scope reader own follow e octets)) (below_of depth (scope_below scope reader own e) inner es))

  pub attribute_same : (f : ℕ) (reader : Option Family) (follow : Bool) → f ≡ type_for scope x.address_family i own e → (is_held own ≡ true → reader ≡ set_for scope x f) → follow ≡ is_above depth es → attribute_by f reader follow ≡ attribute_with octets scope depth x i own e es inner
  attribute_same f reader follow a b c =
      let r = set_for scope x f in
      let same = ap₂ (λ p sub. fitted f (before (alone p) (below_of depth sub inner es))) (payload_same scope reader r e own follow octets b) (scope_same scope reader r e own b) in
      same ∙ ap (attribute_by f r) c ∙ ap (λ k. attribute_by k (set_for scope x k) (is_above depth es)) a

-- ---- values follow

nothing_announced : (reader : Option Family) (p : List ℕ) → announced reader ≡ Ok p → p ≡ []
nothing_announced None p h = absurd cc
nothing_announced (Some set) p h = cc

-- then the value has no payload of its own, or they are in no list
module _ (scope : Scope) (reader : Option Family) (e : Entry) (octets p : List ℕ) where
  nothing_plain : (form : ℕ) → bytes_payload scope form reader true e octets ≡ Ok p → (p ≡ []) ⊎ (scope_below scope reader (fields.Passed form None) e ≡ None)
  nothing_plain form h = elim (cases_Bool (form == form_held)) [
    | inl held ↦
        let right = if_held (e.form == form) BadForm (cond (form == form_held) (held_payload reader true e octets) (allowed scope (kind_for scope e) (value_bytes None e octets))) p h in
        let is : held_payload reader true e octets ≡ Ok p = sym (ap (λ b. cond b (held_payload reader true e octets) (allowed scope (kind_for scope e) (value_bytes None e octets))) held) ∙ right.1 in
        inl (nothing_announced reader p (if_held (e.offset == inline) BadDepth (announced reader) p is).1)
    | inr other ↦ inr (scope_passed scope reader form e ∙ ap (λ b. cond b (option_map Attributes reader) None) other)
  ]

  pub nothing_own : (own : Fields) → value_payload scope reader own true e octets ≡ Ok p → (p ≡ []) ⊎ (scope_below scope reader own e ≡ None)
  nothing_own (fields.Numbers a) h = inl (no_bytes (fields.Numbers a) (record e { kind = kind_for scope e }) octets p refl h)
  nothing_own (fields.Addresses size) h = inl (no_bytes (fields.Addresses size) (record e { kind = kind_for scope e }) octets p refl h)
  nothing_own (fields.List flag) h = inl (no_bytes (fields.List flag) (record e { kind = kind_for scope e }) octets p refl h)
  nothing_own (fields.Passed form None) h = nothing_plain form h
  nothing_own own h = by_scope scope
    where
      by_scope : (s : Scope) → (p ≡ []) ⊎ (scope_below s reader own e ≡ None)
      by_scope (Attributes set) = inr refl
      by_scope s = inr refl
