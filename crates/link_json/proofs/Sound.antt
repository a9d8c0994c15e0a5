-- Values that may be in lines: their numbers are numbers of JSON, and no object in them has a key twice; and they nest at
-- most n deep.
use Rattle.std.proofs.Common.{◌≡◌, ℕ, ℤ, pos, negsuc, zero, suc, ◌+◌, ◌-◌, ◌%◌, ◌^◌, ◌≤◌, Bool, true, List, [], ◌∷◌, ◌++◌, map, length, Option, Some, None, refl, ap, ◌∙◌, arith, codes}
use Rattle.std.specs.Int.{w32, cast_signed}
use Rattle.std.specs.Str.{is_utf8}
use Rattle.std.proofs.lemmas.Bool.{cond_both}
use Rattle.json.specs.Json.{Json, null, boolean, string, array, object, Items, no_items, item, Members, no_members, member}
use Rattle.json.specs.Strict.{keys, AreDistinct, HasUniqueKeys, ItemsHaveUniqueKeys, MembersHaveUniqueKeys}
use Rattle.json.specs.Tree.{depth, items_depth, members_depth, HasNumbers, ItemsHaveNumbers, MembersHaveNumbers}
use Rattle.json.proofs.Printed.Decimals.{IsNumber-decimal, IsNumber-signed_decimal}
use Rattle.link_base.specs.declared.rows.form.ArrayOf.{ArrayOf}
use Rattle.link_base.specs.declared.rows.form.ArrayOf.TheVariants.{I32}
use Rattle.link_base.specs.declared.rows.form.Form.{Form}
use Rattle.link_base.specs.declared.rows.form.Form.TheVariants as forms
use Rattle.link_base.specs.declared.rows.form.Layout.{Layout}
use Rattle.link_base.specs.declared.rows.form.Layout.TheVariants as layouts
use Rattle.link_base.specs.declared.rows.form.Role.{Role}
use Rattle.link_base.specs.declared.rows.form.Role.TheVariants as roles
use Rattle.link_base.specs.Fields.{FieldRow, names_for}
use Rattle.link_base.specs.Labels.{name_in}
use Rattle.link_base.specs.Orders.{number_by}
use Rattle.link_base.specs.Payloads.{limit_fields}
use Rattle.link_base.specs.Frame.{kind_of}
use Rattle.link_show.specs.Flags.{set_names}
use Rattle.link_show.specs.List.{type_flags}
use Rattle.link_show.specs.Structs.{field_in, has_fields}
use Rattle.link_json.specs.Doc.{Field, members_of, items_of, object_of, eight_bytes, number_json, signed_json, name_json, named_json, element_json, at_json, error_json}
use Rattle.link_json.specs.Value.{hex_json, opaque_json, text_json, flags_json, role_json, form_json, field_json, fields_json, struct_json, limits_json, unit_fields, raw_json, item_json, places_json, numbers_json}
use Rattle.link_json.proofs.Keys.{are_distinct, distinct}
use Rattle.link_json.proofs.PlaceKeys.{are_keys, places_distinct}

pub record IsSound (n : ℕ) (j : Json) : Type 0 where
  pub numbers : HasNumbers j
  pub unique : HasUniqueKeys j
  pub shallow : depth j ≤ n

-- so are the values of members, and values
pub data AreSound (n : ℕ) : Members → Type 0 where
  no_fields : AreSound n no_members
  field_sound : {k : List ℕ} {j : Json} {ms : Members} → IsSound n j → AreSound n ms → AreSound n (member k j ms)

pub data EachSound (n : ℕ) : Items → Type 0 where
  no_values : EachSound n no_items
  value_sound : {j : Json} {js : Items} → IsSound n j → EachSound n js → EachSound n (item j js)

-- k more than d
abbrev pub above : ℕ → ℕ → ℕ
above zero d = d
above (suc k) d = suc (above k d)

module _ {d : ℕ} where
  -- ---- objects and arrays

  pub fields_facts : {ms : Members} → AreSound d ms → MembersHaveNumbers ms × MembersHaveUniqueKeys ms × (members_depth ms ≤ d)
  fields_facts no_fields = (tt, tt, omega arith)
  fields_facts (field_sound h g) = let rest = fields_facts g in ((h.numbers, rest.0), (h.unique, rest.1), omega (arith, h.shallow, rest.2))

  values_facts : {js : Items} → EachSound d js → ItemsHaveNumbers js × ItemsHaveUniqueKeys js × (items_depth js ≤ d)
  values_facts no_values = (tt, tt, omega arith)
  values_facts (value_sound h g) = let rest = values_facts g in ((h.numbers, rest.0), (h.unique, rest.1), omega (arith, h.shallow, rest.2))

  object_by : {ms : Members} → AreDistinct (keys ms) → AreSound d ms → IsSound (suc d) (object ms)
  object_by e h = let facts = fields_facts h in record { numbers = facts.0; unique = (e, facts.1); shallow = omega (arith, facts.2) }

  -- an object whose keys are literals
  pub object_sound : {ms : Members} → are_distinct (keys ms) ≡ true → AreSound d ms → IsSound (suc d) (object ms)
  object_sound {ms} e h = object_by (distinct (keys ms) e) h

  pub array_sound : {js : Items} → EachSound d js → IsSound (suc d) (array js)
  array_sound h = let facts = values_facts h in record { numbers = facts.0; unique = facts.1; shallow = omega (arith, facts.2) }

  pub fields_both : (a b : List Field) → AreSound d (members_of a) → AreSound d (members_of b) → AreSound d (members_of (a ++ b))
  fields_both [] b h g = g
  fields_both (x ∷ a) b (field_sound h t) g = field_sound h (fields_both a b t g)

  pub values_both : (a b : List Json) → EachSound d (items_of a) → EachSound d (items_of b) → EachSound d (items_of (a ++ b))
  values_both [] b h g = g
  values_both (j ∷ a) b (value_sound h t) g = value_sound h (values_both a b t g)

  -- what is sound at most d deep is so at most n deep
  pub deeper_sound : {n : ℕ} {j : Json} → d ≤ n → IsSound d j → IsSound n j
  deeper_sound more h = record { numbers = h.numbers; unique = h.unique; shallow = omega (arith, h.shallow, more) }

  pub one_sound : {n : ℕ} {j : Json} {js : List Json} → d ≤ n → js ≡ j ∷ [] → IsSound d j → EachSound n (items_of js)
  one_sound more e h = rw e (value_sound (deeper_sound more h) no_values)

  values_by : {X : Type 0} (f : X → Json) → ((x : X) → IsSound d (f x)) → (xs : List X) → EachSound d (items_of (map f xs))
  values_by f h [] = no_values
  values_by f h (x ∷ xs) = value_sound (h x) (values_by f h xs)

  -- ---- strings and numbers

  pub string_sound : (s : List ℕ) → IsSound d (string s)
  string_sound s = record { numbers = tt; unique = tt; shallow = omega arith }

  pub boolean_sound : (b : Bool) → IsSound d (boolean b)
  boolean_sound b = record { numbers = tt; unique = tt; shallow = omega arith }

  pub null_sound : IsSound d null
  null_sound = record { numbers = tt; unique = tt; shallow = omega arith }

  pub number_sound : (n : ℕ) → IsSound d (number_json n)
  number_sound n = record { numbers = IsNumber-decimal (eight_bytes n) (omega arith); unique = tt; shallow = omega arith }

  pub signed_sound : (z : ℤ) → IsSound d (signed_json z)
  signed_sound (pos n) = record { numbers = IsNumber-signed_decimal (pos (n % 2 ^ 31)) (omega arith); unique = tt; shallow = omega arith }
  signed_sound (negsuc n) = record { numbers = IsNumber-signed_decimal (negsuc (n % 2 ^ 31)) (omega arith); unique = tt; shallow = omega arith }

  pub opaque_sound : (bytes : List ℕ) → IsSound (suc d) (opaque_json bytes)
  opaque_sound bytes = object_sound refl (field_sound (string_sound _) no_fields)

  pub name_sound : (name : Option (List ℕ)) → IsSound d (name_json name)
  name_sound None = null_sound
  name_sound (Some name) = string_sound name

  pub named_sound : (n : ℕ) (name : Option (List ℕ)) → IsSound (suc d) (named_json n name)
  named_sound n name = object_sound refl (field_sound (number_sound n) (field_sound (name_sound name) no_fields))

  pub at_sound : (at : Option ℕ) → IsSound d (at_json at)
  at_sound None = null_sound
  at_sound (Some at) = number_sound at

  number_item : (a : ArrayOf) (n : ℕ) → IsSound d (item_json a n)
  number_item I32 n = signed_sound (cast_signed w32 n)
  number_item a n = number_sound n

  places_sound : (names : List (ℕ × List ℕ)) (a : ArrayOf) (i : ℕ) (ns : List ℕ) → AreSound d (members_of (places_json names a i ns))
  places_sound names a i [] = no_fields
  places_sound names a i (n ∷ ns) = field_sound (number_item a n) (places_sound names a (i + 1) ns)

  -- numbers, whose places may have names
  pub array_of_numbers : (names : List (ℕ × List ℕ)) (a : ArrayOf) (ns : List ℕ) → are_keys names ≡ true → length ns ≤ 2 ^ 64 → IsSound (suc d) (numbers_json names a ns)
  array_of_numbers [] a ns keys few = array_sound (values_by (item_json a) (number_item a) ns)
  array_of_numbers (x ∷ names) a ns keys few = object_by (places_distinct (x ∷ names) keys a ns few) (places_sound (x ∷ names) a 0 ns)

module _ {d : ℕ} where
  pub text_sound : (t : List ℕ) → IsSound (suc d) (text_json t)
  text_sound t = cond_both (is_utf8 t) (string t) (opaque_json t) (IsSound (suc d)) (λ e. string_sound t) (λ e. opaque_sound t)

  pub error_sound : (at : Option ℕ) (text : List ℕ) → IsSound (suc d) (error_json at text)
  error_sound at text = object_sound refl (field_sound (at_sound at) (field_sound (string_sound text) no_fields))

  pub flags_sound : (names : List (ℕ × List ℕ)) (bits : ℕ) → IsSound (above 2 d) (flags_json names bits)
  flags_sound names bits =
      object_sound refl (field_sound (number_sound bits) (field_sound (array_sound (values_by (λ x. string x.1) (λ x. string_sound x.1) (set_names names bits))) no_fields))

  pub element_sound : (name value : Json) (unit : Option (List ℕ)) → IsSound d name → IsSound d value → IsSound (suc d) (element_json name value (unit_fields unit))
  element_sound name value None h g = object_sound refl (field_sound h (field_sound g no_fields))
  element_sound name value (Some unit) h g = object_sound refl (field_sound h (field_sound g (field_sound (string_sound unit) no_fields)))

-- ---- structs

-- the keys of fields
abbrev keys_of : List FieldRow → List (List ℕ)
keys_of fields = map (λ f. f.name) fields

keys_shown : (start : ℕ) (names : List (ℕ × List ℕ)) (p : List ℕ) (fields : List FieldRow) → keys (members_of (map (field_json start names p) fields)) ≡ keys_of fields
keys_shown start names p [] = refl
keys_shown start names p (f ∷ fields) = ap (λ ks. f.name ∷ ks) (keys_shown start names p fields)

module _ {d : ℕ} where
  pub role_sound : (names : List (ℕ × List ℕ)) (role : Role) (n : ℕ) → IsSound (above 2 d) (role_json names role n)
  role_sound names roles.Plain n = number_sound n
  role_sound names roles.Flags n = flags_sound names n
  role_sound names roles.Coded n = named_sound n (name_in names n)
  role_sound names roles.Enum n = named_sound n (name_in names n)

  form_sound : (names : List (ℕ × List ℕ)) (form : Form) (p : List ℕ) → IsSound (above 2 d) (form_json names form p)
  form_sound names (forms.Number w order role) p = role_sound names role (number_by order p)
  form_sound names form p = string_sound _

  all_said : (start : ℕ) (names : List (ℕ × List ℕ)) (p : List ℕ) (fields : List FieldRow) → AreSound (above 2 d) (members_of (map (field_json start names p) fields))
  all_said start names p [] = no_fields
  all_said start names p (f ∷ fields) = field_sound (form_sound (names_for names f.names) f.form (field_in start p f)) (all_said start names p fields)

  pub object_of_fields : (fields : List FieldRow) (names : List (ℕ × List ℕ)) (p : List ℕ) → are_distinct (keys_of fields) ≡ true → IsSound (above 3 d) (object_of (fields_json fields 0 names p))
  object_of_fields fields names p e =
      cond_both (has_fields fields 0 p) (map (field_json 0 names p) fields) ((codes "hex", hex_json p) ∷ []) (λ shown. IsSound (above 3 d) (object_of shown))
      (λ t. object_sound (ap are_distinct (keys_shown 0 names p fields) ∙ e) (all_said 0 names p fields)) (λ t. opaque_sound p)

  pub struct_sound : (layout : Layout) (fields : List FieldRow) (names : List (ℕ × List ℕ)) (p : List ℕ) → are_distinct (keys_of fields) ≡ true → IsSound (above 3 d) (struct_json layout fields names p)
  struct_sound layouts.BridgeId fields names p e = string_sound _
  struct_sound layout fields names p e = object_of_fields fields names p e

  pub limits_sound : (name p : List ℕ) → IsSound (above 3 d) (limits_json name p)
  limits_sound name p =
      cond_both (has_fields limit_fields 16 p) (map (field_json 16 [] p) limit_fields) ((codes "hex", hex_json p) ∷ []) (λ shown. IsSound (above 3 d) (object_of ((codes "name", text_json name) ∷ shown)))
      (λ t. object_sound (ap (λ ks. are_distinct (codes "name" ∷ ks)) (keys_shown 16 [] p limit_fields)) (field_sound (text_sound name) (all_said 16 [] p limit_fields)))
      (λ t. object_sound refl (field_sound (text_sound name) (field_sound (string_sound _) no_fields)))

  pub raw_sound : (f : ℕ) (p : List ℕ) → IsSound (above 3 d) (raw_json f p)
  raw_sound f p = object_sound refl (field_sound (number_sound (kind_of f)) (field_sound (flags_sound type_flags (f - kind_of f)) (field_sound (string_sound _) no_fields)))
