-- The set that reads a list is the one that `reader_of` finds.
use Rattle.std.proofs.Common.{◌≡◌, ◌⊎◌, ℕ, zero, suc, Bool, true, false, cond, ◌&&◌, ◌||◌, not, ◌==◌, List, [], ◌∷◌, Option, Some, None, refl, sym, ap, ap₂, subst, ◌∙◌, inl, inr}
use Rattle.std.specs.List.{list_all}
use Rattle.std.specs.Option.{option_and_then}
use Rattle.std.proofs.lemmas.Bool.{cases_Bool, and_parts, eqb-true}
use Rattle.std.proofs.lemmas.Slice.Eq.{bytes_eq-Decides}
use Rattle.netlink_packet_route.specs.declared.family.Family.{Family}
use Rattle.netlink_packet_route.specs.declared.family.Family.TheVariants as sets
use Rattle.netlink_packet_route.specs.declared.opening.Context.{Context}
use Rattle.netlink_packet_route.specs.Family.{Holding, InfoKind, PortKind, BridgeAttribute, NestedBridgeAttribute, Inet6Attribute, Within, LinkMessage, ReplyMessage, family_number, holders_of, IsOneOf, IsReadBy}
use Rattle.netlink_packet_route.specs.Opening.{holding_at, IsOpened}
use Rattle.netlink_packet_route.specs.Families.{all_families}
use Rattle.netlink_packet_route.proofs.Families.{each_family}
use Rattle.link_requests.specs.Opening.{kinds_of, holding_by, is_holding, holds_any, reader_in, reader_of, set_at}

-- ---- one holding

-- no two sets have the same number
abbrev set_in : List Family → ℕ → Option Family
set_in [] n = None
set_in (s ∷ families) zero = Some s
set_in (s ∷ families) (suc n) = set_in families n

-- The first clause only splits the cases: the second holds for each of the others
place : (s : Family) → set_in all_families (family_number s) ≡ Some s
place sets.AfSpecBridge = refl
place s = refl

some_same : (s t : Family) → Some s ≡ Some t → s ≡ t
some_same s t e = cc

one_set : (s t : Family) → family_number s ≡ family_number t → s ≡ t
one_set s t e = some_same s t (sym (place s) ∙ ap (set_in all_families) e ∙ place t)

or_parts : (a b : Bool) → a || b ≡ true → (a ≡ true) ⊎ (b ≡ true)
or_parts true b h = inl refl
or_parts false b h = inr h

is_holding_sound : (a b : Holding) → is_holding a b ≡ true → a ≡ b
is_holding_sound (InfoKind a) (InfoKind b) h = ap InfoKind ((bytes_eq-Decides a b).0 h)
is_holding_sound (PortKind a) (PortKind b) h = ap PortKind ((bytes_eq-Decides a b).0 h)
is_holding_sound (BridgeAttribute k) (BridgeAttribute l) h = ap BridgeAttribute (eqb-true k l h)
is_holding_sound (NestedBridgeAttribute k) (NestedBridgeAttribute l) h = ap NestedBridgeAttribute (eqb-true k l h)
is_holding_sound (Inet6Attribute k) (Inet6Attribute l) h = ap Inet6Attribute (eqb-true k l h)
is_holding_sound (Within s k) (Within t l) h =
    let (a, b) = and_parts (family_number s == family_number t) (k == l) h in
    ap₂ Within (one_set s t (eqb-true (family_number s) (family_number t) a)) (eqb-true k l b)
is_holding_sound LinkMessage LinkMessage h = refl
is_holding_sound ReplyMessage ReplyMessage h = refl
is_holding_sound a b h = absurd cc

-- ---- the holders of a set

any_sound : (h : Holding) (xs : List Holding) → holds_any h xs ≡ true → IsOneOf h xs
any_sound h [] e = absurd cc
any_sound h (x ∷ []) e = elim (or_parts (is_holding x h) false e) [ inl a ↦ is_holding_sound x h a | inr b ↦ absurd cc ]
any_sound h (x ∷ y ∷ xs) e = elim (or_parts (is_holding x h) (holds_any h (y ∷ xs)) e) [ inl a ↦ inl (is_holding_sound x h a) | inr b ↦ inr (any_sound h (y ∷ xs) b) ]

-- each holder is found among all of them
one_found : (h : Holding) (all xs : List Holding) → list_all (λ x. holds_any x all) xs ≡ true → IsOneOf h xs → holds_any h all ≡ true
one_found h all [] t e = absurd e
one_found h all (x ∷ []) t e = ap (λ y. holds_any y all) (sym e) ∙ (and_parts (holds_any x all) true t).0
one_found h all (x ∷ y ∷ xs) t e = elim e [
  | inl is ↦ ap (λ z. holds_any z all) (sym is) ∙ (and_parts (holds_any x all) (list_all (λ x. holds_any x all) (y ∷ xs)) t).0
  | inr others ↦ one_found h all (y ∷ xs) (and_parts (holds_any x all) (list_all (λ x. holds_any x all) (y ∷ xs)) t).1 others
]

any_complete : (h : Holding) (set : Family) → IsOneOf h (holders_of set) → holds_any h (holders_of set) ≡ true
any_complete h set e = one_found h (holders_of set) (holders_of set) (each_family (λ s. list_all (λ x. holds_any x (holders_of s)) (holders_of s)) refl set) e

-- ---- the set

module _ (h : Holding) where
  reader_sound : (families : List Family) (set : Family) → reader_in families h ≡ Some set → IsOneOf h (holders_of set)
  reader_sound [] set e = absurd cc
  reader_sound (s ∷ families) set e = elim (cases_Bool (holds_any h (holders_of s))) [
    | inl found ↦ subst (λ t. IsOneOf h (holders_of t)) (some_same s set (sym (ap (λ b. cond b (Some s) (reader_in families h)) found) ∙ e)) (any_sound h (holders_of s) found)
    | inr none ↦ reader_sound families set (sym (ap (λ b. cond b (Some s) (reader_in families h)) none) ∙ e)
  ]

  -- if none is found, no set is held so
  reader_none : (families : List Family) → reader_in families h ≡ None → list_all (λ s. not (holds_any h (holders_of s))) families ≡ true
  reader_none [] e = refl
  reader_none (s ∷ families) e = elim (cases_Bool (holds_any h (holders_of s))) [
    | inl found ↦ let wrong : Some s ≡ None = sym (ap (λ b. cond b (Some s) (reader_in families h)) found) ∙ e in absurd cc
    | inr none ↦ ap₂ (λ a b. not a && b) none (reader_none families (sym (ap (λ b. cond b (Some s) (reader_in families h)) none) ∙ e))
  ]

  not_held : (b : Bool) → not b ≡ true → b ≡ true → ⊥
  not_held true a e = absurd cc
  not_held false a e = absurd cc

  same_reader : (r o : Option Family) → reader_in all_families h ≡ o → IsReadBy h r → r ≡ o
  same_reader r (Some set) e is = (is set).1 (reader_sound all_families set e)
  same_reader None None e is = refl
  same_reader (Some set) None e is =
      let none = each_family (λ s. not (holds_any h (holders_of s))) (reader_none all_families e) set in
      absurd (not_held (holds_any h (holders_of set)) none (any_complete h set ((is set).0 refl)))

-- ---- the set that reads the list of a value

-- the kinds are those of the context
holding_same : (x : Context) (family : Family) (list : Option ℕ) (f : ℕ) → holding_at x family list f ≡ holding_by (kinds_of x) family list f
holding_same x sets.Link None f = refl
holding_same x sets.Link (Some list) f = refl
holding_same x set None f = refl
holding_same x set (Some list) f = refl

opened_same : (o : Option Holding) (r : Option Family) → IsOpened o r → r ≡ option_and_then reader_of o
opened_same None r is = is
opened_same (Some h) r is = same_reader h r (reader_of h) refl is

pub read_by : (x : Context) (family : Family) (list : Option ℕ) (f : ℕ) (r : Option Family) → IsOpened (holding_at x family list f) r → r ≡ set_at (kinds_of x) family list f
read_by x family list f r is = opened_same (holding_at x family list f) r is ∙ ap (option_and_then reader_of) (holding_same x family list f)
