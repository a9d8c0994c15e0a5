-- The first of some values, as a loop over a list meets it.
use Rattle.std.proofs.Common.{◌≡◌, ◌≢◌, ℕ, ◌+◌, ◌≤◌, cond, List, [], ◌∷◌, Ok, ap₂, arith}
use Rattle.std.proofs.lemmas.Bool.{eq-eqb, ne_eqb, le-ltb}
use Rattle.link_entries.specs.declared.entry.Entry.{Entry}
use Rattle.link_requests.specs.declared.level.Scope.{Scope}
use Rattle.link_requests.specs.Opening.{Kinds}
use Rattle.link_entries.specs.Encoded.{Encoding, before}
use Rattle.link_requests.specs.Value.{value_of}
use Rattle.link_requests.specs.Values.{values_of, inner_of}

module _ (octets : List ℕ) (scope : Scope) (depth : ℕ) (x : Kinds) (i : ℕ) (e : Entry) (es : List Entry) where
  abbrev pub here : Encoding
  here = value_of octets scope depth x i e es (inner_of octets depth x es)

  abbrev pub rest : Encoding
  rest = values_of octets scope depth x (i + 1) es

  -- a value of the list
  pub value_here : e.depth ≡ depth → values_of octets scope depth x i (e ∷ es) ≡ before (value_of octets scope depth x i e es (inner_of octets depth x es)) rest
  value_here flat = ap₂ (λ a b. cond a (Ok []) (before (cond b here (Ok [])) rest)) (le-ltb e.depth depth (omega (arith, flat))) (eq-eqb e.depth depth flat)

  -- a deeper one
  pub value_skipped : depth ≤ e.depth → e.depth ≢ depth → values_of octets scope depth x i (e ∷ es) ≡ before (Ok []) rest
  value_skipped low deep = ap₂ (λ a b. cond a (Ok []) (before (cond b here (Ok [])) rest)) (le-ltb e.depth depth low) (ne_eqb e.depth depth deep)
