-- There is one reading of an input.
use Rattle.std.proofs.Common.{◌≡◌, ◌≢◌, ◌↔◌, ◌<◌, ℕ, ◌+◌, List, [], ◌∷◌, length, drop, Option, Some, None, Result, Ok, Err, refl, ap, subst, ◌∙◌, arith, length-drop}
use Rattle.link_capture.specs.declared.error.InputError.{InputError}
use Rattle.link_capture.specs.declared.form.Form.{Form}
use Rattle.link_capture.specs.Meaning.{UnitMeaning, State}
use Rattle.link_capture.specs.Unit.{IsUnit, Leads, IsEnd, Reads}
use Rattle.link_capture.proofs.Once.{OnlyOne, only_like, one_run}
use Rattle.link_capture.proofs.UnitsOnce.{Found, IsFound, one_found, unit_bounded}

-- what is known at an offset, and the bytes that are left
abbrev Place : Type 0
Place = State × ℕ × List ℕ

-- a unit, with what is known after it and its length; or what ends the input
abbrev First : Type 0
First = Result (UnitMeaning × (State × ℕ)) (Option (ℕ × InputError))

-- this is what comes first at a place
abbrev IsFirst : Place → First → Type 0
IsFirst p (Ok (meaning, (next, size))) = IsUnit p.0 p.2 meaning size next
IsFirst p (Err fault) = IsEnd p.0 p.1 p.2 fault

-- what the units from a place on mean, and what ends the input
abbrev IsReading : Place → List UnitMeaning → Option (ℕ × InputError) → Type 0
IsReading p units fault = (q : Place) × Leads p.0 p.1 p.2 units q.0 q.1 q.2 × IsEnd q.0 q.1 q.2 fault

-- ---- what comes first

-- where nothing is left, nothing but the end comes first
only_none : (state : State) (at : ℕ) (f : First) → IsFirst (state, at, []) f → f ≡ Err None
only_none state at (Ok (meaning, (next, size))) u = let b = unit_bounded state [] meaning size next u in absurd (omega (arith, b.0, b.1))
only_none state at (Err None) e = refl
only_none state at (Err (Some fault)) e = absurd (e.0 refl)

-- where something is left, a unit or an error
module _ (state : State) (at : ℕ) (s : List ℕ) (left : s ≢ []) where
  -- what comes first, by what is found
  abbrev at_place : Found → First
  at_place (Ok unit) = Ok unit
  at_place (Err error) = Err (Some (at, error))

  -- this comes first
  is_first : (f : Found) → IsFound state s f → IsFirst (state, at, s) (at_place f)
  is_first (Ok unit) h = h
  is_first (Err error) h = (left, refl, h)

  -- nothing else does
  only_first : (f : First) → IsFirst (state, at, s) f → f ≡ at_place (one_found state s).value
  only_first (Ok unit) h = ap at_place ((one_found state s).only (Ok unit) h)
  only_first (Err None) h = absurd (left h)
  only_first (Err (Some fault)) h = (λ i. Err (Some (h.1 i, fault.1))) ∙ ap at_place ((one_found state s).only (Err fault.1) h.2)

  -- one thing comes first
  one_left : OnlyOne (IsFirst (state, at, s))
  one_left = record { value = at_place (one_found state s).value; is = is_first (one_found state s).value (one_found state s).is; only = only_first }

-- one thing comes first at each place
one_first : (state : State) (at : ℕ) (s : List ℕ) → OnlyOne (IsFirst (state, at, s))
one_first state at [] = record { value = Err None; is = refl; only = only_none state at }
one_first state at (b ∷ s) = one_left state at (b ∷ s) (λ e. absurd cc)

-- ---- readings

-- the place after a unit
abbrev next_place : Place → State × ℕ → Place
next_place p y = (y.0, p.1 + y.1, drop y.1 p.2)

-- fewer bytes are left there
shorter : (p : Place) (meaning : UnitMeaning) (y : State × ℕ) → IsFirst p (Ok (meaning, y)) → length (next_place p y).2 < length p.2
shorter p meaning y unit = let b = unit_bounded p.0 p.2 meaning y.1 y.0 unit in omega (arith, b.0, b.1, length-drop y.1 p.2)

-- a reading with no unit, by what comes first
no_unit : (p : Place) (fault : Option (ℕ × InputError)) → IsReading p [] fault ↔ IsFirst p (Err fault)
no_unit p fault = (λ (q, (state, at, left), end). subst (λ (z : Place). IsEnd z.0 z.1 z.2 fault) (λ i. (state i, at i, left i)) end, λ end. (p, (refl, refl, refl), end))

-- a reading with a unit, by this and the units after it
one_more : (p : Place) (meaning : UnitMeaning) (units : List UnitMeaning) (fault : Option (ℕ × InputError)) → IsReading p (meaning ∷ units) fault ↔ ((y : State × ℕ) × IsFirst p (Ok (meaning, y)) × IsReading (next_place p y) units fault)
one_more p meaning units fault = (λ (q, (next, (size, unit, leads)), end). ((next, size), unit, (q, leads, end)), λ ((next, size), unit, (q, leads, end)). (q, (next, (size, unit, leads)), end))

-- there is one reading of each input
pub one_reading : (form : Form) (s : List ℕ) → OnlyOne (λ (r : List UnitMeaning × Option (ℕ × InputError)). Reads form s r.0 r.1)
one_reading form s =
    only_like (λ r. (λ (q, leads, ends). record { last = q.0; end = q.1; left = q.2; leads = leads; ends = ends }, λ reads. ((reads.last, reads.end, reads.left), reads.leads, reads.ends)))
    (one_run (λ p. length p.2) next_place IsFirst IsReading no_unit one_more (λ p. one_first p.0 p.1 p.2) shorter (record { form = form; interfaces = [] }, 0, s))
