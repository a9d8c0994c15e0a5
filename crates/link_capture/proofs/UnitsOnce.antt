-- A unit means one thing only.
use Rattle.std.proofs.Common.{◌≡◌, ◌≢◌, ◌⊎◌, ◌<◌, ◌≤◌, ℕ, ◌+◌, min, List, length, take, Option, Some, None, Result, Ok, Err, nat_lt, if◌then◌else◌, refl, sym, ap, ◌∙◌, arith, inl, inr}
use Rattle.std.proofs.lemmas.Bool.{cases_eq, cases_lt, cond_both, cond-true, cond-false, ltb-true, ltb-false, lt-ltb, le-ltb}
use Rattle.link_capture.specs.declared.error.InputError.{InputError}
use Rattle.link_capture.specs.declared.error.InputError.TheVariants as errors
use Rattle.link_capture.specs.declared.error.Size.TheVariants as sizes
use Rattle.link_capture.specs.declared.form.Form.{Form}
use Rattle.link_capture.specs.declared.form.Form.TheVariants as forms
use Rattle.link_capture.specs.declared.front.Front.{Front}
use Rattle.link_capture.specs.declared.front.Front.TheVariants as fronts
use Rattle.link_capture.specs.declared.order.Order.{Order}
use Rattle.link_capture.specs.declared.pcapng.Interface.{Interface}
use Rattle.link_capture.specs.Block.{After, IsDescribed, Small, TooMany, Read, IsBlock, Unequal, Describes, Others, most_interfaces, options_in, with_clock, last_length, other}
use Rattle.link_capture.specs.Front.{front_of, head_of, size_of, order_of}
use Rattle.link_capture.specs.Order.{number_at}
use Rattle.link_capture.specs.Meaning.{UnitMeaning, State}
use Rattle.link_capture.specs.Unit.{IsBlockIn, IsTakenAs, IsTaken, IsUnit, IsError, Short, Cut, Start, Whole}
use Rattle.link_capture.proofs.Nexts.{some}
use Rattle.link_capture.proofs.Once.{OnlyOne, only_given}
use Rattle.link_capture.proofs.OptionsOnce.{one_clock}

-- ---- blocks

-- an interface is described in one way, by the length of the block and the number of interfaces
one_described : (order : Order) (is : List Interface) (u : List ℕ) → (length u < 20) ⊎ (20 ≤ length u) → (length is ≡ most_interfaces) ⊎ (length is ≢ most_interfaces) → OnlyOne (IsDescribed order is u)
one_described order is u (inl short) _ = record {
  value = Err (errors.Small sizes.Interface (length u) 20);
  is = Small short refl;
  only = λ after d. elim d [ Small _ e ↦ e | TooMany long _ _ ↦ absurd (omega (arith, short, long)) | Read long _ _ _ _ ↦ absurd (omega (arith, short, long)) ];
}
one_described order is u (inr long) (inl full) = record {
  value = Err errors.Interfaces;
  is = TooMany long full refl;
  only = λ after d. elim d [ Small short _ ↦ absurd (omega (arith, short, long)) | TooMany _ _ e ↦ e | Read _ room _ _ _ ↦ absurd (room full) ];
}
one_described order is u (inr long) (inr room) =
    let one = one_clock order (options_in u) in
    record {
      value = with_clock order is u one.value;
      is = Read long room one.value one.is refl;
      only = λ after d. elim d [ Small short _ ↦ absurd (omega (arith, short, long)) | TooMany _ full _ ↦ absurd (room full) | Read _ _ clock c e ↦ e ∙ ap (with_clock order is u) (one.only clock c) ];
    }

-- a block means one thing, by its lengths and its type
one_block : (order : Order) (is : List Interface) (u : List ℕ) → (last_length order u ≡ length u) ⊎ (last_length order u ≢ length u) → (number_at order 4 0 u ≡ 1) ⊎ (number_at order 4 0 u ≢ 1) → OnlyOne (IsBlock order is u)
one_block order is u (inr differ) _ = record {
  value = Err (errors.Unequal (length u) (last_length order u));
  is = Unequal differ refl;
  only = λ after b. elim b [ Unequal _ e ↦ e | Describes same _ _ ↦ absurd (differ same) | Others same _ _ ↦ absurd (differ same) ];
}
one_block order is u (inl same) (inl one) =
    let d = one_described order is u (cases_lt (length u) 20) (cases_eq (length is) most_interfaces) in
    record {
      value = d.value;
      is = Describes same one d.is;
      only = λ after b. elim b [ Unequal differ _ ↦ absurd (differ same) | Describes _ _ h ↦ d.only after h | Others _ more _ ↦ absurd (more one) ];
    }
one_block order is u (inl same) (inr more) = record {
  value = other order is u (number_at order 4 0 u);
  is = Others same more refl;
  only = λ after b. elim b [ Unequal differ _ ↦ absurd (differ same) | Describes _ one _ ↦ absurd (more one) | Others _ _ e ↦ e ];
}

-- ---- whole units

-- so does a block that may lack an order
one_block_in : (own : Option Order) (is : List Interface) (u : List ℕ) → OnlyOne (IsBlockIn own is u)
one_block_in None is u = only_given (Err errors.NoMagic)
one_block_in (Some order) is u = one_block order is u (cases_eq (last_length order u) (length u)) (cases_eq (number_at order 4 0 u) 1)

-- so does a unit of each form
one_taken : (form : Form) (is : List Interface) (u : List ℕ) → OnlyOne (IsTakenAs form is u)
one_taken (forms.Pcap order digits) is u = only_given _
one_taken (forms.Records order digits) is u = only_given _
one_taken (forms.Blocks order) is u = one_block_in (order_of order u) is u
one_taken forms.Messages is u = only_given _

-- ---- the unit at the front, or the error

-- a unit, with what is known after it and its length; or an error
abbrev pub Found : Type 0
Found = Result (UnitMeaning × (State × ℕ)) InputError

-- this is at the front of s
abbrev pub IsFound : State → List ℕ → Found → Type 0
IsFound state s (Ok (meaning, (next, size))) = IsUnit state s meaning size next
IsFound state s (Err error) = IsError state s error

module _ (state : State) (s : List ℕ) where
  -- what is found, by what a whole unit of n bytes means
  abbrev by_after : ℕ → ℕ → After → Found
  by_after n gap (Ok (meaning, next)) = Ok (meaning, (next, min (n + gap) (length s)))
  by_after n gap (Err error) = Err error

  -- a whole unit of n bytes means one thing
  taken : (n : ℕ) → OnlyOne (IsTaken state (take n s))
  taken n = one_taken state.form state.interfaces (take n s)

  -- what is found, by what the front says
  abbrev found : Front → Found
  found fronts.Short = Err (errors.Short (head_of state.form) (length s))
  found (fronts.Wrong error) = Err error
  found (fronts.Sized n gap) = if nat_lt (length s) n then Err (errors.Overrun (size_of state.form) n (length s)) else by_after n gap (taken n).value

  -- a whole unit, or its error, is at the front
  is_whole : (n gap : ℕ) (after : After) → front_of state.form s ≡ fronts.Sized n gap → n ≤ length s → IsTaken state (take n s) after → IsFound state s (by_after n gap after)
  is_whole n gap (Ok (meaning, next)) front whole t = record { n = n; gap = gap; front = front; whole = whole; taken = t; all = refl }
  is_whole n gap (Err error) front whole t = Whole n gap front whole t

  -- what is found is at the front
  is_found : (front : Front) → front_of state.form s ≡ front → IsFound state s (found front)
  is_found fronts.Short e = Short e refl
  is_found (fronts.Wrong error) e = Start e
  is_found (fronts.Sized n gap) e =
      cond_both (nat_lt (length s) n) _ _ (IsFound state s) (λ short. Cut n gap e (ltb-true (length s) n short) refl) (λ long. is_whole n gap (taken n).value e (ltb-false (length s) n long) (taken n).is)

  -- a whole unit, or its error, is what is found
  only_whole : (n gap : ℕ) (after : After) → n ≤ length s → IsTaken state (take n s) after → by_after n gap after ≡ found (fronts.Sized n gap)
  only_whole n gap after whole t = ap (by_after n gap) ((taken n).only after t) ∙ sym (cond-false _ _ _ (le-ltb (length s) n whole))

  -- what is at the front is what is found
  only_found : (f : Found) → IsFound state s f → f ≡ found (front_of state.form s)
  only_found (Ok (meaning, (next, size))) u = (λ i. Ok (meaning, (next, u.all i))) ∙ only_whole u.n u.gap (Ok (meaning, next)) u.whole u.taken ∙ ap found (sym u.front)
  only_found (Err error) h = elim h [
    | Short front e ↦ ap Err e ∙ ap found (sym front)
    | Cut n gap front short e ↦ ap Err e ∙ sym (cond-true _ _ _ (lt-ltb (length s) n short)) ∙ ap found (sym front)
    | Start front ↦ ap found (sym front)
    | Whole n gap front whole t ↦ only_whole n gap (Err error) whole t ∙ ap found (sym front)
  ]

  -- one thing is at the front
  pub one_found : OnlyOne (IsFound state s)
  one_found = record { value = found (front_of state.form s); is = is_found (front_of state.form s) refl; only = only_found }

-- a unit has some bytes, and at most those that are there
pub unit_bounded : (state : State) (s : List ℕ) (meaning : UnitMeaning) (size : ℕ) (next : State) → IsUnit state s meaning size next → (0 < size) × (size ≤ length s)
unit_bounded state s meaning size next u = let n : 0 < u.n = some state s u.n u.gap u.front in (omega (arith, n, u.all, u.whole), omega (arith, u.all))
