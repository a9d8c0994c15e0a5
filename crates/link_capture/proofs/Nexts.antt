-- What is at the front of an input, by the bytes that were read of it.
use Rattle.std.proofs.Common.{◌≡◌, ◌≢◌, ◌⊎◌, ◌<◌, ◌≤◌, ℕ, ◌+◌, min, Bool, true, List, [], ◌++◌, length, take, Ok, Err, sym, ap, subst, ◌∙◌, arith, length-append, inl, inr}
use Rattle.std.proofs.lemmas.List.{append-nil, take-append-le}
use Rattle.link_capture.specs.declared.error.InputError.{InputError}
use Rattle.link_capture.specs.declared.error.InputError.TheVariants as errors
use Rattle.link_capture.specs.declared.error.Head.{Head}
use Rattle.link_capture.specs.declared.error.Head.TheVariants as heads
use Rattle.link_capture.specs.declared.error.Size.{Size}
use Rattle.link_capture.specs.declared.front.Front.TheVariants as fronts
use Rattle.link_capture.specs.Block.{After}
use Rattle.link_capture.specs.Front.{front_of, head_of, head_size, size_of}
use Rattle.link_capture.specs.Meaning.{UnitMeaning, State}
use Rattle.link_capture.specs.Unit.{IsTaken, IsUnit, IsError, Cut, Start, Whole, Follows}
use Rattle.link_capture.proofs.Fronts.{sized_bounded, sized_kept, front_kept, has_head, IsDecided}

-- n bytes are there, or no more will come
abbrev pub IsDue : Bool → ℕ → List ℕ → Type 0
IsDue is_last n s = (is_last ≡ true) ⊎ (n ≤ length s)

same_size : (is_last : Bool) (n : ℕ) (s more : List ℕ) → IsDue is_last n s → Follows is_last more → min n (length s) ≡ min n (length (s ++ more))
same_size is_last n s more (inl e) follows = ap (λ t. min n (length t)) (sym (ap (λ m. s ++ m) (follows e) ∙ append-nil s))
same_size is_last n s more (inr h) follows = omega (arith, h, length-append s more)

-- bytes that hold something
not_empty : (n : ℕ) (s more : List ℕ) → n ≤ length s → 0 < n → (s ++ more) ≢ []
not_empty n s more h some e = absurd (omega (arith, h, some, length-append s more, ap length e))

head_some : (head : Head) → 12 ≤ head_size head
head_some heads.Pcap = omega arith
head_some heads.Record = omega arith
head_some heads.Block = omega arith
head_some heads.Message = omega arith

module _ (state : State) (s : List ℕ) (n padding : ℕ) (front : front_of state.form s ≡ fronts.Sized n padding) where
  kept_taken : (more : List ℕ) (after : After) → n ≤ length s → IsTaken state (take n s) after → IsTaken state (take n (s ++ more)) after
  kept_taken more after h taken = subst (λ u. IsTaken state u after) (sym (take-append-le n s more h)) taken

  -- it has some bytes
  pub some : 0 < n
  some = let b = sized_bounded state.form s n padding front in omega (arith, b.0, head_some (head_of state.form))

  -- a whole unit
  pub whole_unit : (is_last : Bool) (size : ℕ) (meaning : UnitMeaning) (next : State) → IsDue is_last (n + padding) s → n ≤ length s → size ≡ min (n + padding) (length s) → IsTaken state (take n s) (Ok (meaning, next))
      → (0 < size) × (size ≤ length s) × ((more : List ℕ) → Follows is_last more → IsUnit state (s ++ more) meaning size next)
  whole_unit is_last size meaning next due whole e taken = (
    omega (arith, e, some, whole),
    omega (arith, e),
    λ more follows. record {
      n = n;
      gap = padding;
      front = sized_kept state.form s more n padding front;
      whole = omega (arith, whole, length-append s more);
      taken = kept_taken more (Ok (meaning, next)) whole taken;
      all = e ∙ same_size is_last (n + padding) s more due follows;
    },
  )

  -- a whole unit with an error
  pub whole_wrong : (is_last : Bool) (error : InputError) → n ≤ length s → IsTaken state (take n s) (Err error) → (more : List ℕ) → Follows is_last more → ((s ++ more) ≢ []) × IsError state (s ++ more) error
  whole_wrong is_last error whole taken more follows = (
    not_empty n s more whole some,
    Whole n padding (sized_kept state.form s more n padding front) (omega (arith, whole, length-append s more)) (kept_taken more (Err error) whole taken),
  )

  -- the bytes end within a unit
  pub cut_unit : (is_last : Bool) (size : Size) → size ≡ size_of state.form → IsDue is_last (n + padding) s → length s < n → (is_last ≡ true → s ≢ []) → (more : List ℕ) → Follows is_last more
      → ((s ++ more) ≢ []) × IsError state (s ++ more) (errors.Overrun size n (length s))
  cut_unit is_last size is (inr h) short filled more follows = absurd (omega (arith, h, short))
  cut_unit is_last size is (inl e) short filled more follows =
      let same : s ++ more ≡ s = ap (λ m. s ++ m) (follows e) ∙ append-nil s in
      subst (λ t. (t ≢ []) × IsError state t (errors.Overrun size n (length s))) (sym same) (filled e, Cut n padding front short (ap (λ k. errors.Overrun k n (length s)) is))

-- an error at the start of a unit
pub start_wrong : (state : State) (s : List ℕ) (is_last : Bool) (error : InputError) → front_of state.form s ≡ fronts.Wrong error → (more : List ℕ) → Follows is_last more → ((s ++ more) ≢ []) × IsError state (s ++ more) error
start_wrong state s is_last error front more follows =
    let decided : IsDecided (front_of state.form s) = subst IsDecided (sym front) tt in (
      not_empty (head_size (head_of state.form)) s more (has_head state.form s decided) (omega (arith, head_some (head_of state.form))),
      Start (front_kept state.form s more decided ∙ front),
    )
