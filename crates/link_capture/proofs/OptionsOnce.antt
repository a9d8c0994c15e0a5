-- The options of an interface can be read in one way only.
use Rattle.std.proofs.Common.{◌≡◌, ◌≢◌, ◌⊎◌, ◌<◌, ◌≤◌, ℕ, ◌+◌, List, [], length, take, drop, Option, Some, None, Result, Ok, Err, refl, sym, ap, ◌∙◌, arith, inl, inr, length-drop}
use Rattle.std.proofs.lemmas.Bool.{cases_eq, cases_lt}
use Rattle.std.proofs.lemmas.List.{length-take-le}
use Rattle.link_capture.specs.declared.error.InputError.{InputError}
use Rattle.link_capture.specs.declared.error.InputError.TheVariants as errors
use Rattle.link_capture.specs.declared.order.Order.{Order}
use Rattle.link_capture.specs.Front.{gap}
use Rattle.link_capture.specs.Order.{number_at}
use Rattle.link_capture.specs.Options.{Coded, HasNoOption, HasHeader, BeginsWithOption, AreOptions, IsClock, clock_of}
use Rattle.link_capture.proofs.Once.{OnlyOne, one_run}

-- an option, and the bytes after it; or the end of the options, and its error
abbrev First : Type 0
First = Result (Coded × List ℕ) (Option InputError)

-- this is at the front of s
abbrev IsFirst : Order → List ℕ → First → Type 0
IsFirst order s (Ok (o, rest)) = BeginsWithOption order s o rest
IsFirst order s (Err fault) = AreOptions order s [] fault

module _ (order : Order) (s : List ℕ) where
  -- the code of an option, by its header
  abbrev code : ℕ
  code = number_at order 2 0 s

  -- the length of its value
  abbrev size : ℕ
  size = number_at order 2 2 s

  -- its value, if that is complete
  abbrev value : List ℕ
  value = take size (drop 4 s)

  -- its error, if that is not
  abbrev overrun : InputError
  overrun = errors.OptionOverrun code size (length (drop 4 s))

  -- the bytes after a value
  abbrev after : List ℕ → List ℕ
  after v = drop (4 + (length v + gap (length v))) s

  -- where there is no option, there is no header of one
  no_header : (c n : ℕ) → HasNoOption order s → HasHeader order s c n → ⊥
  no_header c n (inl short) header = omega (arith, short, header.0)
  no_header c n (inr e) header = header.1 (header.2 ∙ e)

  -- where there is no option, nothing but the end is first
  only_end : HasNoOption order s → (f : First) → IsFirst order s f → f ≡ Err None
  only_end none (Ok (o, rest)) begins = absurd (no_header o.0 (length o.1) none begins.header)
  only_end none (Err None) h = refl
  only_end none (Err (Some e)) h = absurd (no_header h.0 h.1.0 none h.1.1)

  -- where a value is not complete, nothing but its error is first
  only_overrun : HasHeader order s code size → length s < 4 + size → (f : First) → IsFirst order s f → f ≡ Err (Some overrun)
  only_overrun header short (Ok (o, rest)) begins = absurd (omega (arith, short, begins.fits, begins.header.3))
  only_overrun header short (Err None) h = absurd (no_header code size h header)
  only_overrun header short (Err (Some e)) (c, (n, own, _, is)) = ap (λ x. Err (Some x)) (is ∙ λ i. errors.OptionOverrun (own.2 i) (own.3 i) (length (drop 4 s)))

  -- where it is, nothing but the option is first
  only_option : HasHeader order s code size → 4 + size ≤ length s → (f : First) → IsFirst order s f → f ≡ Ok ((code, value), after value)
  only_option header long (Ok (o, rest)) begins =
      let same : o.1 ≡ value = begins.value ∙ ap (λ n. take n (drop 4 s)) begins.header.3 in
      λ i. Ok ((begins.header.2 i, same i), (begins.after ∙ ap after same) i)
  only_option header long (Err None) h = absurd (no_header code size h header)
  only_option header long (Err (Some e)) (c, (n, own, short, _)) = absurd (omega (arith, short, long, own.3))

  -- and the option is first
  is_option : HasHeader order s code size → 4 + size ≤ length s → BeginsWithOption order s (code, value) (after value)
  is_option header long =
      let is : length value ≡ size = length-take-le size (drop 4 s) (omega (arith, long, length-drop 4 s)) in
      record { header = (header.0, header.1, header.2, is); fits = omega (arith, is, long); value = ap (λ n. take n (drop 4 s)) (sym is); after = refl }

  -- one thing is first, by cases
  one_by : (length s < 4) ⊎ (4 ≤ length s) → (code ≡ 0) ⊎ (code ≢ 0) → (length s < 4 + size) ⊎ (4 + size ≤ length s) → OnlyOne (IsFirst order s)
  one_by (inl short) _ _ = record { value = Err None; is = inl short; only = only_end (inl short) }
  one_by (inr long) (inl none) _ = record { value = Err None; is = inr none; only = only_end (inr none) }
  one_by (inr long) (inr some) (inl short) =
      let header : HasHeader order s code size = (long, some, refl, refl) in
      record { value = Err (Some overrun); is = (code, (size, header, short, refl)); only = only_overrun header short }
  one_by (inr long) (inr some) (inr fits) =
      let header : HasHeader order s code size = (long, some, refl, refl) in
      record { value = Ok ((code, value), after value); is = is_option header fits; only = only_option header fits }

  -- one thing is first
  one_first : OnlyOne (IsFirst order s)
  one_first = one_by (cases_lt (length s) 4) (cases_eq code 0) (cases_lt (length s) (4 + size))

-- an option has at least four bytes
shorter : (order : Order) (s : List ℕ) (o : Coded) (rest : List ℕ) → BeginsWithOption order s o rest → length rest < length s
shorter order s o rest begins = omega (arith, begins.header.0, ap length begins.after, length-drop (4 + (length o.1 + gap (length o.1))) s)

-- there is one list of options, with its error
one_list : (order : Order) (s : List ℕ) → OnlyOne (λ (r : List Coded × Option InputError). AreOptions order s r.0 r.1)
one_list order s = one_run length (λ s rest. rest) (IsFirst order) (AreOptions order) (λ s e. (λ h. h, λ h. h)) (λ s x xs e. (λ h. h, λ h. h)) (one_first order) (shorter order) s

-- the options say one thing of times
pub one_clock : (order : Order) (s : List ℕ) → OnlyOne (IsClock order s)
one_clock order s =
    let one = one_list order s in
    record {
      value = clock_of order one.value.0 one.value.1;
      is = (one.value.0, (one.value.1, one.is, refl));
      only = λ clock (options, (fault, are, is)). is ∙ ap (λ r. clock_of order r.0 r.1) (one.only (options, fault) are);
    }
