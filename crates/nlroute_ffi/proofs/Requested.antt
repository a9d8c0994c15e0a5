-- What a caller gets of a request, from what was written.
use Rattle.std.proofs.Common.{◌≡◌, ℕ, ◌<◌, ◌^◌, List, length, Option, Some, None, Result, Ok, Err, refl, subst, arith}
use Rattle.std.specs.Prelude.{IfOk}
use Rattle.link_requests.specs.declared.misfit.RequestError.{RequestError}
use Rattle.link_requests.specs.Request.{Stores, sized}
use Rattle.nlroute_ffi.specs.declared.refusal.Refusal.{Refusal}
use Rattle.nlroute_ffi.specs.declared.refusal.Refusal.TheVariants.{NoRoom}
use Rattle.nlroute_ffi.specs.Requests.{refusal_of_request, index_of, Requested}

pub written : (r : Result (List ℕ) RequestError) (count n at : ℕ) (old new : List ℕ) (o : Option ℕ) → o ≡ Some n → Stores r old new (Ok o) → Requested r count old new at at (Ok n)
written (Ok s) count n at old new o is h =
    let (size, room, put) = subst (λ x. Stores (Ok s) old new (Ok x)) is h in
    (record { count = size; room = room; written = put }, refl)
written (Err e) count n at old new o is h = absurd (subst (λ x. Stores (Err e) old new (Ok x)) is h)

pub short : (r : Result (List ℕ) RequestError) (n : ℕ) (old new : List ℕ) (o : Option ℕ) → o ≡ Some n → Stores r old new (Ok o) → length old < 2 ^ 63 → n < 2 ^ 63
short (Ok s) n old new o is h low =
    let (size, room, put) = subst (λ x. Stores (Ok s) old new (Ok x)) is h in
    omega (arith, size, room, low)
short (Err e) n old new o is h low = absurd (subst (λ x. Stores (Err e) old new (Ok x)) is h)

pub sized_ok : (r : Result (List ℕ) RequestError) (n : ℕ) → Ok n ≡ sized r → IfOk r (λ s. n ≡ length s)
sized_ok (Ok s) n h = cc
sized_ok (Err e) n h = absurd cc

pub sized_err : (r : Result (List ℕ) RequestError) (error : RequestError) (n : ℕ) → Err error ≡ sized r → IfOk r (λ s. n ≡ length s)
sized_err (Ok s) error n h = absurd cc
sized_err (Err e) error n h = _

pub too_small : (r : Result (List ℕ) RequestError) (count n at : ℕ) (old new : List ℕ) (o : Option ℕ) → o ≡ None → Stores r old new (Ok o) → IfOk r (λ s. n ≡ length s) → Requested r count old new at n (Err NoRoom)
too_small (Ok s) count n at old new o is h size =
    let (small, same) = subst (λ x. Stores (Ok s) old new (Ok x)) is h in
    (small, same, size)
too_small (Err e) count n at old new o is h size = absurd (subst (λ x. Stores (Err e) old new (Ok x)) is h)

pub small_unchanged : (r : Result (List ℕ) RequestError) (old new : List ℕ) (o : Option ℕ) → o ≡ None → Stores r old new (Ok o) → new ≡ old
small_unchanged (Ok s) old new o is h = let (small, same) = subst (λ x. Stores (Ok s) old new (Ok x)) is h in same
small_unchanged (Err e) old new o is h = absurd (subst (λ x. Stores (Err e) old new (Ok x)) is h)

pub refused : (r : Result (List ℕ) RequestError) (error : RequestError) (count i at : ℕ) (old new : List ℕ) (refusal : Refusal) → Stores r old new (Err error) → i ≡ index_of count error → refusal ≡ refusal_of_request error → Requested r count old new at i (Err refusal)
refused (Ok s) error count i at old new refusal h index is = absurd h
refused (Err e) error count i at old new refusal (same, kept) index is = (subst (λ x. refusal ≡ refusal_of_request x) same is, kept, subst (λ x. i ≡ index_of count x) same index)

pub refused_unchanged : (r : Result (List ℕ) RequestError) (error : RequestError) (old new : List ℕ) → Stores r old new (Err error) → new ≡ old
refused_unchanged (Ok s) error old new h = absurd h
refused_unchanged (Err e) error old new (same, kept) = kept
