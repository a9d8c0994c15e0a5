-- What a run on several files rests on: what a new reader has, and the buffer after a run that did not fail.
use Rattle.std.proofs.Common.{◌≡◌, ℕ, Bool, true, false, not, ◌&&◌, ◌==◌, if◌then◌else◌, List, [], ◌++◌, Option, Some, None, sym, ap, ◌∙◌, refl, true≢false}
use Rattle.std.proofs.lemmas.List.{append-nil}
use Rattle.std.specs.Io.KnownBytes.{append_known}
use Rattle.program.specs.declared.until_end.UntilEnd.{UntilEnd}
use Rattle.program.specs.UntilEnd.{has_ended, left_of, reader_below}
use Rattle.nlshow.specs.Runs.{goes_on}

-- a new reader has what the reader below has
pub fresh : {R : Type 0} (remaining : R → Option (List ℕ)) (reader : UntilEnd R) (below : R) → reader_below reader ≡ below → has_ended reader ≡ false → left_of remaining reader ≡ remaining below
fresh remaining reader below is unended = ap (λ b. if b then Some [] else remaining (reader_below reader)) unended ∙ ap remaining is

-- with an empty buffer, the writer below has all that was given
pub nothing_kept : (known : Option (List ℕ)) (kept : List ℕ) → kept ≡ [] → append_known known kept ≡ known
nothing_kept None kept e = refl
nothing_kept (Some bytes) kept e = ap (λ l. Some (bytes ++ l)) e ∙ ap Some (append-nil bytes)

no_and : (b : Bool) → (b && false) ≡ true → ⊥
no_and true h = true≢false (sym h)
no_and false h = true≢false (sym h)

-- a run that goes on has not failed
pub unfailed : (status : ℕ) (failed : Bool) → goes_on status failed ≡ true → failed ≡ false
unfailed status false h = refl
unfailed status true h = absurd (no_and (not (status == 4)) h)
