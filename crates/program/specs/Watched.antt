-- A writer that remembers whether it failed.
use Rattle.std.specs.Prelude.{◌≡◌, ◌≢◌, ℕ, Bool, true, false, List, [], Option, Result, Ok, Err}
use Rattle.std.specs.Io.Buffered.{writer_contents, writer_inner}
use Rattle.std.specs.declared.io.buffered.BufWriter.{BufWriter}
use Rattle.program.specs.declared.watched.Watched.{Watched}

-- the writer below
abbrev pub watched_inner : {W : Type 0} → Watched W → W
watched_inner watched = watched.inner

-- all that a watched writer below a buffer was given, in the buffer or below it; and what it passed on
abbrev pub given : {W A : Type 0} → (W → Option (List ℕ)) → BufWriter (Watched W) A → Option (List ℕ)
given contents writer = writer_contents (λ watched. contents (watched_inner watched)) writer

abbrev pub passed_on : {W A : Type 0} → (W → Option (List ℕ)) → BufWriter (Watched W) A → Option (List ℕ)
passed_on contents writer = contents (watched_inner (writer_inner writer))

-- a write or a flush failed
abbrev pub has_failed : {W : Type 0} → Watched W → Bool
has_failed watched = watched.has_failed

-- a write of these bytes failed: by an error that counts, or since none of them was written
abbrev pub IsFailedWrite : {E : Type 0} → (E → Type 0) → List ℕ → Result ℕ E → Type 0
IsFailedWrite counts bytes (Ok n) = (n ≡ 0) × (bytes ≢ [])
IsFailedWrite counts bytes (Err error) = counts error

-- the result is an error, of this sort
abbrev pub FailsBy : {A E : Type 0} → (E → Type 0) → Result A E → Type 0
FailsBy counts (Ok x) = ⊥
FailsBy counts (Err error) = counts error

-- nobody reads what is written: a write or a flush failed so (EPIPE)
abbrev pub is_unread : {W : Type 0} → Watched W → Bool
is_unread watched = watched.is_unread

-- what is written is lost, though somebody reads it
abbrev pub IsFault : {W : Type 0} → Watched W → Type 0
IsFault watched = (has_failed watched ≡ true) × (is_unread watched ≡ false)
