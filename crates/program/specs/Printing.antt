-- What a program prints last. `held_before` is what was written before, in the buffer or below it, `held_after` what the
-- writer below the buffer has at the end.
use Rattle.std.specs.Prelude.{◌≡◌, ◌⊎◌, ℕ, Bool, true, List, [], ◌∷◌, ◌++◌, codes, Option}
use Rattle.std.specs.Io.KnownBytes.{Appends, Keeps}

-- the line that reports that an allocation failed
abbrev pub no_memory_line : List ℕ
no_memory_line = codes "no memory" ++ 10 ∷ []

-- the line that reports on standard error that a write failed
abbrev pub write_fault_line : List ℕ
write_fault_line = codes "write fault" ++ 10 ∷ []

-- the line that reports that a read failed
abbrev pub read_fault_line : List ℕ
read_fault_line = codes "read fault" ++ 10 ∷ []

-- the buffer was written, and the result is `status`; or a write failed
abbrev pub FlushesOrFails : Option (List ℕ) → Option (List ℕ) → ℕ → ℕ → Bool → Type 0
FlushesOrFails held_before held_after status result failed = ((result ≡ status) × Keeps held_before held_after) ⊎ ((result ≡ 5) × (failed ≡ true))

-- the text was written, and the result is `status`; or a write failed
abbrev pub PrintsOrFails : Option (List ℕ) → Option (List ℕ) → List ℕ → ℕ → ℕ → Bool → Type 0
PrintsOrFails held_before held_after text status result failed = ((result ≡ status) × Appends held_before held_after text) ⊎ ((result ≡ 5) × (failed ≡ true))

-- the text was written to a writer that need not say whether it failed, and the result is `status`; or the result is 5
abbrev pub PrintsOrEnds : Option (List ℕ) → Option (List ℕ) → List ℕ → ℕ → ℕ → Type 0
PrintsOrEnds held_before held_after text status result = ((result ≡ status) × Appends held_before held_after text) ⊎ (result ≡ 5)
