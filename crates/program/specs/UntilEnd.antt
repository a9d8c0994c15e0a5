-- A reader that is not asked again after its end, and that knows why a read failed.
use Rattle.std.specs.Prelude.{ℕ, ℤ, Bool, true, List, [], Option, Some, if◌then◌else◌}
use Rattle.program.specs.declared.until_end.UntilEnd.{UntilEnd}

-- the reader below
abbrev pub reader_below : {R : Type 0} → UntilEnd R → R
reader_below reader = reader.inner

-- a read returned no byte
abbrev pub has_ended : {R : Type 0} → UntilEnd R → Bool
has_ended reader = reader.has_ended

-- the error number of the last read that failed, if it is known
abbrev pub errno_of : {R : Type 0} → UntilEnd R → Option ℤ
errno_of reader = reader.errno

-- the bytes that reads will give: none after the end
abbrev pub left_of : {R : Type 0} → (R → Option (List ℕ)) → UntilEnd R → Option (List ℕ)
left_of remaining reader = if has_ended reader then Some [] else remaining (reader_below reader)
