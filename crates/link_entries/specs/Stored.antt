-- Bytes that are stored in a buffer, as far as there is room.
use Rattle.std.specs.Prelude.{◌≡◌, ℕ, ◌+◌, ◌≤◌, List, ◌++◌, length, take, drop, replicate, Result, Ok, Err}
use Rattle.link_base.specs.Number.{bytes_of}
use Rattle.link_base.specs.Frame.{gap}
use Rattle.link_entries.specs.declared.misfit.Misfit.{Misfit}
use Rattle.link_entries.specs.declared.misfit.MisfitAt.{MisfitAt}
use Rattle.link_entries.specs.Encoded.{Encoding, measured}

-- a buffer with s at an offset
abbrev pub with_at : ℕ → List ℕ → List ℕ → List ℕ
with_at at s old = take at old ++ (s ++ drop (at + length s) old)

-- s was stored at an offset of a buffer if there is room for all of it; the length of the buffer is unchanged
pub record StoresAt (at : ℕ) (s old new : List ℕ) : Type 0 where
  pub same : length new ≡ length old
  pub stored : at + length s ≤ length old → new ≡ with_at at s old

-- the header of an attribute whose payload has n bytes, and a payload with its padding
abbrev pub header : ℕ → ℕ → List ℕ
header f n = bytes_of 2 (4 + n) ++ bytes_of 2 f

abbrev pub padded : List ℕ → List ℕ
padded p = p ++ replicate (gap p) 0

-- the number of bytes
abbrev pub sized : Result (List ℕ) Misfit → Result ℕ Misfit
sized (Ok p) = Ok (length p)
sized (Err misfit) = Err misfit

-- a payload was stored after the place of its header, with its padding
abbrev pub StoresPayload : Result (List ℕ) Misfit → List ℕ → List ℕ → Type 0
StoresPayload (Ok p) old new = StoresAt 4 (padded p) old new
StoresPayload (Err misfit) old new = length new ≡ length old

-- bytes were stored at the start of a buffer
abbrev pub StoresBytes : {E : Type 0} → Result (List ℕ) E → List ℕ → List ℕ → Type 0
StoresBytes (Ok s) old new = StoresAt 0 s old new
StoresBytes (Err e) old new = length new ≡ length old

-- what entries encode to was stored, and the result is its length, or the first entry that cannot be written
abbrev pub Encodes : Encoding → List ℕ → List ℕ → Result ℕ MisfitAt → Type 0
Encodes encoding old new result = (result ≡ measured encoding) × StoresBytes encoding old new
