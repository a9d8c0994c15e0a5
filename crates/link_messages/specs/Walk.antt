-- A list, attribute by attribute, up to the first header that is malformed.
use Rattle.std.specs.Prelude.{◌≡◌, ◌≢◌, ℕ, ◌-◌, List, [], ◌∷◌, length, Option, Some, None}
use Rattle.link_base.specs.declared.wire.buffer.NlaBuffer.{NlaBuffer}
use Rattle.link_base.specs.declared.wire.fault.Cause.{Cause}
use Rattle.link_base.specs.Frame.{frame_fault}
use Rattle.link_base.specs.Buffer.{SplitsFirst}

-- an attribute of a list, with its offset in the list
abbrev pub Item : Type 0
Item = ℕ × NlaBuffer

-- in a list of n bytes, these attributes lead from the bytes s, its end, to the bytes t, its end too
abbrev pub Walks : ℕ → List ℕ → List Item → List ℕ → Type 0
Walks n s [] t = s ≡ t
Walks n s (x ∷ items) t = (x.0 ≡ n - length s) × ((u : List ℕ) × SplitsFirst s x.1 u × Walks n u items t)

-- what is left of a list of n bytes behind its attributes: nothing; or, at this offset, bytes that are no attribute
abbrev pub IsEnd : ℕ → List ℕ → Option (ℕ × Cause) → Type 0
IsEnd n rest None = rest ≡ []
IsEnd n rest (Some fault) = (rest ≢ []) × (fault.0 ≡ n - length rest) × (frame_fault rest ≡ Some fault.1)

-- the attributes of a list up to the first header that is malformed, and the offset and the cause of that
pub record Walk (list : List ℕ) (items : List Item) (fault : Option (ℕ × Cause)) : Type 0 where
  pub rest : List ℕ
  pub walks : Walks (length list) list items rest
  pub end : IsEnd (length list) rest fault
