-- The list that entries encode to, or the first entry that cannot be written.
use Rattle.std.specs.Prelude.{◌≡◌, ℕ, ◌+◌, ◌<◌, ◌≤◌, ◌==◌, ◌&&◌, Bool, true, List, [], ◌∷◌, ◌++◌, length, Option, Some, None, Result, Ok, Err, nat_le, if◌then◌else◌}
use Rattle.link_base.specs.Frame.{frame_bytes, max_payload}
use Rattle.link_base.specs.Wire.{whole}
use Rattle.link_base.specs.Table.{Table}
use Rattle.link_base.specs.Borrowed.{elements_at}
use Rattle.link_base.specs.Answers.{OverwritesFront, capped}
use Rattle.link_entries.specs.declared.entry.Entry.{Entry}
use Rattle.link_entries.specs.declared.fields.Fields.{Fields}
use Rattle.link_entries.specs.declared.fields.Fields.TheVariants as fields
use Rattle.link_entries.specs.declared.misfit.Misfit.{Misfit}
use Rattle.link_entries.specs.declared.misfit.Misfit.TheVariants.{TooLong, BadElement}
use Rattle.link_entries.specs.declared.misfit.MisfitAt.{MisfitAt}
use Rattle.link_entries.specs.Fields.{array_number, ip_address, fields_at}
use Rattle.link_entries.specs.Payload.{payload_of, field_of}

-- bytes, or the first entry that cannot be written: its index, and why
abbrev pub Encoding : Type 0
Encoding = Result (List ℕ) (ℕ × Misfit)

-- of one entry
abbrev pub alone : Result (List ℕ) Misfit → Encoding
alone (Ok s) = Ok s
alone (Err misfit) = Err (0, misfit)

-- of an entry, then of the entries after it
abbrev pub before : Encoding → Encoding → Encoding
before (Err e) others = Err e
before (Ok s) (Ok t) = Ok (s ++ t)
before (Ok s) (Err e) = Err (e.0 + 1, e.1)

-- an attribute with this payload
abbrev pub framed : ℕ → Result (List ℕ) Misfit → Result (List ℕ) Misfit
framed f (Ok p) = Ok (frame_bytes (whole f p))
framed f (Err misfit) = Err misfit

-- likewise, if the payload fits in an attribute
abbrev pub fitted : ℕ → Encoding → Encoding
fitted f (Ok p) = if nat_le (length p) max_payload then Ok (frame_bytes (whole f p)) else Err (0, TooLong)
fitted f (Err e) = Err e

-- ---- elements

-- an element whose index is i in a list whose entries have these fields; `table` has the rows of its elements
abbrev pub element_content : Table → Fields → ℕ → Entry → List ℕ → Result (List ℕ) Misfit
element_content table (fields.Numbers a) i e octets = payload_of (array_number a) e octets
element_content table (fields.Addresses size) i e octets = framed i (payload_of (ip_address size) e octets)
element_content table (fields.List flag) i e octets =
    let own = fields_at table e.inner in
    framed (field_of own e.inner e) (payload_of own (record e { kind = e.inner }) octets)
element_content table list i e octets = Err BadElement

-- likewise, if it is an element of an attribute of type k
abbrev pub element_of : Table → Fields → ℕ → ℕ → Entry → List ℕ → Result (List ℕ) Misfit
element_of table list k i e octets = if (e.depth == 1) && (e.kind == k) then element_content table list i e octets else Err BadElement

-- the elements, up to the next attribute; the first has index i
abbrev pub elements_of : Table → Fields → ℕ → List ℕ → ℕ → List Entry → Encoding
elements_of table list k octets i [] = Ok []
elements_of table list k octets i (e ∷ es) =
    if e.depth == 0 then Ok []
    else before (alone (element_of table list k i e octets)) (elements_of table list k octets (i + 1) es)

-- ---- attributes

-- an attribute with these fields, and its elements
abbrev pub attribute_by : Table → Fields → List ℕ → Entry → List Entry → Encoding
attribute_by table own octets e es = fitted (field_of own e.kind e) (before (alone (payload_of own e octets)) (elements_of (elements_at table e.kind) own e.kind octets 0 es))

-- an attribute of a list of this table, and its elements
abbrev pub attribute_of : Table → List ℕ → Entry → List Entry → Encoding
attribute_of table octets e es = attribute_by table (fields_at table e.kind) octets e es

-- what an entry adds to a list: an attribute adds its elements too
abbrev pub entry_of : Table → List ℕ → Entry → List Entry → Encoding
entry_of table octets e es = if e.depth == 0 then attribute_of table octets e es else Ok []

abbrev pub entries_of : Table → List ℕ → List Entry → Encoding
entries_of table octets [] = Ok []
entries_of table octets (e ∷ es) = before (entry_of table octets e es) (entries_of table octets es)

-- whether the first entry is an attribute, if there is one
abbrev pub begins_well : List Entry → Bool
begins_well [] = true
begins_well (e ∷ es) = e.depth == 0

-- the list
abbrev pub encoded_by : Table → List ℕ → List Entry → Encoding
encoded_by table octets es = if begins_well es then entries_of table octets es else Err (0, BadElement)

-- ---- results

abbrev pub at_fault : ℕ × Misfit → MisfitAt
at_fault e = record { index = e.0; misfit = e.1 }

-- the length of the bytes
abbrev pub measured : Encoding → Result ℕ MisfitAt
measured (Ok s) = Ok (capped (length s))
measured (Err e) = Err (at_fault e)

-- the list was stored at the start of the buffer, whose rest is unchanged; or the buffer is too small, or an entry cannot be
-- written, and the buffer is unchanged
abbrev pub Stores : Encoding → List ℕ → List ℕ → Result (Option ℕ) MisfitAt → Type 0
Stores (Ok s) old new (Ok (Some n)) = (n ≡ length s) × (length s ≤ length old) × OverwritesFront old new s
Stores (Ok s) old new (Ok None) = (length old < length s) × (new ≡ old)
Stores (Err e) old new (Err misfit) = (misfit ≡ at_fault e) × (new ≡ old)
Stores encoding old new result = ⊥
