-- The texts of entries, and those that `link_show` specifies for their attributes.
use Rattle.std.specs.Prelude.{◌≡◌, ℕ, ◌+◌, ◌≤◌, Bool, true, false, List, [], ◌∷◌, length, take, drop, Option, Some, None, Ok, if◌then◌else◌}
use Rattle.link_base.specs.declared.wire.buffer.NlaBuffer.{NlaBuffer}
use Rattle.link_base.specs.declared.views.content.Content.{Content}
use Rattle.link_base.specs.declared.views.content.Content.TheVariants as contents
use Rattle.link_base.specs.Buffer.{payload_of}
use Rattle.link_base.specs.Borrowed.{HasContent}
use Rattle.link_base.specs.Table.{Table}
use Rattle.link_show.specs.Number.{beside}
use Rattle.link_show.specs.Value.{value_text}
use Rattle.link_show.specs.List.{label_for}
use Rattle.link_messages.specs.Walk.{Item}
use Rattle.netlink_packet_route.specs.declared.family.Family.{Family}
use Rattle.netlink_packet_route.specs.Family.{table_of}
use Rattle.link_entries.specs.declared.entry.Entry.{Entry}
use Rattle.nlroute_ffi.specs.ValueText.{entry_payload, IsEntryText}

-- whether a content has an entry for each of its numbers
abbrev pub has_numbers : Content → Bool
has_numbers (contents.Numbers a p) = true
has_numbers content = false

-- a text is that of the attribute b of a list of this table, but empty for an array of numbers
abbrev pub IsTextOf : Table → NlaBuffer → List ℕ → Type 0
IsTextOf table b words = (content : Content) × HasContent table b content × (words ≡ (if has_numbers content then [] else value_text (label_for table b) content))

-- an entry encodes to a payload, so it has a text
abbrev pub HasText : Family → List ℕ → Entry → Type 0
HasText family list e = (p : List ℕ) × (entry_payload family e list ≡ Ok p)

-- the payload of b is in the list, at this offset
abbrev pub IsAt : List ℕ → ℕ → NlaBuffer → Type 0
IsAt list offset b = (offset + length (payload_of b) ≤ length list) × (take (length (payload_of b)) (drop offset list) ≡ payload_of b)

-- each text of the first of these entries, which is that of the attribute x, is one of x
abbrev pub HeadHasText : Family → List ℕ → Item → List Entry → Type 0
HeadHasText family list x [] = ⊥
HeadHasText family list x (e ∷ es) = (words : List ℕ) → IsEntryText family e list words → IsTextOf (table_of family) x.1 words

-- the first of these entries has a text
abbrev pub HeadHasSomeText : Family → List ℕ → Item → List Entry → Type 0
HeadHasSomeText family list x [] = ⊥
HeadHasSomeText family list x (e ∷ es) = HasText family list e

-- ---- names

-- the text of a number: its name and the number, or the number only if it has no name
abbrev pub IsWithName : Option (List ℕ) → List ℕ → List ℕ → Type 0
IsWithName (Some name) number words = words ≡ beside name number
IsWithName None number words = words ≡ number

-- the text of a bit: its name, or the number if it has none
abbrev pub IsByName : Option (List ℕ) → List ℕ → List ℕ → Type 0
IsByName (Some name) number words = words ≡ name
IsByName None number words = words ≡ number
