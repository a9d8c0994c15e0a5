-- The lines of attributes, and of lists.
use Rattle.std.specs.Prelude.{◌≡◌, ℕ, ◌+◌, ◌-◌, ◌==◌, Bool, true, false, List, [], ◌∷◌, ◌++◌, length, Option, Some, None, codes, if◌then◌else◌}
use Rattle.std.specs.Fmt.{decimal}
use Rattle.std.specs.List.{flat_map}
use Rattle.link_show.specs.Sink.{Output, Gains}
use Rattle.std.specs.Net.Text.{ipv4_text}
use Rattle.link_base.specs.declared.wire.buffer.NlaBuffer.{NlaBuffer}
use Rattle.link_base.specs.declared.views.content.Content.{Content}
use Rattle.link_base.specs.declared.views.content.Content.TheVariants as contents
use Rattle.link_base.specs.declared.wire.fault.Cause.{Cause}
use Rattle.link_base.specs.Frame.{kind_of}
use Rattle.link_base.specs.Buffer.{kind_field_of, payload_of}
use Rattle.link_base.specs.Table.{Label, Table, Canonical, FirstNotCanonical}
use Rattle.link_base.specs.Borrowed.{HasContent}
use Rattle.link_messages.specs.Walk.{Item, Walk}
pub use Rattle.link_messages.specs.Shown.{EachShown, label_for}
use Rattle.link_show.specs.Text.{list_text}
use Rattle.link_show.specs.Flags.{flags_text}
use Rattle.link_show.specs.Octets.{hex_text, ip6_text}
use Rattle.link_show.specs.Value.{value_text}

-- ---- lines

-- a line: an indent, a text, and LF
abbrev pub indented : List ℕ → List ℕ → List ℕ
indented indent text = indent ++ (text ++ 10 ∷ [])

-- the line of an error at this offset
abbrev pub error_line : List ℕ → ℕ → List ℕ → List ℕ
error_line indent at text = indented indent (codes "error at " ++ (decimal at ++ (codes ": " ++ text)))

-- ---- an attribute

-- the flags of an `nla_type`
abbrev pub type_flags : List (ℕ × List ℕ)
type_flags = (16384, codes "NLA_F_NET_BYTEORDER") ∷ (32768, codes "NLA_F_NESTED") ∷ []

-- flags after a space, if there are any
abbrev pub flags_after : ℕ → List ℕ
flags_after flags = if flags == 0 then [] else codes " " ++ flags_text type_flags 2 flags

-- the name of an attribute type; its number and the flags of the `nla_type`, if no row has it
unfoldable pub head_text : Option Label → ℕ → List ℕ
head_text None f = codes "type " ++ (decimal (kind_of f) ++ flags_after (f - kind_of f))
head_text (Some label) f = label.name

-- whether a content has a text: all but lists, and what has no value
abbrev pub has_text : Content → Bool
has_text contents.Nothing = false
has_text (contents.Addresses list size) = false
has_text (contents.List list flagged) = false
has_text content = true

-- an attribute in one line: its name, and its content, if that has a text
unfoldable pub attribute_text : Option Label → ℕ → Content → List ℕ
attribute_text label f content = head_text label f ++ (if has_text content then codes " " ++ value_text label content else [])

-- the attribute b in one line was written
abbrev pub WritesAttribute : Table → NlaBuffer → Output → Output → Type 0
WritesAttribute table b old new = (content : Content) × HasContent table b content × Gains old new (attribute_text (label_for table b) (kind_field_of b) content)

-- ---- lists of addresses

-- an IP address, by its length
unfoldable pub ip_text : List ℕ → List ℕ
ip_text p = if length p == 4 then ipv4_text p else (if length p == 16 then ip6_text p else hex_text p)

-- the address in an attribute; none, if it does not have this size
abbrev pub address_in : ℕ → Item → List (List ℕ)
address_in size x = if length (payload_of x.1) == size then ip_text (payload_of x.1) ∷ [] else []

abbrev pub addresses_in : ℕ → List Item → List (List ℕ)
addresses_in size items = flat_map (address_in size) items

-- the addresses of this size in a list
abbrev pub ShowsAddresses : ℕ → List ℕ → List ℕ → Type 0
ShowsAddresses size list out = (items : List Item) × ((fault : Option (ℕ × Cause)) × Walk list items fault × (out ≡ list_text (codes " ") (addresses_in size items)))

-- an address after a separator, and what precedes the next one; an address of another size is left out
abbrev pub address_after : ℕ → List ℕ → List ℕ → List ℕ
address_after size p separator = if length p == size then separator ++ ip_text p else []

abbrev pub separator_after : ℕ → List ℕ → List ℕ → List ℕ
separator_after size p separator = if length p == size then codes " " else separator

-- ---- lists

-- what is behind the name, if the content is a list of addresses
abbrev pub ShowsMore : Content → List ℕ → Type 0
ShowsMore (contents.Addresses list size) more = (text : List ℕ) × ShowsAddresses size list.now text × (more ≡ codes " " ++ text)
ShowsMore content more = more ≡ []

-- the line of an attribute that is no nested list
abbrev pub ShowsFlat : List ℕ → Option Label → ℕ → Content → List ℕ → Type 0
ShowsFlat indent label f content out = (more : List ℕ) × ShowsMore content more × (out ≡ indented indent (attribute_text label f content ++ more))

-- what a call writes
abbrev pub WritesOut : (List ℕ → Type 0) → Output → Output → Type 0
WritesOut shows old new = (out : List ℕ) × shows out × Gains old new out

-- likewise, and what it returns with it
abbrev pub Writes : (List ℕ → Bool → Type 0) → Output → Output → Bool → Type 0
Writes shows old new well = (out : List ℕ) × shows out well × Gains old new out

-- the line of a list whose first attribute that is not canonical starts at this offset
abbrev pub not_canonical_line : List ℕ → ℕ → List ℕ
not_canonical_line indent at = indented indent (codes "not canonical at " ++ decimal at)

-- whether a list is canonical, if `check` asks; and whether that is well
pub data ShowsVerdict (check : Bool) (indent : List ℕ) (base : ℕ) (table : Table) (list out : List ℕ) (well : Bool) : Type 0 where
  Unasked : check ≡ false → out ≡ [] → well ≡ true → ShowsVerdict check indent base table list out well
  IsCanonical : check ≡ true → Canonical table list → out ≡ indented indent (codes "canonical") → well ≡ true → ShowsVerdict check indent base table list out well
  IsNot : check ≡ true → (at : ℕ) → FirstNotCanonical table list at → out ≡ not_canonical_line indent (base + at) → well ≡ false
      → ShowsVerdict check indent base table list out well
