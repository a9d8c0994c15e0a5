-- A list as an array of entries: one for each attribute, and after an attribute that is a list one for each element.
use Rattle.std.specs.Prelude.{◌≡◌, ℕ, ◌+◌, ◌*◌, ◌==◌, Bool, List, [], ◌∷◌, ◌++◌, length, take, drop, None, Result, Ok, Err, if◌then◌else◌}
use Rattle.std.specs.List.{AllZip, filter, flat_map}
use Rattle.link_base.specs.declared.wire.buffer.NlaBuffer.{NlaBuffer}
use Rattle.link_base.specs.declared.views.content.Content.{Content}
use Rattle.link_base.specs.declared.views.content.Content.TheVariants as contents
use Rattle.link_base.specs.declared.wire.fault.ListFault.{ListFault}
use Rattle.std.specs.Int.{w32, w64, cast_signed, cast_unsigned}
use Rattle.link_base.specs.declared.rows.form.ArrayOf.{ArrayOf}
use Rattle.link_base.specs.declared.rows.form.ArrayOf.TheVariants.{I32}
use Rattle.link_base.specs.Forms.{size_in}
use Rattle.link_base.specs.Frame.{kind_of}
use Rattle.link_base.specs.Buffer.{kind_field_of, payload_of}
use Rattle.link_base.specs.Table.{Table, Gives}
use Rattle.link_base.specs.Wire.{FirstFault}
use Rattle.link_base.specs.Borrowed.{elements_at, HasContent}
use Rattle.link_base.specs.Layout.{numbers_of}
use Rattle.link_messages.specs.Walk.{Item, Walk}
use Rattle.link_entries.specs.declared.entry.Entry.{Entry}
use Rattle.link_entries.specs.Forms.{form_ipv4, form_ipv6}
use Rattle.link_entries.specs.Entry.{blank, padded, placed}
use Rattle.link_entries.specs.Content.{filled}
use Rattle.link_entries.specs.Fields.{array_number}
use Rattle.link_entries.specs.Payload.{form_in}

-- ---- elements

-- f of each item and its index, from i on
abbrev pub indexed : {A : Type 0} → (ℕ → A → Entry) → ℕ → List A → List Entry
indexed f i [] = []
indexed f i (x ∷ xs) = f i x ∷ indexed f (i + 1) xs

-- a number of an array, whose bytes are those of x: a signed one has the sign in 64 bits
abbrev pub held_number : ArrayOf → ℕ → ℕ
held_number I32 x = cast_unsigned w64 (cast_signed w32 x)
held_number a x = x

-- the numbers of an array that starts at an offset; k is the attribute type
abbrev pub number_entry : ℕ → ℕ → ArrayOf → ℕ → ℕ → Entry
number_entry k at a i x = record (blank k i 1 (at + i * size_in a) (size_in a)) { form = form_in (array_number a); number = held_number a x }

abbrev pub number_entries : ℕ → ℕ → ArrayOf → List ℕ → List Entry
number_entries k at a p = indexed (number_entry k at a) 0 (numbers_of (size_in a) p)

-- an address with these octets, at an offset
abbrev pub address_entry : ℕ → ℕ → ℕ → List ℕ → Entry
address_entry k i offset p = record (blank k i 1 offset (length p)) { form = (if length p == 4 then form_ipv4 else form_ipv6); octets = padded p }

-- whether an element of a list of addresses of n bytes is an address
abbrev pub is_address : ℕ → Item → Bool
is_address n x = length (payload_of x.1) == n

-- the addresses of n bytes each in a list that starts at an offset
abbrev pub AreAddresses : ℕ → ℕ → ℕ → List ℕ → List Entry → Type 0
AreAddresses k at n list es =
    (items : List Item) × Walk list items None × (es ≡ indexed (λ i x. address_entry k i (at + (x.0 + 4)) (payload_of x.1)) 0 (filter (is_address n) items))

-- the element b of a nested list, at an offset
abbrev pub IsElement : Table → ℕ → ℕ → NlaBuffer → Entry → Type 0
IsElement table k offset b e =
    let f = kind_field_of b in
    (content : Content) × HasContent table b content × (e ≡ filled f content 0 (blank k (kind_of f) 1 offset (length (payload_of b))))

-- the elements of a nested list that starts at an offset
abbrev pub AreElements : Table → ℕ → ℕ → List ℕ → List Entry → Type 0
AreElements table k at list es = (items : List Item) × Walk list items None × AllZip (λ x e. IsElement table k (at + (x.0 + 4)) x.1 e) items es

-- the elements of a content that is a list and starts at an offset; none for other contents
abbrev pub Elements : Table → ℕ → ℕ → Content → List Entry → Type 0
Elements table k at (contents.List list flagged) es = AreElements (elements_at table k) k at list.now es
Elements table k at (contents.Addresses list size) es = AreAddresses k at size list.now es
Elements table k at (contents.Numbers a p) es = es ≡ number_entries k at a p.now
Elements table k at content es = es ≡ []

-- ---- lists

-- the entry of an attribute of a list with this content; of a list, n elements follow
abbrev pub head_entry : Item → Content → ℕ → Entry
head_entry x content n =
    let f = kind_field_of x.1 in
    filled f content n (blank (kind_of f) 0 0 (x.0 + 4) (length (payload_of x.1)))

-- the entries of an attribute: its own, and those of its elements
abbrev pub IsGroup : Table → Item → List Entry → Type 0
IsGroup table x es =
    (content : Content) × HasContent table x.1 content
    × ((elements : List Entry) × Elements table (kind_of (kind_field_of x.1)) (x.0 + 4) content elements × (es ≡ head_entry x content (length elements) ∷ elements))

-- the entries of a list
pub record Flat (table : Table) (list : List ℕ) (es : List Entry) : Type 0 where
  pub items : List Item
  pub walk : Walk list items None
  pub groups : List (List Entry)
  pub each : AllZip (IsGroup table) items groups
  pub joined : es ≡ flat_map (λ group. group) groups

-- ---- places

-- these entries were stored, the first in the place `first`; `next` is the place after them
abbrev pub Puts : List Entry → List Entry → ℕ → List Entry → ℕ → Type 0
Puts old new first es next = (new ≡ placed old first es) × (next ≡ first + length es)

-- the number of entries of a list, which are in the first places, as far as there are places; the other places are
-- unchanged. Or the first error of the list; then all places are unchanged
abbrev pub Flattens : Table → List ℕ → List Entry → List Entry → Result ℕ ListFault → Type 0
Flattens table list old new (Ok n) = (es : List Entry) × Flat table list es × (n ≡ length es) × (new ≡ take (length old) es ++ drop (length es) old)
Flattens table list old new (Err e) = FirstFault (Gives table) list e.at e.fault × (new ≡ old)

-- the number of entries of a list; or the first error of the list
abbrev pub Counts : Table → List ℕ → Result ℕ ListFault → Type 0
Counts table list (Ok n) = (es : List Entry) × Flat table list es × (n ≡ length es)
Counts table list (Err e) = FirstFault (Gives table) list e.at e.fault
