-- The entry of the last attribute of a type.
use Rattle.std.specs.Prelude.{◌≡◌, ℕ, ◌+◌, ◌==◌, ◌&&◌, Bool, List, ◌∷◌, Option, Some, None, Result, Ok, Err}
use Rattle.std.specs.List.{filter, last_or}
use Rattle.link_base.specs.declared.views.attribute_set.AttributeSet as sets
use Rattle.link_base.specs.declared.views.view.Value.{Value}
use Rattle.link_base.specs.declared.views.content.Content.{Content}
use Rattle.link_base.specs.declared.views.content.Content.TheVariants as contents
use Rattle.link_base.specs.declared.wire.fault.ListFault.{ListFault}
use Rattle.link_base.specs.Frame.{kind_of}
use Rattle.link_base.specs.Buffer.{kind_field_of}
use Rattle.link_base.specs.Table.{Table, Gives, Decodes}
use Rattle.link_base.specs.Borrowed.{elements_at, HasContent}
use Rattle.link_base.specs.Wire.{FirstFault}
use Rattle.link_base.specs.Viewed.{buffer_in}
use Rattle.link_messages.specs.Walk.{Item, Walk}
use Rattle.link_messages.specs.BeforeFault.{last_item}
use Rattle.link_entries.specs.declared.entry.Entry.{Entry}
use Rattle.link_entries.specs.Flat.{IsElement, Elements, IsGroup}

-- an attribute that was found, with its offset
abbrev pub item_of : {S : Type 0} {g : sets.Ghosts S} → ℕ × Value S g → Item
item_of x = (x.0, buffer_in x.1)

-- the entry of an attribute
abbrev pub IsEntryOf : Table → Item → Entry → Type 0
IsEntryOf table x e = (elements : List Entry) × IsGroup table x (e ∷ elements)

-- there are both, and R holds of them; or there is none of the two
abbrev pub BothOrNone : {A B : Type 0} → (A → B → Type 0) → Option A → Option B → Type 0
BothOrNone R None None = Unit {0}
BothOrNone R (Some x) (Some y) = R x y
BothOrNone R o found = ⊥

-- the entry of the last attribute of type k in a list, if there is one
abbrev pub IsLastOf : Table → ℕ → List ℕ → Option Entry → Type 0
IsLastOf table k list found =
    (items : List Item) × Walk list items None
    × BothOrNone (IsEntryOf table) (last_item k items) found

-- the list decodes, and this is the entry of its last attribute of type k; or the first error of the list
abbrev pub Finds : Table → ℕ → List ℕ → Result (Option Entry) ListFault → Type 0
Finds table k list (Ok found) = Decodes table list × IsLastOf table k list found
Finds table k list (Err e) = FirstFault (Gives table) list e.at e.fault

-- the last entry of an attribute of type k
abbrev pub is_attribute : ℕ → Entry → Bool
is_attribute k e = (e.kind == k) && (e.depth == 0)

abbrev pub last_entry : ℕ → List Entry → Option Entry
last_entry k es = last_or None (filter (is_attribute k) es)

-- the last of these entries whose own type, or index, is i
abbrev pub last_inner : ℕ → List Entry → Option Entry
last_inner i es = last_or None (filter (λ e. e.inner == i) es)

-- the entry of an element of a nested list that starts at an offset, if there is one
abbrev pub IsOneElement : Table → ℕ → ℕ → Option Item → Option Entry → Type 0
IsOneElement table k at o found = BothOrNone (λ x e. IsElement table k (at + (x.0 + 4)) x.1 e) o found

-- the entry of the last element i of a content that starts at an offset, if there is one: i is the type of an element of a
-- nested list, and otherwise an index
abbrev pub IsLastElement : Table → ℕ → ℕ → Content → ℕ → Option Entry → Type 0
IsLastElement table k at (contents.List list flagged) i found = (items : List Item) × Walk list.now items None × IsOneElement (elements_at table k) k at (last_item i items) found
IsLastElement table k at content i found = (es : List Entry) × Elements table k at content es × (found ≡ last_inner i es)

-- the last element i of an attribute, if there are both; an attribute has elements if it is a list
abbrev pub IsElementFound : Table → Option Item → ℕ → Option Entry → Type 0
IsElementFound table None i found = found ≡ None
IsElementFound table (Some x) i found =
    (content : Content) × HasContent table x.1 content
    × IsLastElement table (kind_of (kind_field_of x.1)) (x.0 + 4) content i found

-- the last element i of the last attribute of type k in a list, if there are both
abbrev pub IsLastIn : Table → ℕ → ℕ → List ℕ → Option Entry → Type 0
IsLastIn table k i list found = (items : List Item) × Walk list items None × IsElementFound table (last_item k items) i found

-- the list decodes, and this is the last element i of its last attribute of type k; or the first error of the list
abbrev pub FindsIn : Table → ℕ → ℕ → List ℕ → Result (Option Entry) ListFault → Type 0
FindsIn table k i list (Ok found) = Decodes table list × IsLastIn table k i list found
FindsIn table k i list (Err e) = FirstFault (Gives table) list e.at e.fault
