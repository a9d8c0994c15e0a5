-- What an entry that was read from a list has in common with the entry that the list was written from.
use Rattle.std.specs.Prelude.{◌≡◌, ℕ, ◌<◌, ◌^◌, ◌==◌, true, List, length, take, drop, if◌then◌else◌}
use Rattle.link_base.specs.Class as classes
use Rattle.link_base.specs.Class.{meant, written}
use Rattle.link_base.specs.Table.{Table}
use Rattle.link_base.specs.Borrowed.{elements_at}
use Rattle.link_entries.specs.declared.entry.Entry.{Entry}
use Rattle.link_entries.specs.declared.fields.Fields.{Fields}
use Rattle.link_entries.specs.declared.fields.Fields.TheVariants as fields
use Rattle.link_entries.specs.Fields.{array_number, ip_address, fields_at}
use Rattle.link_entries.specs.Payload.{form_in, has_form}

-- an entry that a program can hold: its fields are in the range of their types
pub record IsEntry (e : Entry) : Type 0 where
  pub flags : e.flags < 2 ^ 16
  pub second : e.second < 2 ^ 32
  pub number : e.number < 2 ^ 64
  pub octets : length e.octets ≡ 16

-- the bytes that an entry refers to, of those passed in or of the list
abbrev pub referred : Entry → List ℕ → List ℕ
referred e octets = take e.length (drop e.offset octets)

-- the entry r of the list holds what e holds: the numbers and octets of an entry with these fields, of a flag also whether it
-- has a byte, or the bytes that it refers to; of the limits of a CAN controller, these bytes as a rewriting writes them
abbrev pub SameContent : Fields → List ℕ → Entry → List ℕ → Entry → Type 0
SameContent fields.Empty octets e list r = Unit {0}
SameContent (fields.Number form width most order) octets e list r = r.number ≡ e.number
SameContent fields.FlagOrBool octets e list r = (r.number ≡ e.number) × (r.length ≡ e.length)
SameContent fields.Signed octets e list r = r.number ≡ e.number
SameContent (fields.Shorts form second_first) octets e list r = (r.number ≡ e.number) × (r.second ≡ e.second)
SameContent (fields.Words form second_first) octets e list r = (r.number ≡ e.number) × (r.second ≡ e.second)
SameContent fields.Protocol octets e list r = r.number ≡ e.number
SameContent (fields.Address form size) octets e list r = take size r.octets ≡ take size e.octets
SameContent fields.BridgeId octets e list r = (r.number ≡ e.number) × (take 6 r.octets ≡ take 6 e.octets)
SameContent (fields.Passed form size) octets e list r = referred r list ≡ referred e octets
SameContent fields.Peer octets e list r = referred r list ≡ referred e octets
SameContent fields.Limits octets e list r = referred r list ≡ written (meant classes.Limits (referred e octets))
SameContent (fields.Numbers a) octets e list r = Unit {0}
SameContent (fields.Addresses size) octets e list r = Unit {0}
SameContent (fields.List flag) octets e list r = Unit {0}
SameContent fields.Unknown octets e list r = (r.flags ≡ e.flags) × (referred r list ≡ referred e octets)

-- likewise, with the same attribute type and depth; its form is that of its type, which is the form of e or is implied by 0
pub record IsSame (own : Fields) (octets : List ℕ) (e : Entry) (list : List ℕ) (r : Entry) : Type 0 where
  pub kind : r.kind ≡ e.kind
  pub depth : r.depth ≡ e.depth
  pub form : r.form ≡ form_in own
  pub given : has_form own e ≡ true
  pub content : SameContent own octets e list r

-- those of an element of a list with these fields; `table` has the rows of its elements
abbrev pub element_fields : Table → Fields → Entry → Fields
element_fields table (fields.Numbers a) e = array_number a
element_fields table (fields.Addresses size) e = ip_address size
element_fields table (fields.List flag) e = fields_at table e.inner
element_fields table own e = fields.Empty

-- those of an entry
abbrev pub own_fields : Table → Entry → Fields
own_fields table e =
    let attribute = fields_at table e.kind in
    if e.depth == 0 then attribute else element_fields (elements_at table e.kind) attribute e

-- elements of a nested list have the same type of their own
abbrev pub SameInner : Fields → Entry → Entry → Type 0
SameInner (fields.List flag) e r = r.inner ≡ e.inner
SameInner own e r = Unit {0}

-- the entry r of the list is what was written for e, which refers to the octets
pub record Agrees (table : Table) (octets list : List ℕ) (e r : Entry) : Type 0 where
  pub same : IsSame (own_fields table e) octets e list r
  pub inner : e.depth ≡ 1 → SameInner (fields_at table e.kind) e r
