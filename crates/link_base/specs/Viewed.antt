-- Views of lists: the attributes of a list that decodes.
use Rattle.std.specs.Prelude.{◌≡◌, ◌≢◌, ◌⊎◌, ℕ, ◌+◌, ◌-◌, ◌==◌, Bool, true, false, List, [], ◌∷◌, ◌++◌, length, map, reverse, Option, Some, None, Result, Ok, Err, if◌then◌else◌}
use Rattle.std.specs.List.{AllZip, AllByRecursion}
use Rattle.link_base.specs.declared.views.attribute_set.AttributeSet as sets
use Rattle.link_base.specs.declared.views.attribute_set.ElementSet.{ElementSet}
use Rattle.link_base.specs.declared.views.view.View.{View}
use Rattle.link_base.specs.declared.views.view.Value.{Value as Item}
use Rattle.link_base.specs.declared.views.view_all.ViewAll.{ViewAll}
use Rattle.link_base.specs.declared.wire.buffer.NlaBuffer.{NlaBuffer}
use Rattle.link_base.specs.declared.rows.form.Form.{Form}
use Rattle.link_base.specs.declared.rows.form.Form.TheVariants as forms
use Rattle.link_base.specs.declared.rows.form.Order.{Order}
use Rattle.link_base.specs.declared.rows.form.Role.TheVariants as roles
use Rattle.link_base.specs.declared.wire.fault.ListFault.{ListFault}
use Rattle.link_base.specs.declared.wire.fault.DecodeFault.{DecodeFault}
use Rattle.link_base.specs.declared.wire.fault.DecodeFault.TheVariants as faults
use Rattle.link_base.specs.declared.wire.fault.Cause.{Cause}
use Rattle.link_base.specs.Orders.{number_by}
use Rattle.link_base.specs.Class.{Extent, Exactly, accepted, value_only}
use Rattle.link_base.specs.Wire.{Wire, FirstFault}
use Rattle.link_base.specs.Table.{Table, AttrValue, Shape, Nested, Gives, Decodes}
use Rattle.link_base.specs.Frame.{Frame, Frames, frame_bytes, bytes_of_frames, kind_of, frame_fault}
use Rattle.link_base.specs.Buffer.{kind_field_of, payload_of, SplitsFirst}
use Rattle.link_base.specs.Borrowed.{HasValues}
use Rattle.link_base.specs.IteratorItems.{IsCount}

-- the attribute type of the nested lists
abbrev pub list_of : {F : Type 0} → ElementSet F → ℕ
list_of set = set.list

-- the attribute, as it is in the list
abbrev pub buffer_in : {S : Type 0} {g : sets.Ghosts S} → Item S g → NlaBuffer
buffer_in x = x.buffer

-- its attribute type
abbrev pub kind_in : {S : Type 0} {g : sets.Ghosts S} → Item S g → ℕ
kind_in x = kind_of (kind_field_of (buffer_in x))

-- its payload
abbrev pub payload_in : {S : Type 0} {g : sets.Ghosts S} → Item S g → List ℕ
payload_in x = payload_of (buffer_in x)

-- the set that the attribute belongs to
abbrev pub set_in : {S : Type 0} {g : sets.Ghosts S} → Item S g → S
set_in x = x.set

-- the same attribute of the same set
abbrev pub IsSameValue : {S : Type 0} {g : sets.Ghosts S} → Item S g → Item S g → Type 0
IsSameValue x y = (buffer_in y ≡ buffer_in x) × (set_in y ≡ set_in x)

-- the attribute decodes, and this is it as a value of this set; or this is its error
abbrev pub IsValue : {S : Type 0} {g : sets.Ghosts S} → Table → NlaBuffer → S → Result (Item S g) DecodeFault → Type 0
IsValue table b set (Ok x) = (buffer_in x ≡ b) × (set_in x ≡ set)
IsValue table b set (Err fault) = Gives table (kind_field_of b) (payload_of b) (Err fault)

-- the bytes of the attributes that are left
abbrev pub bytes_in : {S : Type 0} {g : sets.Ghosts S} → View S g → List ℕ
bytes_in v = v.rest.now

-- the length of the list that the view is of, with the attributes that it has passed
abbrev pub whole_length : {S : Type 0} {g : sets.Ghosts S} → View S g → ℕ
whole_length v = v.whole

-- the set that the attributes belong to
abbrev pub set_of : {S : Type 0} {g : sets.Ghosts S} → View S g → S
set_of v = v.set

-- the same attributes of the same list and set
abbrev pub IsSameView : {S : Type 0} {g : sets.Ghosts S} → View S g → View S g → Type 0
IsSameView v w = (bytes_in w ≡ bytes_in v) × (set_of w ≡ set_of v) × (whole_length w ≡ whole_length v)

-- the next attribute is the first that is left, of the same list and set
abbrev pub NextValue : {S : Type 0} {g : sets.Ghosts S} → View S g → Option (Item S g) → View S g → Type 0
NextValue v None w = (bytes_in v ≡ []) × IsSameView v w
NextValue v (Some x) w =
    SplitsFirst (bytes_in v) (buffer_in x) (bytes_in w) × (set_in x ≡ set_of v) × (set_of w ≡ set_of v) × (whole_length w ≡ whole_length v)

-- the first attribute, and those after it; or there is none
abbrev pub SplitsView : {S : Type 0} {g : sets.Ghosts S} → View S g → Option (Item S g × View S g) → Type 0
SplitsView v None = bytes_in v ≡ []
SplitsView v (Some parts) = NextValue v (Some parts.0) parts.1

-- the `nla_type` and the payload of an attribute
abbrev pub seen : {S : Type 0} {g : sets.Ghosts S} → Option (Item S g) → Option (ℕ × List ℕ)
seen None = None
seen (Some x) = Some (kind_field_of (buffer_in x), payload_of (buffer_in x))

-- the `nla_type` and the payload of the first frame with the attribute type k
abbrev pub first_of : ℕ → List Frame → Option (ℕ × List ℕ)
first_of k [] = None
first_of k (x ∷ xs) = if kind_of x.kind_field == k then Some (x.kind_field, x.payload) else first_of k xs

-- those of the last frame with the attribute type k
abbrev pub last_of : ℕ → List Frame → Option (ℕ × List ℕ)
last_of k xs = first_of k (reverse xs)

-- the list decodes, and the view has all its attributes; or this is its first error
abbrev pub ViewsList : {S : Type 0} {g : sets.Ghosts S} → Table → List ℕ → Result (View S g) ListFault → Type 0
ViewsList table s (Ok view) = Decodes table s × (bytes_in view ≡ s) × (whole_length view ≡ length s)
ViewsList table s (Err e) = FirstFault (Gives table) s e.at e.fault

-- ---- walks to the end

-- the `nla_type` and the payload of an attribute, and of a frame
abbrev pub attribute_of : {S : Type 0} {g : sets.Ghosts S} → Item S g → ℕ × List ℕ
attribute_of x = (kind_field_of (buffer_in x), payload_of (buffer_in x))

abbrev pub parts_of : Frame → ℕ × List ℕ
parts_of x = (x.kind_field, x.payload)

-- these are the attributes of the list s, in order, as attributes of this set; each decodes to the value in its place, and
-- their number is within the bounds that `size_hint` returns
pub record IsWalk {S : Type 0} {g : sets.Ghosts S} (table : Table) (set : S) (s : List ℕ) (items : List (Item S g)) : Type 0 where
  pub sets : AllByRecursion (λ x. set_in x ≡ set) items
  pub attributes : (xs : List Frame) → Frames s xs → map attribute_of items ≡ map parts_of xs
  pub count : IsCount s (length items)
  pub values : (vs : List AttrValue) → Wire (Gives table) s vs → AllZip (λ x v. Gives table (kind_field_of (buffer_in x)) (payload_of (buffer_in x)) (Ok v)) items vs

-- one of these frames starts at this offset
abbrev pub StartsAt : List Frame → ℕ → Type 0
StartsAt xs at = (front : List Frame) × (x : Frame) × (back : List Frame) × (xs ≡ front ++ x ∷ back) × (at ≡ length (bytes_of_frames front))

-- ---- every attribute of a list, with its value or its error

-- the bytes of the list
abbrev pub whole_of : {S : Type 0} → ViewAll S → List ℕ
whole_of v = v.bytes.now

-- the bytes that are left
abbrev pub left_of : {S : Type 0} → ViewAll S → List ℕ
left_of v = v.rest.now

-- the set that the attributes belong to
abbrev pub all_set_of : {S : Type 0} → ViewAll S → S
all_set_of v = v.set

-- all of the list s is left
abbrev pub IsAllOf : {S : Type 0} → List ℕ → ViewAll S → Type 0
IsAllOf s v = (whole_of v ≡ s) × (left_of v ≡ s)

-- s starts with an attribute that has this error, and t follows it; or its header has this error, and nothing is left
abbrev pub FaultsFirst : Table → List ℕ → DecodeFault → List ℕ → Type 0
FaultsFirst table s fault t =
    ((b : NlaBuffer) × SplitsFirst s b t × Gives table (kind_field_of b) (payload_of b) (Err fault))
    ⊎ ((c : Cause) × (frame_fault s ≡ Some c) × (fault ≡ faults.Frame c) × (t ≡ []))

-- the first attribute that is left, which decodes; or its error, with its offset in the list
abbrev pub NextOfAll : {S : Type 0} {g : sets.Ghosts S} → Table → ViewAll S → Option (Result (Item S g) ListFault) → ViewAll S → Type 0
NextOfAll table v None w = (left_of v ≡ []) × (w ≡ v)
NextOfAll table v (Some (Ok x)) w =
    SplitsFirst (left_of v) (buffer_in x) (left_of w) × (set_in x ≡ all_set_of v) × (whole_of w ≡ whole_of v) × (all_set_of w ≡ all_set_of v)
NextOfAll table v (Some (Err e)) w =
    (left_of v ≢ []) × (e.at ≡ length (whole_of v) - length (left_of v)) × FaultsFirst table (left_of v) e.fault (left_of w)
    × (whole_of w ≡ whole_of v) × (all_set_of w ≡ all_set_of v)

-- the `nla_type` and the payload of an item, or its error
abbrev pub found : {S : Type 0} {g : sets.Ghosts S} → Result (Item S g) ListFault → Result (ℕ × List ℕ) ListFault
found (Ok x) = Ok (attribute_of x)
found (Err e) = Err e

-- the first error of the items, with its offset
abbrev pub first_error : {S : Type 0} {g : sets.Ghosts S} → List (Result (Item S g) ListFault) → Option (ℕ × DecodeFault)
first_error [] = None
first_error (Ok x ∷ items) = first_error items
first_error (Err e ∷ items) = Some (e.at, e.fault)

-- each frame, the first at this offset, is an attribute that decodes, of this set, or has this error at its offset
abbrev pub AreShown : {S : Type 0} {g : sets.Ghosts S} → Table → S → ℕ → List Frame → List (Result (Item S g) ListFault) → Type 0
AreShown table set at [] [] = Unit {0}
AreShown table set at [] (item ∷ items) = ⊥
AreShown table set at (x ∷ xs) [] = ⊥
AreShown table set at (x ∷ xs) (Ok v ∷ items) = (attribute_of v ≡ parts_of x) × (set_in v ≡ set) × AreShown table set (at + length (frame_bytes x)) xs items
AreShown table set at (x ∷ xs) (Err e ∷ items) =
    (e.at ≡ at) × Gives table x.kind_field x.payload (Err e.fault) × AreShown table set (at + length (frame_bytes x)) xs items

-- the items for the list s, within the bounds that `size_hint` returns: if its headers are well-formed, each attribute or
-- its error; if the list decodes, no error; if it does not, its first error is the first one among them
pub record IsWalkOfAll {S : Type 0} {g : sets.Ghosts S} (table : Table) (set : S) (s : List ℕ) (items : List (Result (Item S g) ListFault)) : Type 0 where
  pub count : IsCount s (length items)
  pub each : (xs : List Frame) → Frames s xs → AreShown table set 0 xs items
  pub decoded : HasValues table s → (xs : List Frame) → Frames s xs → map found items ≡ map (λ x. Ok (parts_of x)) xs
  pub first : (at : ℕ) (fault : DecodeFault) → FirstFault (Gives table) s at fault → first_error items ≡ Some (at, fault)

-- the attributes of the nested list in a payload, as those of a set; none if its shape is no nested list
abbrev pub ViewsElements : {T : Type 0} {g : sets.Ghosts T} → Option Shape → List ℕ → T → Option (View T g) → Type 0
ViewsElements (Some (Nested flagged rows)) p set (Some view) = (bytes_in view ≡ p) × (set_of view ≡ set) × (whole_length view ≡ length p)
ViewsElements (Some (Nested flagged rows)) p set None = ⊥
ViewsElements shape p set (Some view) = ⊥
ViewsElements shape p set None = Unit {0}

-- likewise, as those of the nested lists of attribute type k
abbrev pub ViewsElementsOf : {F : Type 0} {g : sets.Ghosts (ElementSet F)} → Option Shape → ℕ → List ℕ → Option (View (ElementSet F) g) → Type 0
ViewsElementsOf (Some (Nested flagged rows)) k p (Some view) = (bytes_in view ≡ p) × (list_of (set_of view) ≡ k) × (whole_length view ≡ length p)
ViewsElementsOf (Some (Nested flagged rows)) k p None = ⊥
ViewsElementsOf shape k p (Some view) = ⊥
ViewsElementsOf shape k p None = Unit {0}

-- ---- numbers and structs

-- the order of bytes, if a form is that of numbers which stand for themselves or have no enum in Rust
abbrev pub number_order : Option Form → Option Order
number_order (Some (forms.Number w order roles.Plain)) = Some order
number_order (Some (forms.Number w order roles.Coded)) = Some order
number_order form = None

-- whether a form is that of structs
abbrev pub is_struct : Option Form → Bool
is_struct (Some (forms.Struct layout)) = true
is_struct form = false

-- the number in a payload, if it has n bytes
abbrev pub unsigned_by : ℕ → Option Order → List ℕ → Option ℕ
unsigned_by n None p = None
unsigned_by n (Some order) p = value_only (accepted (Exactly n) (number_by order) p)

-- the unsigned number in a payload of this form, if it has n bytes
abbrev pub unsigned_in : ℕ → Option Form → List ℕ → Option ℕ
unsigned_in n form p = unsigned_by n (number_order form) p

-- the struct in a payload of this form, if its length is accepted
abbrev pub struct_in : {A : Type 0} → Extent → (List ℕ → A) → Option Form → List ℕ → Option A
struct_in e meaning form p = if is_struct form then value_only (accepted e meaning p) else None
