-- Values that a program can hold, and plain values.
use Rattle.std.specs.Prelude.{◌≡◌, ℕ, ◌<◌, List, Option, Some, None, length}
use Rattle.std.specs.List.{AllByRecursion}
use Rattle.link_base.specs.Number.{IsBytes}
use Rattle.link_base.specs.Frame.{kind_of, kind_limit}
use Rattle.link_base.specs.Class
use Rattle.link_base.specs.Class.{Class, Value, IsUncut}
use Rattle.link_base.specs.Table.{Rows, class_at, Leaf, Case, Other, Shape, One, Nested, Addresses, Content, Single, Inner, Listed, Table, AttrValue, TakesMemoryBy}

-- ---- in range: of the table, with numbers and strings of their types

-- the value is in range for the class of its row
abbrev pub LeafInRangeBy : Option Class → Value → Type 0
LeafInRangeBy None v = ⊥
LeafInRangeBy (Some c) v = Class.IsInRange c v

-- an element of a nested list is in range
abbrev pub LeafInRange : Rows → Leaf → Type 0
LeafInRange rows (Case k v) = (k < kind_limit) × LeafInRangeBy (class_at rows k) v
LeafInRange rows (Other f p) = (f < 65536) × IsBytes p

-- n bytes
abbrev pub IsOctets : ℕ → List ℕ → Type 0
IsOctets n a = (length a ≡ n) × IsBytes a

-- the content is in range for the shape
abbrev pub ContentInRange : Shape → Content → Type 0
ContentInRange (One c) (Single v) = Class.IsInRange c v
ContentInRange (Nested flagged rows) (Inner flag vs) = (flag ≡ flagged) × AllByRecursion (LeafInRange rows) vs
ContentInRange (Addresses n) (Listed octets) = AllByRecursion (IsOctets n) octets
ContentInRange shape content = ⊥

-- the content is in range for the shape of its row
abbrev pub InRangeBy : Option Shape → Content → Type 0
InRangeBy None content = ⊥
InRangeBy (Some shape) content = ContentInRange shape content

-- a variant has a row, for which its content is in range; `Other` has a 16-bit `nla_type` and a payload of bytes
abbrev pub IsInRange : Table → AttrValue → Type 0
IsInRange table (Case k content) = (k < kind_limit) × InRangeBy (class_at table k) content
IsInRange table (Other f p) = (f < 65536) × IsBytes p

-- ---- hiding none: an `Other` has an attribute type without a row

-- an element of a nested list is not an `Other` whose attribute type has a row
abbrev pub LeafHidesNone : Rows → Leaf → Type 0
LeafHidesNone rows (Case k v) = Unit {0}
LeafHidesNone rows (Other f p) = class_at rows (kind_of f) ≡ None

-- no element of a nested list is an `Other` whose attribute type has a row
abbrev pub ContentHidesNone : Shape → Content → Type 0
ContentHidesNone (Nested flagged rows) (Inner flag vs) = AllByRecursion (LeafHidesNone rows) vs
ContentHidesNone shape content = Unit {0}

-- the same for the shape of a row, if there is one
abbrev pub HidesNoneBy : Option Shape → Content → Type 0
HidesNoneBy None content = Unit {0}
HidesNoneBy (Some shape) content = ContentHidesNone shape content

-- neither the attribute nor an element of its nested list is an `Other` whose attribute type has a row
abbrev pub HidesNone : Table → AttrValue → Type 0
HidesNone table (Case k content) = HidesNoneBy (class_at table k) content
HidesNone table (Other f p) = class_at table (kind_of f) ≡ None

-- ---- uncut: each name is written without truncation and without a NUL

-- the name of an element, if it has one, is uncut
abbrev pub LeafIsUncut : Leaf → Type 0
LeafIsUncut (Case k v) = IsUncut v
LeafIsUncut (Other f p) = Unit {0}

-- each name in a content is uncut
abbrev pub ContentIsUncut : Content → Type 0
ContentIsUncut (Single v) = IsUncut v
ContentIsUncut (Inner flagged vs) = AllByRecursion LeafIsUncut vs
ContentIsUncut (Listed octets) = Unit {0}

-- each name in an attribute is uncut
abbrev pub AttrIsUncut : AttrValue → Type 0
AttrIsUncut (Case k content) = ContentIsUncut content
AttrIsUncut (Other f p) = Unit {0}

-- plain: in range, hiding none, and uncut
pub record IsPlain (table : Table) (v : AttrValue) : Type 0 where
  pub in_range : IsInRange table v
  pub hides_none : HidesNone table v
  pub uncut : AttrIsUncut v

-- ---- memory

-- values of this variant, or `Other`, may be heap-allocated
abbrev pub HoldsMemory : Table → AttrValue → Type 0
HoldsMemory table (Case k content) = TakesMemoryBy (class_at table k)
HoldsMemory table (Other f p) = Unit {0}
