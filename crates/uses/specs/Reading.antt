-- Numbers that are looked up in a list.
use Rattle.std.specs.Prelude.{◌≡◌, ◌≢◌, ℕ, ◌<◌, List, length, slice_index_or, Option, option_map, Contains, MatchOption}
use Rattle.netlink_packet_route.specs.Number.{number}
use Rattle.netlink_packet_route.specs.Frame.{Frame, Frames}
use Rattle.netlink_packet_route.specs.Table.{Table, Decodes}
use Rattle.netlink_packet_route.specs.Viewed.{last_of}

-- the first of the values that `make` makes is `make x`: it is at some index, and none is at a lower one
abbrev pub HasFirst : {V X : Type 0} → (X → V) → List V → X → Type 0
HasFirst {V} {X} make vs x =
    (i : ℕ) × (i < length vs) × (slice_index_or vs i (make x) ≡ make x) × ((y : X) (k : ℕ) → k < i → slice_index_or vs k (make y) ≢ make y)

-- the same of `found`, which is `None` if there is no such value
abbrev pub FindsFirst : {V X : Type 0} → (X → V) → List V → Option X → Type 0
FindsFirst {V} {X} make vs found = MatchOption found ((x : X) → ¬ Contains vs (make x)) (HasFirst make vs)

-- the number in the payload of an attribute
abbrev pub number_in : ℕ × List ℕ → ℕ
number_in attribute = number attribute.1

-- s decodes, and `found` is the number in the payload of its last attribute of type k, or `None` if it has none
pub record IsLastNumber (table : Table) (s : List ℕ) (k : ℕ) (found : Option ℕ) : Type 0 where
  pub decodes : Decodes table s
  pub attributes : List Frame
  pub list : Frames s attributes
  pub last : found ≡ option_map number_in (last_of k attributes)
