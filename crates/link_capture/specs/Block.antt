-- The blocks of a pcapng file.
use Rattle.std.specs.Prelude.{◌≡◌, ◌≢◌, ◌<◌, ◌≤◌, ℕ, ◌+◌, ◌*◌, ◌-◌, ◌^◌, ◌==◌, ◌&&◌, ◌||◌, ℤ, pos, ◌+ℤ◌, ◌*ℤ◌, List, [], ◌∷◌, ◌++◌, length, take, drop, slice_get, Option, Some, None, Result, Ok, Err, nat_lt, if◌then◌else◌}
use Rattle.link_capture.specs.declared.error.InputError.{InputError}
use Rattle.link_capture.specs.declared.error.InputError.TheVariants as errors
use Rattle.link_capture.specs.declared.error.Size.TheVariants as sizes
use Rattle.link_capture.specs.declared.event.Event.{Event}
use Rattle.link_capture.specs.declared.event.Time.{Time}
use Rattle.link_capture.specs.declared.form.Form.TheVariants.{Blocks}
use Rattle.link_capture.specs.declared.options.Clock.{Clock}
use Rattle.link_capture.specs.declared.order.Order.{Order}
use Rattle.link_capture.specs.declared.pcapng.Interface.{Interface}
use Rattle.link_capture.specs.Form.{section}
use Rattle.link_capture.specs.Order.{number_at}
use Rattle.link_capture.specs.Options.{IsClock}
use Rattle.link_capture.specs.Meaning.{UnitMeaning, Nothing, APacket, State, meaning_of}

-- what is known after a block, with what it means; or its error
abbrev pub After : Type 0
After = Result (UnitMeaning × State) InputError

-- a block that shows nothing, and leaves the order and the interfaces
abbrev pub passed : Order → List Interface → After
passed order is = Ok (Nothing, record { form = Blocks order; interfaces = is })

-- what is known after a block, by what a function returns and the interfaces then
abbrev pub after_block : Order → List Interface → Result Event InputError → After
after_block order is (Ok event) = Ok (meaning_of event, record { form = Blocks order; interfaces = is })
after_block order is (Err error) = Err error

-- ---- sections

-- a section has its order, and no interfaces
abbrev pub sectioned : Order → List ℕ → After
sectioned order u =
    let major = number_at order 2 12 u in
    let minor = number_at order 2 14 u in
    if nat_lt (length u) 28 then Err (errors.Small sizes.Section (length u) 28)
    else (if (major == 1) && ((minor == 0) || (minor == 2)) then passed order []
    else Err (errors.PcapngVersion major minor))

-- ---- interfaces

-- the most interfaces of a section
abbrev pub most_interfaces : ℕ
most_interfaces = 256

-- the bytes of the options of an interface
abbrev pub options_in : List ℕ → List ℕ
options_in u = take (length u - 20) (drop 16 u)

abbrev pub with_clock : Order → List Interface → List ℕ → Result Clock InputError → After
with_clock order is u (Err error) = Err error
with_clock order is u (Ok clock) = passed order (is ++ record { link_type = number_at order 2 8 u; clock = clock } ∷ [])

-- one more interface: long enough for one, not above the most, and with options that can be read
pub data IsDescribed (order : Order) (is : List Interface) (u : List ℕ) (after : After) : Type 0 where
  Small : length u < 20 → after ≡ Err (errors.Small sizes.Interface (length u) 20) → IsDescribed order is u after
  TooMany : 20 ≤ length u → length is ≡ most_interfaces → after ≡ Err errors.Interfaces → IsDescribed order is u after
  Read : 20 ≤ length u → length is ≢ most_interfaces → (clock : Result Clock InputError) → IsClock order (options_in u) clock → after ≡ with_clock order is u clock → IsDescribed order is u after

-- ---- packets

-- a time of an interface in nanoseconds: units of a power of ten, and the seconds to add
abbrev pub instant : Clock → ℕ → ℤ
instant clock units = pos (units * 10 ^ (9 - clock.digits)) +ℤ clock.offset *ℤ pos 1_000_000_000

-- the units of a packet's time: the high and the low half
abbrev pub units_in : Order → List ℕ → ℕ
units_in order u = number_at order 4 12 u * 2 ^ 32 + number_at order 4 16 u

-- when a packet was captured
abbrev pub time_in : Order → Clock → List ℕ → Time
time_in order clock u = record { nanosecond = instant clock (units_in order u); digits = clock.digits }

-- a packet of this interface
abbrev pub packet_from : Order → List Interface → List ℕ → Option Interface → After
packet_from order is u None = Err (errors.Interface (number_at order 4 8 u))
packet_from order is u (Some interface) =
    let captured = number_at order 4 20 u in
    if nat_lt (length u - 32) captured then Err (errors.Overrun sizes.Captured captured (length u - 32))
    else Ok (
      APacket (record {
        time = time_in order interface.clock u;
        original = number_at order 4 24 u;
        link_type = interface.link_type;
        bytes = take captured (drop 28 u);
      }),
      record { form = Blocks order; interfaces = is },
    )

abbrev pub packed : Order → List Interface → List ℕ → After
packed order is u =
    if nat_lt (length u) 32 then Err (errors.Small sizes.Packet (length u) 32)
    else packet_from order is u (slice_get is (number_at order 4 8 u))

-- ---- blocks

-- a section header, an enhanced packet, a block that is not read, or one that is passed over
abbrev pub other : Order → List Interface → List ℕ → ℕ → After
other order is u kind =
    if kind == section then sectioned order u
    else (if kind == 6 then packed order is u
    else (if (kind == 2) || (kind == 3) then Err (errors.Unread kind)
    else passed order is))

-- the length at the end of a block
abbrev pub last_length : Order → List ℕ → ℕ
last_length order u = number_at order 4 (length u - 4) u

-- a whole block u, in its order: its two lengths are equal, and it is an interface or another
pub data IsBlock (order : Order) (is : List Interface) (u : List ℕ) (after : After) : Type 0 where
  Unequal : last_length order u ≢ length u → after ≡ Err (errors.Unequal (length u) (last_length order u)) → IsBlock order is u after
  Describes : last_length order u ≡ length u → number_at order 4 0 u ≡ 1 → IsDescribed order is u after → IsBlock order is u after
  Others : last_length order u ≡ length u → number_at order 4 0 u ≢ 1 → after ≡ other order is u (number_at order 4 0 u) → IsBlock order is u after
