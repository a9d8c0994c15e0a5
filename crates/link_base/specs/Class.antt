-- Classes of payloads: which payloads a class accepts, what they mean, and how values are written.
use Rattle.std.specs.Prelude.{◌≡◌, ◌⊎◌, ℕ, ℤ, FitsSigned, ◌%◌, ◌<◌, ◌≤◌, ◌==◌, Bool, true, List, [], ◌∷◌, ◌++◌, length, take, drop, reverse, slice_index, Option, Some, None, Result, Ok, Err, nat_lt, if◌then◌else◌}
use Rattle.std.specs.Int.{w32, cast_signed, cast_unsigned}
use Rattle.std.specs.List.{list_any}
use Rattle.std.specs.Str.{IsUtf8}
use Rattle.link_base.specs.Number.{IsBytes, number, bytes_of, bound}
use Rattle.link_base.specs.Name.{name_of, name_field, cut_name, HasNoNul, IsNameField}
use Rattle.link_base.specs.declared.wire.fault.Cause.{Cause}
use Rattle.link_base.specs.declared.wire.fault.Cause.TheVariants.{WrongLength, TooShort}

-- ---- lengths

-- the accepted lengths: `Exactly` n bytes; `AtLeast` n bytes, of which all classes except `Bytes` and `Headed` ignore those
-- after the first n; `Fixed`, exactly n bytes with one cause for fewer and another for more; a `Multiple` of n bytes; `AtMost` n
-- bytes
pub data Extent : Type 0 where
  Exactly AtLeast Fixed Multiple AtMost : ℕ → Extent

-- the number of bytes that are kept of a struct; in a well-formed table `Octets` never has the extent `Multiple` or `AtMost`
abbrev pub size_of : Extent → ℕ
size_of (Exactly n) = n
size_of (AtLeast n) = n
size_of (Fixed n) = n
size_of (Multiple n) = 0
size_of (AtMost n) = 0

-- why a payload of this length is rejected
abbrev pub length_cause : Extent → ℕ → Option Cause
length_cause (Exactly n) got = if got == n then None else Some (WrongLength n got)
length_cause (AtLeast n) got = if nat_lt got n then Some (TooShort n got) else None
length_cause (Fixed n) got = if nat_lt got n then Some (TooShort n got) else (if nat_lt n got then Some (WrongLength n got) else None)
length_cause (Multiple n) got = if got % n == 0 then None else Some (WrongLength n got)
length_cause (AtMost n) got = if nat_lt n got then Some (WrongLength n got) else None

-- the value if there is no cause, otherwise the cause
abbrev pub unless : {A : Type 0} → Option Cause → A → Result A Cause
unless None x = Ok x
unless (Some c) x = Err c

-- what a payload of this extent means, or the cause if it is rejected
abbrev pub accepted : {A : Type 0} → Extent → (List ℕ → A) → List ℕ → Result A Cause
accepted e meaning p = unless (length_cause e (length p)) (meaning p)

-- the value without the cause
abbrev pub value_only : {A : Type 0} → Result A Cause → Option A
value_only (Ok x) = Some x
value_only (Err c) = None

-- ---- classes and their values

pub data Class : Type 0 where
  -- an unsigned number of n bytes, or a set of flags
  Unsigned : ℕ → Class
  -- a signed number of four bytes (`i32`)
  Signed : Class
  -- a boolean: false if the byte is zero, otherwise true
  Truth : Class
  -- a flag, which is set by being there: no byte, or a boolean
  Optional : Class
  -- bytes that are kept unchanged: hardware and IP addresses, and structs
  Octets : Extent → Class
  -- bytes, of any length
  Bytes : Class
  -- bytes of which the first n are a header, and what follows it, of any length
  Headed : ℕ → Class
  -- an array of numbers of n bytes each
  Many : ℕ → Class
  -- a number of n bytes, and the numbers that have names
  Named : ℕ → List ℕ → Class
  -- a VLAN protocol: an EtherType, a big-endian `u16`
  Protocol : Class
  -- the first of two bytes, a set of flags
  Low : Class
  -- no value: the payload is ignored
  Empty : Class
  -- the limits of a CAN controller: a name field, and eight `u32`s
  Limits : Class

pub data Value : Type 0 where
  -- the number of bytes, and the number
  Number : ℕ → ℕ → Value
  -- a signed number
  Integer : ℤ → Value
  -- a boolean
  Boolean : Bool → Value
  -- unchanged bytes
  Raw : List ℕ → Value
  -- the number of bytes, and a number that has a name
  Name : ℕ → ℕ → Value
  -- the number of bytes, the numbers that have names, and a number in the variant `Other`
  Unlisted : ℕ → List ℕ → ℕ → Value
  -- 0x8100 or 0x88A8
  EtherType : ℕ → Value
  -- the first of two bytes
  LowByte : ℕ → Value
  -- no value
  Nothing : Value
  -- a name, and the 32 bytes of the eight numbers
  Limited : List ℕ → List ℕ → Value

-- the lengths of the payloads of a class
abbrev pub extent : Class → Extent
extent (Unsigned n) = Exactly n
extent Signed = Exactly 4
extent Truth = Exactly 1
extent Optional = AtMost 1
extent (Octets e) = e
extent Bytes = AtLeast 0
extent (Headed n) = AtLeast n
extent (Many n) = Multiple n
extent (Named n listed) = Exactly n
extent Protocol = Exactly 2
extent Low = Exactly 2
extent Empty = AtLeast 0
extent Limits = AtLeast 48

-- whether the number has a name
abbrev pub is_listed : List ℕ → ℕ → Bool
is_listed listed d = list_any (λ l. l == d) listed

-- a number of n bytes, which is a `Name` if it is listed
abbrev pub named : ℕ → List ℕ → ℕ → Value
named n listed d = if is_listed listed d then Name n d else Unlisted n listed d

-- 0x88A8 (802.1ad) is unchanged; every other number becomes 0x8100 (802.1Q)
abbrev pub ether_type : ℕ → ℕ
ether_type n = if n == 0x88A8 then 0x88A8 else 0x8100

-- a little-endian signed number of four bytes (`i32`)
abbrev pub integer : List ℕ → ℤ
integer p = cast_signed w32 (number p)

-- a flag: none if there is no byte, otherwise whether the byte is not zero
abbrev pub flag_in : List ℕ → Option Bool
flag_in [] = None
flag_in (b ∷ p) = Some (nat_lt 0 b)

-- whether it is on: it is, without a byte
abbrev pub is_on : Option Bool → Bool
is_on None = true
is_on (Some b) = b

-- its value
abbrev pub flag_value : Option Bool → Value
flag_value None = Nothing
flag_value (Some b) = Boolean b

-- what an accepted payload means
abbrev pub meant : Class → List ℕ → Value
meant (Unsigned n) p = Number n (number p)
meant Signed p = Integer (integer p)
meant Truth p = Boolean (nat_lt 0 (number p))
meant Optional p = flag_value (flag_in p)
meant (Octets e) p = Raw (take (size_of e) p)
meant Bytes p = Raw p
meant (Headed n) p = Raw p
meant (Many n) p = Raw p
meant (Named n listed) p = named n listed (number p)
meant Protocol p = EtherType (ether_type (number (reverse p)))
meant Low p = LowByte (slice_index p 0)
meant Empty p = Nothing
meant Limits p = Limited (name_of (take 16 p)) (take 32 (drop 16 p))

-- the value of a payload, or the cause if it is rejected
abbrev pub class_value : Class → List ℕ → Result Value Cause
class_value c p = accepted (extent c) (meant c) p

-- the written payload of a value
abbrev pub written : Value → List ℕ
written (Number n x) = bytes_of n x
written (Integer z) = bytes_of 4 (cast_unsigned w32 z)
written (Boolean b) = (if b then 1 else 0) ∷ []
written (Raw bytes) = bytes
written (Name n d) = bytes_of n d
written (Unlisted n listed d) = bytes_of n d
written (EtherType d) = reverse (bytes_of 2 d)
written (LowByte b) = b ∷ 0 ∷ []
written Nothing = []
written (Limited name rest) = name_field name ++ rest

-- ---- `canon`, the normal form, and `cut`

-- `Other` of a number that has a name becomes the name; other values are unchanged
abbrev pub canon : Value → Value
canon (Unlisted n listed d) = named n listed d
canon v = v

-- a name becomes what its written form decodes to; other values are unchanged
abbrev pub cut : Value → Value
cut (Limited name rest) = Limited (cut_name name) rest
cut v = v

-- a name, if there is one, is written without truncation and without a NUL
abbrev pub IsUncut : Value → Type 0
IsUncut (Limited name rest) = HasNoNul name × (length name ≤ 15)
IsUncut v = Unit {0}

-- ---- values that a program can hold

-- the value belongs to the class, its numbers are in the range of their types, and its strings are UTF-8
abbrev pub IsInRange : Class → Value → Type 0
IsInRange (Unsigned n) (Number m x) = (m ≡ n) × (x < bound n)
IsInRange Signed (Integer z) = FitsSigned w32 z
IsInRange Truth (Boolean b) = Unit {0}
IsInRange Optional Nothing = Unit {0}
IsInRange Optional (Boolean b) = Unit {0}
IsInRange (Octets e) (Raw bytes) = (length bytes ≡ size_of e) × IsBytes bytes
IsInRange Bytes (Raw bytes) = IsBytes bytes
IsInRange (Headed n) (Raw bytes) = (n ≤ length bytes) × IsBytes bytes
IsInRange (Many n) (Raw bytes) = (length bytes % n ≡ 0) × IsBytes bytes
IsInRange (Named n listed) (Name m d) = (m ≡ n) × (d < bound n) × (is_listed listed d ≡ true)
IsInRange (Named n listed) (Unlisted m names d) = (m ≡ n) × (d < bound n) × (names ≡ listed)
IsInRange Protocol (EtherType d) = (d ≡ 0x8100) ⊎ (d ≡ 0x88A8)
IsInRange Low (LowByte b) = b < 256
IsInRange Empty Nothing = Unit {0}
IsInRange Limits (Limited name rest) = IsUtf8 name × (length rest ≡ 32) × IsBytes rest
IsInRange c v = ⊥

-- ---- canonical payloads

-- an accepted payload is what is written for its value
abbrev pub IsTidy : Class → List ℕ → Type 0
IsTidy Truth p = (p ≡ 0 ∷ []) ⊎ (p ≡ 1 ∷ [])
IsTidy Optional p = (p ≡ []) ⊎ ((p ≡ 0 ∷ []) ⊎ (p ≡ 1 ∷ []))
IsTidy (Octets e) p = length p ≡ size_of e
IsTidy Protocol p = (p ≡ 0x81 ∷ 0x00 ∷ []) ⊎ (p ≡ 0x88 ∷ 0xA8 ∷ [])
IsTidy Low p = slice_index p 1 ≡ 0
IsTidy Empty p = p ≡ []
IsTidy Limits p = (length p ≡ 48) × IsNameField (take 16 p)
IsTidy c p = Unit {0}

-- the payload is accepted and tidy
pub record IsCanonicalPayload (c : Class) (p : List ℕ) : Type 0 where
  pub is_accepted : length_cause (extent c) (length p) ≡ None
  pub is_tidy : IsTidy c p

-- ---- memory

-- values of the class may be heap-allocated
abbrev pub TakesMemory : Class → Type 0
TakesMemory Bytes = Unit {0}
TakesMemory (Headed n) = Unit {0}
TakesMemory (Many n) = Unit {0}
TakesMemory Limits = Unit {0}
TakesMemory c = ⊥
