-- The numbers that represent a result and a decode error. Family of netlink_packet_route has those of attribute sets.
use Rattle.std.specs.Prelude.{ℕ, ℤ, pos, negsuc, List, [], ◌∷◌, Result, Ok, Err}
use Rattle.netlink_packet_route.specs.declared.link.Cause.{Cause}
use Rattle.netlink_packet_route.specs.declared.link.Cause.TheVariants.{ShortFrame, SmallLength, Overrun, WrongLength, TooShort, AddressLength}
use Rattle.netlink_packet_route.specs.declared.link.DecodeFault.{DecodeFault}
use Rattle.netlink_packet_route.specs.declared.link.DecodeFault.TheVariants.{Frame, Value, NestedFrame, NestedValue, Payload, Text}
use Rattle.nlroute_ffi.specs.declared.refusal.Refusal.{Refusal}
use Rattle.nlroute_ffi.specs.declared.refusal.Refusal.TheVariants.{Fault, TooLong, Memory, NoRoom, NoFamily, Absent, BadForm, BadNumber, BadElement, BadOctets, BadType, NoIndex, BadName, NoSet, BadDepth, Repeated}

-- the result for the C caller: a length or a count, or an error code from -1 to -16 (`negsuc n` is -1 - n)
abbrev pub code_of : Result ℕ Refusal → ℤ
code_of (Ok n) = pos n
code_of (Err Fault) = negsuc 0
code_of (Err TooLong) = negsuc 1
code_of (Err Memory) = negsuc 2
code_of (Err NoRoom) = negsuc 3
code_of (Err NoFamily) = negsuc 4
code_of (Err Absent) = negsuc 5
code_of (Err BadForm) = negsuc 6
code_of (Err BadNumber) = negsuc 7
code_of (Err BadElement) = negsuc 8
code_of (Err BadOctets) = negsuc 9
code_of (Err BadType) = negsuc 10
code_of (Err NoIndex) = negsuc 11
code_of (Err BadName) = negsuc 12
code_of (Err NoSet) = negsuc 13
code_of (Err BadDepth) = negsuc 14
code_of (Err Repeated) = negsuc 15

-- the causes, as `enum nlroute_cause` of the header numbers them
abbrev pub short_frame : ℕ
short_frame = 1

abbrev pub small_length : ℕ
small_length = 2

abbrev pub overrun : ℕ
overrun = 3

abbrev pub wrong_length : ℕ
wrong_length = 4

abbrev pub too_short : ℕ
too_short = 5

abbrev pub address_length : ℕ
address_length = 6

-- a cause: its number, and its own numbers in the order of its `Display` output, with 0 if it has only one
abbrev pub cause_numbers : Cause → List ℕ
cause_numbers (ShortFrame left) = short_frame ∷ left ∷ 0 ∷ []
cause_numbers (SmallLength size) = small_length ∷ size ∷ 0 ∷ []
cause_numbers (Overrun size left) = overrun ∷ size ∷ left ∷ []
cause_numbers (WrongLength want got) = wrong_length ∷ want ∷ got ∷ []
cause_numbers (TooShort want got) = too_short ∷ want ∷ got ∷ []
cause_numbers (AddressLength got) = address_length ∷ got ∷ 0 ∷ []

-- the parts that may be malformed, as `enum nlroute_place` of the header numbers them; in a list, those from 4 on never are
abbrev pub frame : ℕ
frame = 0

abbrev pub payload : ℕ
payload = 1

abbrev pub element_frame : ℕ
element_frame = 2

abbrev pub element_payload : ℕ
element_payload = 3

abbrev pub bare_payload : ℕ
bare_payload = 4

abbrev pub text : ℕ
text = 5

-- of a message: `struct nlmsghdr`; `struct ifinfomsg` behind it; `struct nlmsgerr`
abbrev pub message_header : ℕ
message_header = 6

abbrev pub link_header : ℕ
link_header = 7

abbrev pub reply_header : ℕ
reply_header = 8

-- a decode error: the offset of its attribute, the part that is malformed, the type of the attribute, the type of the
-- element in its list (each 0 if there is none), and the cause
abbrev pub fault_numbers : ℕ → DecodeFault → List ℕ
fault_numbers at (Frame c) = at ∷ frame ∷ 0 ∷ 0 ∷ cause_numbers c
fault_numbers at (Value kind c) = at ∷ payload ∷ kind ∷ 0 ∷ cause_numbers c
fault_numbers at (NestedFrame kind c) = at ∷ element_frame ∷ kind ∷ 0 ∷ cause_numbers c
fault_numbers at (NestedValue kind inner c) = at ∷ element_payload ∷ kind ∷ inner ∷ cause_numbers c
fault_numbers at (Payload c) = at ∷ bare_payload ∷ 0 ∷ 0 ∷ cause_numbers c
fault_numbers at Text = at ∷ text ∷ 0 ∷ 0 ∷ 0 ∷ 0 ∷ 0 ∷ []
