-- The payloads that entries encode to.
use Rattle.std.specs.Prelude.{ℕ, ◌+◌, ◌-◌, ◌^◌, ◌%◌, ◌==◌, ◌&&◌, ◌||◌, Bool, true, false, List, [], ◌++◌, length, take, drop, reverse, Option, Some, None, Result, Ok, Err, nat_lt, nat_le, if◌then◌else◌}
use Rattle.std.specs.Borrow.{Bor}
use Rattle.link_base.specs.Forms.{bytes_in as width_of}
use Rattle.link_base.specs.Number.{bytes_of}
use Rattle.link_base.specs.Orders.{bytes_by}
use Rattle.link_base.specs.Frame.{kind_limit, max_payload}
use Rattle.link_base.specs.Class as classes
use Rattle.link_base.specs.Class.{meant, written}
use Rattle.link_entries.specs.declared.entry.Entry.{Entry}
use Rattle.link_entries.specs.Forms.{form_empty, form_bool, form_signed, form_named, form_bridge_id, form_peer, form_bittiming_const, form_list, form_unknown}
use Rattle.link_entries.specs.declared.fields.Fields.{Fields}
use Rattle.link_entries.specs.declared.fields.Fields.TheVariants as fields
use Rattle.link_entries.specs.declared.misfit.Misfit.{Misfit}
use Rattle.link_entries.specs.declared.misfit.Misfit.TheVariants.{TooLong, BadForm, BadNumber, BadOctets}

-- ---- forms

-- the form of the entries of an attribute type
abbrev pub form_in : Fields → ℕ
form_in fields.Empty = form_empty
form_in (fields.Number form width most order) = form
form_in fields.FlagOrBool = form_bool
form_in fields.Signed = form_signed
form_in (fields.Shorts form second_first) = form
form_in (fields.Words form second_first) = form
form_in fields.Protocol = form_named
form_in (fields.Address form size) = form
form_in fields.BridgeId = form_bridge_id
form_in (fields.Passed form size) = form
form_in fields.Peer = form_peer
form_in fields.Limits = form_bittiming_const
form_in (fields.Numbers a) = form_list
form_in (fields.Addresses size) = form_list
form_in (fields.List flag) = form_list
form_in fields.Unknown = form_unknown

-- whether 0 stands for this form: not if the attribute type has no row
abbrev pub is_implied : Fields → Bool
is_implied fields.Unknown = false
is_implied own = true

-- whether an entry has the form of its attribute type
abbrev pub has_form : Fields → Entry → Bool
has_form own e = (e.form == form_in own) || ((e.form == 0) && is_implied own)

-- ---- payloads

-- these bytes if a test holds, otherwise the error
abbrev pub only_if : Bool → Misfit → List ℕ → Result (List ℕ) Misfit
only_if test misfit p = if test then Ok p else Err misfit

-- whether an entry refers to as many bytes as there must be, if their number is fixed
abbrev pub has_size : Option ℕ → Entry → Bool
has_size None e = true
has_size (Some n) e = e.length == n

-- the bytes that an entry refers to, of those passed in
abbrev pub passed : Option ℕ → Entry → List ℕ → Result (List ℕ) Misfit
passed size e octets =
    if has_size size e && nat_le (e.offset + e.length) (length octets)
    then only_if (nat_le e.length max_payload) TooLong (take e.length (drop e.offset octets))
    else Err BadOctets

-- the bytes that an entry refers to, if they have a header
abbrev pub headed : Entry → List ℕ → Result (List ℕ) Misfit
headed e octets = if nat_le 16 e.length then passed None e octets else Err BadOctets

-- the limits of a CAN controller, as a rewriting writes them
abbrev pub rewritten : Result (List ℕ) Misfit → Result (List ℕ) Misfit
rewritten (Ok p) = Ok (written (meant classes.Limits p))
rewritten (Err misfit) = Err misfit

-- whether a number of 64 bits is a signed number of 32
abbrev pub is_i32 : ℕ → Bool
is_i32 n = nat_lt n (2 ^ 31) || nat_le (2 ^ 64 - 2 ^ 31) n

-- whether the number x is one of a flag of n bytes: without a byte it is on
abbrev pub holds_flag : ℕ → ℕ → Bool
holds_flag n x = if n == 0 then x == 1 else nat_le x 1

-- a flag of n bytes, which are none or one
abbrev pub flag_payload : ℕ → ℕ → Result (List ℕ) Misfit
flag_payload n x = if holds_flag n x then only_if (nat_le n 1) BadOctets (take n (bytes_of 1 x)) else Err BadNumber

-- two fields of a struct, in their order
abbrev pub pair_of : Bool → List ℕ → List ℕ → List ℕ
pair_of second_first number second = if second_first then second ++ number else number ++ second

-- the payload, without elements
abbrev pub content_of : Fields → Entry → List ℕ → Result (List ℕ) Misfit
content_of fields.Empty e octets = Ok []
content_of (fields.Number form width most order) e octets = only_if (nat_le e.number most) BadNumber (bytes_by order (width_of width) e.number)
content_of fields.FlagOrBool e octets = flag_payload e.length e.number
content_of fields.Signed e octets = only_if (is_i32 e.number) BadNumber (bytes_of 4 e.number)
content_of (fields.Shorts form second_first) e octets = only_if (nat_lt e.number (2 ^ 16) && nat_lt e.second (2 ^ 16)) BadNumber (pair_of second_first (bytes_of 2 e.number) (bytes_of 2 e.second))
content_of (fields.Words form second_first) e octets = only_if (nat_lt e.number (2 ^ 32)) BadNumber (pair_of second_first (bytes_of 4 e.number) (bytes_of 4 e.second))
content_of fields.Protocol e octets = only_if ((e.number == 0x8100) || (e.number == 0x88A8)) BadNumber (reverse (bytes_of 2 e.number))
content_of (fields.Address form size) e octets = only_if (e.length == size) BadOctets (take size e.octets)
content_of fields.BridgeId e octets = if nat_lt e.number (2 ^ 16) then only_if (e.length == 8) BadOctets (reverse (bytes_of 2 e.number) ++ take 6 e.octets) else Err BadNumber
content_of (fields.Passed form size) e octets = passed size e octets
content_of fields.Peer e octets = headed e octets
content_of fields.Limits e octets = rewritten (passed (Some 48) e octets)
content_of (fields.Numbers a) e octets = Ok []
content_of (fields.Addresses size) e octets = Ok []
content_of (fields.List flag) e octets = Ok []
content_of fields.Unknown e octets = if nat_lt e.kind kind_limit && (e.flags % kind_limit == 0) then passed None e octets else Err BadNumber

-- likewise, if the form is that of the attribute type
abbrev pub payload_of : Fields → Entry → List ℕ → Result (List ℕ) Misfit
payload_of own e octets = if has_form own e then content_of own e octets else Err BadForm

-- the `nla_type` of an attribute or an element of type k
abbrev pub field_of : Fields → ℕ → Entry → ℕ
field_of (fields.List flag) k e = k + flag
field_of fields.Unknown k e = k + e.flags
field_of own k e = k

-- ---- as functions return them

-- the bytes that an entry refers to
abbrev pub slice_value : Result (Bor (List ℕ)) Misfit → Result (List ℕ) Misfit
slice_value (Ok p) = Ok p.now
slice_value (Err misfit) = Err misfit
