-- Which error an entry has, if several apply.
use Rattle.std.specs.Prelude.{ℕ, ◌+◌, ◌^◌, ◌%◌, ◌==◌, ◌&&◌, ◌||◌, Bool, true, not, List, length, Option, Some, None, Result, Ok, Err, nat_lt, nat_le, if◌then◌else◌}
use Rattle.link_base.specs.Frame.{kind_limit, max_payload}
use Rattle.link_entries.specs.declared.entry.Entry.{Entry}
use Rattle.link_entries.specs.declared.fields.Fields.{Fields}
use Rattle.link_entries.specs.declared.fields.Fields.TheVariants as fields
use Rattle.link_entries.specs.declared.misfit.Misfit.{Misfit}
use Rattle.link_entries.specs.declared.misfit.Misfit.TheVariants.{TooLong, BadForm, BadNumber, BadOctets}
use Rattle.link_entries.specs.Payload.{is_i32, has_form, has_size, holds_flag}

-- whether an attribute with these fields can hold the numbers of an entry; without a row, these are its type and flags
abbrev pub holds_numbers : Fields → Entry → Bool
holds_numbers (fields.Number form width most order) e = nat_le e.number most
holds_numbers fields.FlagOrBool e = holds_flag e.length e.number
holds_numbers fields.Signed e = is_i32 e.number
holds_numbers (fields.Shorts form second_first) e = nat_lt e.number (2 ^ 16) && nat_lt e.second (2 ^ 16)
holds_numbers (fields.Words form second_first) e = nat_lt e.number (2 ^ 32)
holds_numbers fields.Protocol e = (e.number == 0x8100) || (e.number == 0x88A8)
holds_numbers fields.BridgeId e = nat_lt e.number (2 ^ 16)
holds_numbers fields.Unknown e = nat_lt e.kind kind_limit && (e.flags % kind_limit == 0)
holds_numbers own e = true

-- whether the bytes that an entry refers to were passed in, and are as many as there must be
abbrev pub is_passed : Option ℕ → Entry → List ℕ → Bool
is_passed size e octets = has_size size e && nat_le (e.offset + e.length) (length octets)

-- whether the octets of an entry have the length of an attribute with these fields, and its bytes were passed in
abbrev pub has_octets : Fields → Entry → List ℕ → Bool
has_octets (fields.Address form size) e octets = e.length == size
has_octets fields.BridgeId e octets = e.length == 8
has_octets fields.FlagOrBool e octets = nat_le e.length 1
has_octets (fields.Passed form size) e octets = is_passed size e octets
has_octets fields.Peer e octets = nat_le 16 e.length && is_passed None e octets
has_octets fields.Limits e octets = is_passed (Some 48) e octets
has_octets fields.Unknown e octets = is_passed None e octets
has_octets own e octets = true

-- whether the bytes that an entry refers to fit in an attribute
abbrev pub is_short : Fields → Entry → Bool
is_short (fields.Passed form size) e = nat_le e.length max_payload
is_short fields.Peer e = nat_le e.length max_payload
is_short fields.Limits e = nat_le e.length max_payload
is_short fields.Unknown e = nat_le e.length max_payload
is_short own e = true

-- the first error that applies
abbrev pub first_of : Bool → Bool → Bool → Bool → Option Misfit
first_of form numbers octets short =
    if not form then Some BadForm
    else (if not numbers then Some BadNumber
    else (if not octets then Some BadOctets
    else (if not short then Some TooLong
    else None)))

-- that of an entry without its elements
abbrev pub first_misfit : Fields → Entry → List ℕ → Option Misfit
first_misfit own e octets = first_of (has_form own e) (holds_numbers own e) (has_octets own e octets) (is_short own e)

-- the error, if there is one
abbrev pub misfit_in : Result (List ℕ) Misfit → Option Misfit
misfit_in (Ok p) = None
misfit_in (Err misfit) = Some misfit
