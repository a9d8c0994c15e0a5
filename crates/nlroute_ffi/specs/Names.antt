-- The version, and the names of attribute types, of the numbers of enums, and of the bits of sets of flags.
use Rattle.std.specs.Prelude.{ℕ, ◌^◌, ◌==◌, ◌&&◌, ◌||◌, Bool, true, false, List, [], ◌++◌, Option, Some, None, Result, Ok, Err, codes, nat_lt, if◌then◌else◌}
use Rattle.std.specs.Fmt.{decimal}
use Rattle.link_base.specs.declared.rows.form.Form.{Form}
use Rattle.link_base.specs.declared.rows.form.Form.TheVariants as forms
use Rattle.link_base.specs.declared.rows.form.Role.TheVariants as roles
use Rattle.link_base.specs.Labels.{name_in}
use Rattle.link_base.specs.Table.{Label, label_at}
use Rattle.link_base.specs.Borrowed.{elements_at}
use Rattle.netlink_packet_route.specs.declared.family.Family.{Family}
use Rattle.netlink_packet_route.specs.Family.{table_of}
use Rattle.link_show.specs.Fault.{kind_text}
use Rattle.link_entries.specs.declared.entry.Entry.{Entry}
use Rattle.nlroute_ffi.specs.declared.refusal.Refusal.{Refusal}
use Rattle.nlroute_ffi.specs.Buffers.{Stores, NameAnswers}

-- NLROUTE_VERSION of the header: a byte each for major, minor and patch
abbrev pub version : ℕ
version = 0x000300

-- ---- what is known of an entry

-- whether the elements of an attribute type are addresses or numbers, which have an index in place of a type
abbrev pub has_indices : Form → Bool
has_indices (forms.Addresses n) = true
has_indices (forms.Numbers a) = true
has_indices form = false

abbrev pub holds_indices : Option Label → Bool
holds_indices None = false
holds_indices (Some label) = has_indices label.form

-- an address of a list, or a number of an array
abbrev pub is_indexed : Family → Entry → Bool
is_indexed family e = (e.depth == 1) && holds_indices (label_at (table_of family) e.kind)

-- what is known of the type of an attribute, or of an element; an address or a number has that of its list. An element is no
-- list: at greater depths there are no types
abbrev pub label_for : Family → Entry → Option Label
label_for family e =
    if (e.depth == 0) || is_indexed family e then label_at (table_of family) e.kind
    else (if e.depth == 1 then label_at (elements_at (table_of family) e.kind) e.inner
    else None)

-- the type of an attribute, or of an element
abbrev pub own_kind : Entry → ℕ
own_kind e = if e.depth == 0 then e.kind else e.inner

-- ---- names

-- the name of a place of an array
abbrev pub place_name : Option Label → ℕ → Option (List ℕ)
place_name None index = None
place_name (Some label) index = name_in label.names index

-- the name of a place, or its index if it has none
abbrev pub place_text : Option (List ℕ) → ℕ → List ℕ
place_text (Some name) index = name
place_text None index = codes "[" ++ (decimal index ++ codes "]")

-- the name of an attribute type; of an address or a number of an array, that of its place
abbrev pub kind_name : Family → Entry → List ℕ
kind_name family e =
    if is_indexed family e then place_text (place_name (label_for family e) e.inner) e.inner
    else kind_text (label_for family e) (own_kind e)

abbrev pub KindNameAnswers : Entry → List ℕ → List ℕ → Family → Result ℕ Refusal → Type 0
KindNameAnswers e old new family (Ok n) = Stores (kind_name family e) old new n
KindNameAnswers e old new family (Err refusal) = ⊥

-- the names of the numbers of an attribute type: of an enum, or a VLAN protocol
abbrev pub number_names_by : Form → Label → List (ℕ × List ℕ)
number_names_by (forms.Number w order roles.Enum) label = label.names
number_names_by (forms.Number w order roles.Coded) label = label.names
number_names_by forms.Protocol label = label.names
number_names_by form label = []

abbrev pub number_name : Option Label → ℕ → Option (List ℕ)
number_name None n = None
number_name (Some label) n = name_in (number_names_by label.form label) n

abbrev pub NumberNameAnswers : Entry → List ℕ → List ℕ → Family → Result ℕ Refusal → Type 0
NumberNameAnswers e old new family result = NameAnswers (number_name (label_for family e) e.number) old new result

-- the names of the bits of an attribute type: of a set of flags, or of those in a struct
abbrev pub bit_names_by : Form → Label → List (ℕ × List ℕ)
bit_names_by (forms.Number w order roles.Flags) label = label.names
bit_names_by forms.LowFlags label = label.names
bit_names_by forms.MaskedFlags label = label.names
bit_names_by (forms.Struct layout) label = label.names
bit_names_by form label = []

-- the name of a bit, which counts from 0; a set of flags has at most 64
abbrev pub flag_name : Option Label → ℕ → Option (List ℕ)
flag_name None bit = None
flag_name (Some label) bit = if nat_lt bit 64 then name_in (bit_names_by label.form label) (2 ^ bit) else None

abbrev pub FlagNameAnswers : Entry → ℕ → List ℕ → List ℕ → Family → Result ℕ Refusal → Type 0
FlagNameAnswers e bit old new family result = NameAnswers (flag_name (label_for family e) bit) old new result
