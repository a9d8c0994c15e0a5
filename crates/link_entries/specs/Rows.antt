-- What entries of an attribute type hold, and how it is written.
use Rattle.std.specs.Prelude.{ℕ, ◌==◌, nat_lt, Option, Some, None, if◌then◌else◌}
use Rattle.link_base.specs.Borrowed.{elements_at}
use Rattle.link_base.specs.Forms.{bytes_in}
use Rattle.link_base.specs.Table.{Table}
use Rattle.link_entries.specs.declared.fields.Fields.{Fields}
use Rattle.link_entries.specs.declared.fields.Fields.TheVariants as fields
use Rattle.link_entries.specs.declared.row.Row.{Row}
use Rattle.link_base.specs.Number.{four_bytes}
use Rattle.link_entries.specs.Fields.{array_number, ip_address, fields_at}
use Rattle.link_entries.specs.Payload.{form_in}
use Rattle.link_entries.specs.Units.{unit_at}

-- the length that bytes must have, if it is fixed
abbrev pub size_or_0 : Option ℕ → ℕ
size_or_0 None = 0
size_or_0 (Some n) = n

-- the number of bytes that hold every number of the type, each of two numbers, the address, or what an entry refers to; 0 if
-- there may be any number of them, or if there are none
abbrev pub width_in : Fields → ℕ
width_in (fields.Number form width most order) = if nat_lt most 256 then 1 else bytes_in width
width_in fields.FlagOrBool = 1
width_in fields.Signed = 4
width_in (fields.Shorts form second_first) = 2
width_in (fields.Words form second_first) = 4
width_in fields.Protocol = 2
width_in (fields.Address form size) = size
width_in fields.BridgeId = 8
width_in (fields.Passed form size) = size_or_0 size
width_in fields.Limits = 48
width_in own = 0

-- the flags of `nla_type` that are written; those of an attribute without a row are its own
abbrev pub flags_in : Fields → ℕ
flags_in (fields.List flag) = flag
flags_in own = 0

-- whether elements follow
abbrev pub list_in : Fields → ℕ
list_in (fields.Numbers a) = 1
list_in (fields.Addresses size) = 1
list_in (fields.List flag) = 1
list_in own = 0

abbrev pub row_by : Fields → ℕ → Row
row_by own unit = record { width = four_bytes (width_in own); flags = flags_in own; form = form_in own; is_list = list_in own; unit = unit }

-- for an element i of a list whose entries have these fields and this unit, which numbers and addresses have too; `table` has
-- the rows of its elements
abbrev pub element_row : Table → Fields → ℕ → ℕ → Option Row
element_row table (fields.Numbers a) unit i = Some (row_by (array_number a) unit)
element_row table (fields.Addresses size) unit i = Some (row_by (ip_address size) unit)
element_row table (fields.List flag) unit i = Some (row_by (fields_at table i) (unit_at table i))
element_row table own unit i = None

-- for an attribute of type k, or its element i; none if the attribute is no list, or at other depths
abbrev pub row_of_type : Table → ℕ → ℕ → ℕ → Option Row
row_of_type table k i depth =
    if depth == 0 then Some (row_by (fields_at table k) (unit_at table k))
    else (if depth == 1 then element_row (elements_at table k) (fields_at table k) (unit_at table k) i
    else None)
