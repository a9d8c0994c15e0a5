-- The forms of entries, as `enum nlroute_form` of the C API numbers them.
use Rattle.std.specs.Prelude.{ℕ}

-- no value
abbrev pub form_empty : ℕ
form_empty = 1

-- a boolean
abbrev pub form_bool : ℕ
form_bool = 2

-- an unsigned number
abbrev pub form_unsigned : ℕ
form_unsigned = 3

-- a signed number
abbrev pub form_signed : ℕ
form_signed = 4

-- the number of an enum
abbrev pub form_named : ℕ
form_named = 5

-- a set of flags
abbrev pub form_flags : ℕ
form_flags = 6

-- a set of flags, and a mask
abbrev pub form_masked : ℕ
form_masked = 7

-- a hardware address
abbrev pub form_mac : ℕ
form_mac = 8

-- IP addresses
abbrev pub form_ipv4 : ℕ
form_ipv4 = 9

abbrev pub form_ipv6 : ℕ
form_ipv6 = 10

-- structs
abbrev pub form_bridge_id : ℕ
form_bridge_id = 11

abbrev pub form_vlan_info : ℕ
form_vlan_info = 12

abbrev pub form_qos_mapping : ℕ
form_qos_mapping = 13

abbrev pub form_berr_counter : ℕ
form_berr_counter = 14

abbrev pub form_bittiming : ℕ
form_bittiming = 15

abbrev pub form_bittiming_const : ℕ
form_bittiming_const = 16

-- bytes
abbrev pub form_bytes : ℕ
form_bytes = 17

-- a list
abbrev pub form_list : ℕ
form_list = 18

-- the payload of an attribute whose type has no row
abbrev pub form_unknown : ℕ
form_unknown = 19

-- a text
abbrev pub form_text : ℕ
form_text = 20

-- a list of another set
abbrev pub form_held : ℕ
form_held = 21

-- a header of 16 bytes, then a list of attributes of a link
abbrev pub form_peer : ℕ
form_peer = 22
