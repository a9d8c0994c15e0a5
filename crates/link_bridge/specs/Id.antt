-- Bridge IDs: what payloads mean, and the bytes of values.
use Rattle.std.specs.Prelude.{ℕ, List, [], ◌∷◌, ◌++◌, take, drop, reverse}
use Rattle.link_base.specs.Number.{number, bytes_of, bytes_be}
use Rattle.link_base.specs.Class.{Value, Raw}
use Rattle.link_base.specs.Fields.{FieldRow}
use Rattle.link_base.specs.Structs.{packed}
use Rattle.link_base.specs.Payloads.{u16_be, mac, field}
use Rattle.link_bridge.specs.declared.bridge.id.BridgeId.{BridgeId}
use Rattle.link_bridge.specs.declared.bridge.id.BridgeIdBuffer.{BridgeIdBuffer}

-- the ID in a payload: the big-endian priority, then the address
abbrev pub id_of : List ℕ → BridgeId
id_of p = record { priority = number (reverse (take 2 p)); address = take 6 (drop 2 p) }

-- its fields, and what they hold
abbrev pub id_fields : List FieldRow
id_fields = field "prio" 0 u16_be ∷ field "addr" 2 mac ∷ []

abbrev pub id_held : BridgeId → List Value
id_held id = Raw (bytes_be 2 id.priority) ∷ Raw id.address ∷ []

-- the bytes of an ID
abbrev pub id_octets : BridgeId → List ℕ
id_octets id = packed (id_held id)

-- the bytes of the two fields of an ID
abbrev pub buffer_of : BridgeId → BridgeIdBuffer
buffer_of id = record { priority = reverse (bytes_of 2 id.priority); address = id.address }

-- the ID with these bytes
abbrev pub id_of_buffer : BridgeIdBuffer → BridgeId
id_of_buffer buffer = record { priority = number (reverse buffer.priority); address = buffer.address }

-- the bytes of the buffer's priority
abbrev pub priority_octets : BridgeIdBuffer → List ℕ
priority_octets buffer = buffer.priority
