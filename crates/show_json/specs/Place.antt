-- The members that say where a document is from.
use Rattle.std.specs.Prelude.{ℕ, List, [], ◌∷◌, ◌++◌, length, Option, Some, None, codes}
use Rattle.std.specs.Option.{option_copied}
use Rattle.json.specs.Json.{Json, null, string}
use Rattle.link_base.specs.Labels.{name_in}
use Rattle.link_capture.specs.Meaning.{Captured}
use Rattle.link_json.specs.Doc.{Field, object_of, number_json, named_json}
use Rattle.show_captures.specs.Packet.{protocol_in}
use Rattle.show_captures.specs.Protocol.{protocols}
use Rattle.show_json.specs.declared.by_json.Json.{Json as Form}

-- the name of the file, if files were named
abbrev pub file_of : Form → Option (List ℕ)
file_of json = option_copied json.file

abbrev pub file_fields : Option (List ℕ) → List Field
file_fields None = []
file_fields (Some name) = (codes "file", string name) ∷ []

-- a line with this number
abbrev pub line_fields : Option (List ℕ) → ℕ → List Field
line_fields file n = file_fields file ++ (codes "line", number_json n) ∷ []

-- the record of a time, which a clock shows so
abbrev pub time_fields : Option (List ℕ) → Json → List Field
time_fields file clock = file_fields file ++ (codes "time", clock) ∷ []

-- a protocol of netlink, by number and by name
abbrev pub protocol_json : Option ℕ → Json
protocol_json None = null
protocol_json (Some n) = named_json n (name_in protocols n)

-- a packet with this number, at a time which a clock shows so
abbrev pub packet_json : ℕ → Json → Captured → Json
packet_json number clock p = object_of (
    (codes "number", number_json number) ∷
    (codes "time", clock) ∷
    (codes "len", number_json (length p.bytes)) ∷
    (codes "original_len", number_json p.original) ∷
    (codes "link_type", number_json p.link_type) ∷
    (codes "protocol", protocol_json (protocol_in p)) ∷ [])

abbrev pub packet_fields : Option (List ℕ) → ℕ → Json → Captured → List Field
packet_fields file number clock p = file_fields file ++ (codes "packet", packet_json number clock p) ∷ []
