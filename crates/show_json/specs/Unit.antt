-- The documents for the units of an input.
use Rattle.std.specs.Prelude.{◌≡◌, ℕ, Bool, List, ◌++◌, Some, None, codes}
use Rattle.json.specs.Json.{Json}
use Rattle.link_capture.specs.declared.event.Time.{Time}
use Rattle.link_capture.specs.ErrorText.{bytes_text, error_text}
use Rattle.link_capture.specs.OtherFormat.{format_text}
use Rattle.link_capture.specs.Meaning.{Captured}
use Rattle.link_json.specs.Doc.{Field}
use Rattle.link_json.specs.Message.{document_line}
use Rattle.link_json.specs.Other.{place_document}
use Rattle.show_captures.specs.Shower.{UnitShower}
use Rattle.show_captures.specs.Packet.{ShowsCarried}
use Rattle.show_json.specs.declared.by_json.Json.{Json as Form}
use Rattle.show_json.specs.Clock.{ShowsClock}
use Rattle.show_json.specs.Line.{ShowsDocuments, fault_line}
use Rattle.show_json.specs.Place.{file_of, file_fields, time_fields, packet_fields}

-- the error of a packet with n bytes, too few for its header
abbrev pub short_line : List Field → ℕ → List ℕ
short_line place n = fault_line place (Some 0) (bytes_text n ++ codes ", too few for a cooked header")

-- a packet: the documents for its messages, or one
abbrev pub ShowsPacketAt : List Field → Captured → List ℕ → Bool → Type 0
ShowsPacketAt place = ShowsCarried (ShowsDocuments place) (short_line place) (document_line (place_document place))

abbrev pub ShowsPacket : Form → ℕ → Captured → List ℕ → Bool → Type 0
ShowsPacket json number p out well = (clock : Json) × ShowsClock p.time clock × ShowsPacketAt (packet_fields (file_of json) number clock p) p out well

-- the record of a time
abbrev pub ShowsTime : Form → Time → List ℕ → Type 0
ShowsTime json time out = (clock : Json) × ShowsClock time clock × (out ≡ document_line (place_document (time_fields (file_of json) clock)))

-- what is written for units
abbrev pub units_json : Form → UnitShower
units_json json = record {
  packets = ShowsPacket json;
  messages = ShowsDocuments (file_fields (file_of json));
  times = ShowsTime json;
  errors = λ at error. fault_line (file_fields (file_of json)) (Some at) (error_text error);
  formats = λ format. fault_line (file_fields (file_of json)) None (format_text format);
}
