use Rattle.std.proofs.Common.{◌∷◌, [], codes}
use Rattle.link_capture.specs.Meaning.{captured_of}
use Rattle.link_json.proofs.Loops.{on_ok}
use Rattle.link_json.proofs.Objects.{field_only, fields_then}
use Rattle.show_json.specs.Clock.{clock_json}
use Rattle.show_json.specs.Place.{file_of, file_fields, packet_json}
use Rattle.show_json.proofs.places.PacketPlacePlace.write_fields.Goals as goal

pub returns : goal.returns
returns c =
    let place = c.args.self.now in
    let packet = packet_json place.number (clock_json place.clock) (captured_of place.packet) in
    on_ok c.write_packet.result
    (λ written. fields_then c.args.doc.now c.write_fields.new.doc c.write_packet.new.doc (file_fields (file_of place.json)) ((codes "packet", packet) ∷ []) c.in_ok-write_fields.ensures
    (field_only c.write_fields.new.doc c.key.new.self c.write_packet.new.doc (codes "packet") packet c.in_ok-key.ensures written))
    c.write_packet.ensures
